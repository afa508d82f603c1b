use Rattle.std.proofs.Common.{[], ◌≡◌, ◌∙◌}
use Rattle.ipld_tokens.specs.CutTrees.{EndsWrong, EndsInBadCid, EndsWithRepeatedKey, IsUnfinished, EndsAllocating}
use Rattle.ipld_tokens.specs.Outcome.{IfMemory, IfToken, IfCid, IfEnd, IfSource, IfDuplicateKey, Taken}
use Rattle.ipld_tokens.specs.ReadContract.{Reads}
use Rattle.ipld_tokens.specs.LimitContract.{flatten}
use Rattle.ipld_tokens.proofs.Verdicts.{link_laws}
use Rattle.ipld_tokens.proofs.TreeRead as plain
use Rattle.ipld_tokens.proofs.LimitRuns.{reads_within}
use Rattle.ipld_tokens.proofs.LimitRead.{unless_map, unlimited, kept, left, deep, many, only_beyond, found, only_item, only_tree, larger, only_wrong, only_bad_cid, only_repeated_key, only_unfinished, source_fails, if_source, if_end}
use Rattle.ipld_tokens.proofs.read.read_ipld_within.Goals as goal

pub returns-clause-found : goal.returns-clause-found
returns-clause-found g c =
    let law = c.cid_bytes_law.ensures in
    rw c.read_error_of.ensures
    (found c.args.limits.now (g.T.TokenSource.remaining c.args.source.now) (g.T.TokenSource.remaining c.consume.new.source) (link_laws 64 law.encoded_is_read law.each_has_an_encoding law.encoded_is_valid law.one_encoding)
    (flatten c.consume.result) (reads_within c.args.limits.now (g.T.TokenSource.remaining c.args.source.now) (g.T.TokenSource.remaining c.consume.new.source) c.consume.result (rw c.new.ensures at c.consume.ensures.consumes)))

pub returns-clause-only : goal.returns-clause-only
returns-clause-only g c =
    let law = c.cid_bytes_law.ensures in
    rw c.read_error_of.ensures
    (only_item c.args.limits.now (g.T.TokenSource.remaining c.args.source.now) (g.T.TokenSource.remaining c.consume.new.source) (link_laws 64 law.encoded_is_read law.each_has_an_encoding law.encoded_is_valid law.one_encoding)
    (flatten c.consume.result) (reads_within c.args.limits.now (g.T.TokenSource.remaining c.args.source.now) (g.T.TokenSource.remaining c.consume.new.source) c.consume.result (rw c.new.ensures at c.consume.ensures.consumes)))

pub returns-clause-tree : goal.returns-clause-tree
returns-clause-tree g c =
    let law = c.cid_bytes_law.ensures in
    rw c.read_error_of.ensures
    (only_tree c.args.limits.now (g.T.TokenSource.remaining c.args.source.now) (g.T.TokenSource.remaining c.consume.new.source) (link_laws 64 law.encoded_is_read law.each_has_an_encoding law.encoded_is_valid law.one_encoding)
    (flatten c.consume.result) (reads_within c.args.limits.now (g.T.TokenSource.remaining c.args.source.now) (g.T.TokenSource.remaining c.consume.new.source) c.consume.result (rw c.new.ensures at c.consume.ensures.consumes)))

pub returns-clause-larger : goal.returns-clause-larger
returns-clause-larger g c =
    let law = c.cid_bytes_law.ensures in
    rw c.read_error_of.ensures
    (larger c.args.limits.now (g.T.TokenSource.remaining c.args.source.now) (g.T.TokenSource.remaining c.consume.new.source) (link_laws 64 law.encoded_is_read law.each_has_an_encoding law.encoded_is_valid law.one_encoding)
    (flatten c.consume.result) (reads_within c.args.limits.now (g.T.TokenSource.remaining c.args.source.now) (g.T.TokenSource.remaining c.consume.new.source) c.consume.result (rw c.new.ensures at c.consume.ensures.consumes)))

pub returns-clause-too_deep : goal.returns-clause-too_deep
returns-clause-too_deep g c =
    let law = c.cid_bytes_law.ensures in
    rw c.read_error_of.ensures
    (deep c.args.limits.now (g.T.TokenSource.remaining c.args.source.now) (g.T.TokenSource.remaining c.consume.new.source) (link_laws 64 law.encoded_is_read law.each_has_an_encoding law.encoded_is_valid law.one_encoding)
    (flatten c.consume.result) (reads_within c.args.limits.now (g.T.TokenSource.remaining c.args.source.now) (g.T.TokenSource.remaining c.consume.new.source) c.consume.result (rw c.new.ensures at c.consume.ensures.consumes)))

pub returns-clause-too_many : goal.returns-clause-too_many
returns-clause-too_many g c =
    let law = c.cid_bytes_law.ensures in
    rw c.read_error_of.ensures
    (many c.args.limits.now (g.T.TokenSource.remaining c.args.source.now) (g.T.TokenSource.remaining c.consume.new.source) (link_laws 64 law.encoded_is_read law.each_has_an_encoding law.encoded_is_valid law.one_encoding)
    (flatten c.consume.result) (reads_within c.args.limits.now (g.T.TokenSource.remaining c.args.source.now) (g.T.TokenSource.remaining c.consume.new.source) c.consume.result (rw c.new.ensures at c.consume.ensures.consumes)))

pub returns-clause-beyond : goal.returns-clause-beyond
returns-clause-beyond g c =
    let law = c.cid_bytes_law.ensures in
    rw c.read_error_of.ensures
    (only_beyond c.args.limits.now (g.T.TokenSource.remaining c.args.source.now) (g.T.TokenSource.remaining c.consume.new.source) (link_laws 64 law.encoded_is_read law.each_has_an_encoding law.encoded_is_valid law.one_encoding)
    (flatten c.consume.result) (reads_within c.args.limits.now (g.T.TokenSource.remaining c.args.source.now) (g.T.TokenSource.remaining c.consume.new.source) c.consume.result (rw c.new.ensures at c.consume.ensures.consumes)))

pub returns-clause-kept : goal.returns-clause-kept
returns-clause-kept g c =
    rw c.read_error_of.ensures
    (kept c.args.limits.now (g.T.TokenSource.remaining c.args.source.now) (g.T.TokenSource.remaining c.consume.new.source) (flatten c.consume.result) (reads_within c.args.limits.now (g.T.TokenSource.remaining c.args.source.now) (g.T.TokenSource.remaining c.consume.new.source) c.consume.result (rw c.new.ensures at c.consume.ensures.consumes)))

pub returns-clause-left : goal.returns-clause-left
returns-clause-left g c =
    left c.args.limits.now (g.T.TokenSource.remaining c.args.source.now) (g.T.TokenSource.remaining c.consume.new.source) (flatten c.consume.result) (reads_within c.args.limits.now (g.T.TokenSource.remaining c.args.source.now) (g.T.TokenSource.remaining c.consume.new.source) c.consume.result (rw c.new.ensures at c.consume.ensures.consumes))

pub returns-clause-token : goal.returns-clause-token
returns-clause-token g c =
    let law = c.cid_bytes_law.ensures in
    rw c.read_error_of.ensures
    (unless_map (Reads (g.T.TokenSource.remaining c.args.source.now) (g.T.TokenSource.remaining c.consume.new.source)) (λ r. IfToken r (Taken EndsWrong (g.T.TokenSource.remaining c.args.source.now) (g.T.TokenSource.remaining c.consume.new.source))) (plain.wrong (g.T.TokenSource.remaining c.args.source.now) (g.T.TokenSource.remaining c.consume.new.source) (link_laws 64 law.encoded_is_read law.each_has_an_encoding law.encoded_is_valid law.one_encoding)) (flatten c.consume.result)
    (unlimited c.args.limits.now (g.T.TokenSource.remaining c.args.source.now) (g.T.TokenSource.remaining c.consume.new.source) (flatten c.consume.result) (reads_within c.args.limits.now (g.T.TokenSource.remaining c.args.source.now) (g.T.TokenSource.remaining c.consume.new.source) c.consume.result (rw c.new.ensures at c.consume.ensures.consumes))))

pub returns-clause-cid : goal.returns-clause-cid
returns-clause-cid g c =
    let law = c.cid_bytes_law.ensures in
    rw c.read_error_of.ensures
    (unless_map (Reads (g.T.TokenSource.remaining c.args.source.now) (g.T.TokenSource.remaining c.consume.new.source)) (λ r. IfCid r (λ cid_error. Taken (EndsInBadCid cid_error) (g.T.TokenSource.remaining c.args.source.now) (g.T.TokenSource.remaining c.consume.new.source))) (plain.no_cid (g.T.TokenSource.remaining c.args.source.now) (g.T.TokenSource.remaining c.consume.new.source) (link_laws 64 law.encoded_is_read law.each_has_an_encoding law.encoded_is_valid law.one_encoding)) (flatten c.consume.result)
    (unlimited c.args.limits.now (g.T.TokenSource.remaining c.args.source.now) (g.T.TokenSource.remaining c.consume.new.source) (flatten c.consume.result) (reads_within c.args.limits.now (g.T.TokenSource.remaining c.args.source.now) (g.T.TokenSource.remaining c.consume.new.source) c.consume.result (rw c.new.ensures at c.consume.ensures.consumes))))

pub returns-clause-duplicate_key : goal.returns-clause-duplicate_key
returns-clause-duplicate_key g c =
    let law = c.cid_bytes_law.ensures in
    rw c.read_error_of.ensures
    (unless_map (Reads (g.T.TokenSource.remaining c.args.source.now) (g.T.TokenSource.remaining c.consume.new.source)) (λ r. IfDuplicateKey r (Taken EndsWithRepeatedKey (g.T.TokenSource.remaining c.args.source.now) (g.T.TokenSource.remaining c.consume.new.source))) (plain.again (g.T.TokenSource.remaining c.args.source.now) (g.T.TokenSource.remaining c.consume.new.source) (link_laws 64 law.encoded_is_read law.each_has_an_encoding law.encoded_is_valid law.one_encoding)) (flatten c.consume.result)
    (unlimited c.args.limits.now (g.T.TokenSource.remaining c.args.source.now) (g.T.TokenSource.remaining c.consume.new.source) (flatten c.consume.result) (reads_within c.args.limits.now (g.T.TokenSource.remaining c.args.source.now) (g.T.TokenSource.remaining c.consume.new.source) c.consume.result (rw c.new.ensures at c.consume.ensures.consumes))))

pub returns-clause-end : goal.returns-clause-end
returns-clause-end g c =
    let law = c.cid_bytes_law.ensures in
    rw c.read_error_of.ensures
    (unless_map (Reads (g.T.TokenSource.remaining c.args.source.now) (g.T.TokenSource.remaining c.consume.new.source)) (λ r. IfEnd r (IsUnfinished (g.T.TokenSource.remaining c.args.source.now) × ((g.T.TokenSource.remaining c.consume.new.source) ≡ []))) (plain.end (g.T.TokenSource.remaining c.args.source.now) (g.T.TokenSource.remaining c.consume.new.source) (link_laws 64 law.encoded_is_read law.each_has_an_encoding law.encoded_is_valid law.one_encoding)) (flatten c.consume.result)
    (unlimited c.args.limits.now (g.T.TokenSource.remaining c.args.source.now) (g.T.TokenSource.remaining c.consume.new.source) (flatten c.consume.result) (reads_within c.args.limits.now (g.T.TokenSource.remaining c.args.source.now) (g.T.TokenSource.remaining c.consume.new.source) c.consume.result (rw c.new.ensures at c.consume.ensures.consumes))))

pub returns-clause-memory : goal.returns-clause-memory
returns-clause-memory g c =
    let law = c.cid_bytes_law.ensures in
    rw c.read_error_of.ensures
    (unless_map (Reads (g.T.TokenSource.remaining c.args.source.now) (g.T.TokenSource.remaining c.consume.new.source)) (λ r. IfMemory r (Taken EndsAllocating (g.T.TokenSource.remaining c.args.source.now) (g.T.TokenSource.remaining c.consume.new.source))) (plain.memory (g.T.TokenSource.remaining c.args.source.now) (g.T.TokenSource.remaining c.consume.new.source) (link_laws 64 law.encoded_is_read law.each_has_an_encoding law.encoded_is_valid law.one_encoding)) (flatten c.consume.result)
    (unlimited c.args.limits.now (g.T.TokenSource.remaining c.args.source.now) (g.T.TokenSource.remaining c.consume.new.source) (flatten c.consume.result) (reads_within c.args.limits.now (g.T.TokenSource.remaining c.args.source.now) (g.T.TokenSource.remaining c.consume.new.source) c.consume.result (rw c.new.ensures at c.consume.ensures.consumes))))

pub returns-clause-source : goal.returns-clause-source
returns-clause-source g c =
    let law = c.cid_bytes_law.ensures in
    rw c.read_error_of.ensures
    (unless_map (Reads (g.T.TokenSource.remaining c.args.source.now) (g.T.TokenSource.remaining c.consume.new.source)) (λ r. IfSource r (λ fault. Taken IsUnfinished (g.T.TokenSource.remaining c.args.source.now) (g.T.TokenSource.remaining c.consume.new.source))) (plain.source (g.T.TokenSource.remaining c.args.source.now) (g.T.TokenSource.remaining c.consume.new.source) (link_laws 64 law.encoded_is_read law.each_has_an_encoding law.encoded_is_valid law.one_encoding)) (flatten c.consume.result)
    (unlimited c.args.limits.now (g.T.TokenSource.remaining c.args.source.now) (g.T.TokenSource.remaining c.consume.new.source) (flatten c.consume.result) (reads_within c.args.limits.now (g.T.TokenSource.remaining c.args.source.now) (g.T.TokenSource.remaining c.consume.new.source) c.consume.result (rw c.new.ensures at c.consume.ensures.consumes))))

pub returns-clause-wrong : goal.returns-clause-wrong
returns-clause-wrong g c =
    let law = c.cid_bytes_law.ensures in
    rw c.read_error_of.ensures
    (only_wrong c.args.limits.now (g.T.TokenSource.remaining c.args.source.now) (g.T.TokenSource.remaining c.consume.new.source) (link_laws 64 law.encoded_is_read law.each_has_an_encoding law.encoded_is_valid law.one_encoding)
    (flatten c.consume.result) (reads_within c.args.limits.now (g.T.TokenSource.remaining c.args.source.now) (g.T.TokenSource.remaining c.consume.new.source) c.consume.result (rw c.new.ensures at c.consume.ensures.consumes)))

pub returns-clause-bad_cid : goal.returns-clause-bad_cid
returns-clause-bad_cid g c =
    let law = c.cid_bytes_law.ensures in
    rw c.read_error_of.ensures
    (only_bad_cid c.args.limits.now (g.T.TokenSource.remaining c.args.source.now) (g.T.TokenSource.remaining c.consume.new.source) (link_laws 64 law.encoded_is_read law.each_has_an_encoding law.encoded_is_valid law.one_encoding)
    (flatten c.consume.result) (reads_within c.args.limits.now (g.T.TokenSource.remaining c.args.source.now) (g.T.TokenSource.remaining c.consume.new.source) c.consume.result (rw c.new.ensures at c.consume.ensures.consumes)))

pub returns-clause-repeated_key : goal.returns-clause-repeated_key
returns-clause-repeated_key g c =
    let law = c.cid_bytes_law.ensures in
    rw c.read_error_of.ensures
    (only_repeated_key c.args.limits.now (g.T.TokenSource.remaining c.args.source.now) (g.T.TokenSource.remaining c.consume.new.source) (link_laws 64 law.encoded_is_read law.each_has_an_encoding law.encoded_is_valid law.one_encoding)
    (flatten c.consume.result) (reads_within c.args.limits.now (g.T.TokenSource.remaining c.args.source.now) (g.T.TokenSource.remaining c.consume.new.source) c.consume.result (rw c.new.ensures at c.consume.ensures.consumes)))

pub returns-clause-unfinished : goal.returns-clause-unfinished
returns-clause-unfinished g c =
    let law = c.cid_bytes_law.ensures in
    rw c.read_error_of.ensures
    (only_unfinished c.args.limits.now (g.T.TokenSource.remaining c.args.source.now) (g.T.TokenSource.remaining c.consume.new.source) (link_laws 64 law.encoded_is_read law.each_has_an_encoding law.encoded_is_valid law.one_encoding)
    (flatten c.consume.result) (reads_within c.args.limits.now (g.T.TokenSource.remaining c.args.source.now) (g.T.TokenSource.remaining c.consume.new.source) c.consume.result (rw c.new.ensures at c.consume.ensures.consumes)))

pub returns-clause-failed : goal.returns-clause-failed
returns-clause-failed g c =
    rw c.read_error_of.ensures (c.consume.ensures.failed ∙ source_fails c.consume.result)

pub returns-clause-allowed : goal.returns-clause-allowed
returns-clause-allowed g c =
    rw c.read_error_of.ensures (if_source (g.T.TokenSource.allows_fault (g.T.TokenSource.origin c.args.source.now)) c.consume.result c.consume.ensures.allowed)

pub returns-clause-ended : goal.returns-clause-ended
returns-clause-ended g c =
    rw c.read_error_of.ensures (if_end (g.T.TokenSource.allows_end (g.T.TokenSource.origin c.args.source.now)) c.consume.result c.consume.ensures.ended)
