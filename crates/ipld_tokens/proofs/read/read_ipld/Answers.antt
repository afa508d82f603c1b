use Rattle.ipld_tokens.proofs.Verdicts.{link_laws}
use Rattle.ipld_tokens.proofs.TreeRead.{reads, left, found_item, only_item, tree_round_trip, only_wrong, only_bad_cid, only_repeated_key, only_unfinished, wrong, no_cid, again, memory, source, end}
use Rattle.ipld_tokens.proofs.read.read_ipld.Goals as goal

pub returns-clause-found : goal.returns-clause-found
returns-clause-found g c =
    let law = c.cid_bytes_law.ensures in
    found_item (g.T.TokenSource.remaining c.args.source.now) (g.T.TokenSource.remaining c.consume.new.source) (link_laws 64 law.encoded_is_read law.each_has_an_encoding law.encoded_is_valid law.one_encoding)
    c.consume.result (reads _ _ c.consume.result (rw c.new.ensures at c.consume.ensures.consumes))

pub returns-clause-only : goal.returns-clause-only
returns-clause-only g c =
    let law = c.cid_bytes_law.ensures in
    only_item (g.T.TokenSource.remaining c.args.source.now) (g.T.TokenSource.remaining c.consume.new.source) (link_laws 64 law.encoded_is_read law.each_has_an_encoding law.encoded_is_valid law.one_encoding)
    c.consume.result (reads _ _ c.consume.result (rw c.new.ensures at c.consume.ensures.consumes))

pub returns-clause-tree : goal.returns-clause-tree
returns-clause-tree g c =
    let law = c.cid_bytes_law.ensures in
    tree_round_trip (g.T.TokenSource.remaining c.args.source.now) (g.T.TokenSource.remaining c.consume.new.source) (link_laws 64 law.encoded_is_read law.each_has_an_encoding law.encoded_is_valid law.one_encoding)
    c.consume.result (reads _ _ c.consume.result (rw c.new.ensures at c.consume.ensures.consumes))

pub returns-clause-token : goal.returns-clause-token
returns-clause-token g c =
    let law = c.cid_bytes_law.ensures in
    wrong (g.T.TokenSource.remaining c.args.source.now) (g.T.TokenSource.remaining c.consume.new.source) (link_laws 64 law.encoded_is_read law.each_has_an_encoding law.encoded_is_valid law.one_encoding)
    c.consume.result (reads _ _ c.consume.result (rw c.new.ensures at c.consume.ensures.consumes))

pub returns-clause-cid : goal.returns-clause-cid
returns-clause-cid g c =
    let law = c.cid_bytes_law.ensures in
    no_cid (g.T.TokenSource.remaining c.args.source.now) (g.T.TokenSource.remaining c.consume.new.source) (link_laws 64 law.encoded_is_read law.each_has_an_encoding law.encoded_is_valid law.one_encoding)
    c.consume.result (reads _ _ c.consume.result (rw c.new.ensures at c.consume.ensures.consumes))

pub returns-clause-duplicate_key : goal.returns-clause-duplicate_key
returns-clause-duplicate_key g c =
    let law = c.cid_bytes_law.ensures in
    again (g.T.TokenSource.remaining c.args.source.now) (g.T.TokenSource.remaining c.consume.new.source) (link_laws 64 law.encoded_is_read law.each_has_an_encoding law.encoded_is_valid law.one_encoding)
    c.consume.result (reads _ _ c.consume.result (rw c.new.ensures at c.consume.ensures.consumes))

pub returns-clause-end : goal.returns-clause-end
returns-clause-end g c =
    let law = c.cid_bytes_law.ensures in
    end (g.T.TokenSource.remaining c.args.source.now) (g.T.TokenSource.remaining c.consume.new.source) (link_laws 64 law.encoded_is_read law.each_has_an_encoding law.encoded_is_valid law.one_encoding)
    c.consume.result (reads _ _ c.consume.result (rw c.new.ensures at c.consume.ensures.consumes))

pub returns-clause-left : goal.returns-clause-left
returns-clause-left g c =
    left (g.T.TokenSource.remaining c.args.source.now) (g.T.TokenSource.remaining c.consume.new.source) c.consume.result (reads _ _ c.consume.result (rw c.new.ensures at c.consume.ensures.consumes))

pub returns-clause-wrong : goal.returns-clause-wrong
returns-clause-wrong g c =
    let law = c.cid_bytes_law.ensures in
    only_wrong (g.T.TokenSource.remaining c.args.source.now) (g.T.TokenSource.remaining c.consume.new.source) (link_laws 64 law.encoded_is_read law.each_has_an_encoding law.encoded_is_valid law.one_encoding)
    c.consume.result (reads _ _ c.consume.result (rw c.new.ensures at c.consume.ensures.consumes))

pub returns-clause-bad_cid : goal.returns-clause-bad_cid
returns-clause-bad_cid g c =
    let law = c.cid_bytes_law.ensures in
    only_bad_cid (g.T.TokenSource.remaining c.args.source.now) (g.T.TokenSource.remaining c.consume.new.source) (link_laws 64 law.encoded_is_read law.each_has_an_encoding law.encoded_is_valid law.one_encoding)
    c.consume.result (reads _ _ c.consume.result (rw c.new.ensures at c.consume.ensures.consumes))

pub returns-clause-repeated_key : goal.returns-clause-repeated_key
returns-clause-repeated_key g c =
    let law = c.cid_bytes_law.ensures in
    only_repeated_key (g.T.TokenSource.remaining c.args.source.now) (g.T.TokenSource.remaining c.consume.new.source) (link_laws 64 law.encoded_is_read law.each_has_an_encoding law.encoded_is_valid law.one_encoding)
    c.consume.result (reads _ _ c.consume.result (rw c.new.ensures at c.consume.ensures.consumes))

pub returns-clause-unfinished : goal.returns-clause-unfinished
returns-clause-unfinished g c =
    let law = c.cid_bytes_law.ensures in
    only_unfinished (g.T.TokenSource.remaining c.args.source.now) (g.T.TokenSource.remaining c.consume.new.source) (link_laws 64 law.encoded_is_read law.each_has_an_encoding law.encoded_is_valid law.one_encoding)
    c.consume.result (reads _ _ c.consume.result (rw c.new.ensures at c.consume.ensures.consumes))

pub returns-clause-memory : goal.returns-clause-memory
returns-clause-memory g c =
    let law = c.cid_bytes_law.ensures in
    memory (g.T.TokenSource.remaining c.args.source.now) (g.T.TokenSource.remaining c.consume.new.source) (link_laws 64 law.encoded_is_read law.each_has_an_encoding law.encoded_is_valid law.one_encoding)
    c.consume.result (reads _ _ c.consume.result (rw c.new.ensures at c.consume.ensures.consumes))

pub returns-clause-source : goal.returns-clause-source
returns-clause-source g c =
    let law = c.cid_bytes_law.ensures in
    source (g.T.TokenSource.remaining c.args.source.now) (g.T.TokenSource.remaining c.consume.new.source) (link_laws 64 law.encoded_is_read law.each_has_an_encoding law.encoded_is_valid law.one_encoding)
    c.consume.result (reads _ _ c.consume.result (rw c.new.ensures at c.consume.ensures.consumes))
