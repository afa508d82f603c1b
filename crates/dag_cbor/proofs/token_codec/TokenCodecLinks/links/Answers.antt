use Rattle.std.proofs.Common.{[], Some, map, sym, ap, ◌∙◌}
use Rattle.std.proofs.lemmas.Result.{err_from_is_err_and}
use Rattle.ipld_cid.specs.LinkOf.{link_of}
use Rattle.ipld_tokens.specs.ExtractContract.{links_at}
use Rattle.dag_cbor_blocks.specs.Tokens.{MayFail}
use Rattle.dag_cbor.specs.CodecErrors.{error_of}
use Rattle.dag_cbor.proofs.TokenReads.{links_error, links_whole, nothing_over, fails_links, fails_first}
use Rattle.dag_cbor.proofs.token_codec.TokenCodecLinks.links.Goals as goal

may_fail : (c : goal.After-drop-source-in-Err-2) → MayFail c.args.bytes.now (error_of c.in-Err.error)
may_fail c =
    let read = c.in-Err.ensures in
    links_error c.args.bytes.now _ (c.new-source.ensures.begins, c.new-source.ensures.tokens) _ _ c.in-Err.error _
    read.token read.cid read.no_key read.ended read.only read.allowed c.new-source.ensures.block

pub returns-in-Err-clause-err : goal.returns-in-Err-clause-err
returns-in-Err-clause-err c =
    rw c.source_error.ensures (fails_links c.args.bytes.now (error_of c.in-Err.error) c.block_law.ensures.errors c.block_law.ensures.links_only (may_fail c))

pub returns-in-Err-clause-first : goal.returns-in-Err-clause-first
returns-in-Err-clause-first c = rw c.source_error.ensures (fails_first c.args.bytes.now (error_of c.in-Err.error) (may_fail c))

pub returns-in_err-next_token-clause-err : goal.returns-in_err-next_token-clause-err
returns-in_err-next_token-clause-err c =
    let p = err_from_is_err_and c.from_residual.result c.from_residual.ensures.1 in
    let fault = c.in_err-next_token.field-0.0 in
    let may = rw (c.deserialize.ensures.origin ∙ c.new-source.ensures.block) at c.in_err-next_token.ensures.next.1 in
    rw (p.1, p.2) (fails_links c.args.bytes.now fault c.block_law.ensures.errors c.block_law.ensures.links_only may)

pub returns-in-None-clause-ok : goal.returns-in-None-clause-ok
returns-in-None-clause-ok c =
    let next = rw c.in-None.is at c.in_ok-next_token.ensures.next in
    links_whole c.args.bytes.now _ (c.new-source.ensures.begins, c.new-source.ensures.tokens) _ (links_at c.in-Ok.links) next.2 (c.deserialize.ensures.origin ∙ c.new-source.ensures.block)
    (λ i e. (c.in-Ok.ensures.only i [] e).0) c.block_law.ensures.links
    ∙ ap Some (sym c.into_vec.ensures) ∙ ap (λ cids. Some (map link_of cids)) (sym c.new.ensures)

-- A token after the links of an item would be one that no block has.
no_token : goal.After-drop-source-4 → ⊥
no_token c =
    let next = rw c.in-Some.is at c.in_ok-next_token.ensures.next in
    let found = c.in-Ok.ensures.found in
    nothing_over c.args.bytes.now _ (c.new-source.ensures.begins, c.new-source.ensures.tokens) c.item_tokens_law.ensures.no_front _ _ found.0 _ found.1 next

pub returns-clause-err : goal.returns-clause-err
returns-clause-err c = absurd (no_token c)

pub returns-clause-first : goal.returns-clause-first
returns-clause-first c = absurd (no_token c)
