use Rattle.std.proofs.Common.{◌≡◌, ℕ, true, false, List, [], Option, Some, None, get_or, take, sym, ap, ◌∙◌}
use Rattle.std.specs.Prelude.{is_some, MatchOption}
use Rattle.std.proofs.lemmas.List.{drop_all}
use Rattle.ipld_cid.specs.TextReading.{decoded}
use Rattle.ipld_cid.proofs.Octets.{blocks_decoded}
use Rattle.ipld_cid.proofs.LongTexts.{block_tested, block_fails, tested}
use Rattle.ipld_cid.proofs.from_text.are_decodable.Goals as goal

-- the last bytes are there just where the last letters encode some
last_tested : (n : ℕ) (last : Option (List ℕ × ℕ)) (found : Option (List ℕ)) → MatchOption last (found ≡ None) (λ l. (l.1 ≡ n) × (found ≡ Some (take l.1 l.0))) → is_some last ≡ is_some found
last_tested n None found e = ap is_some (sym e)
last_tested n (Some l) found e = ap is_some (sym e.1)

pub returns-then-is_none : goal.returns-then-is_none
returns-then-is_none c =
    let i = c.loop-block.block-index in
    let none : is_some (decoded (get_or c.as_chunks.result.0.now i [])) ≡ false = rw (c.if-is_none.true, c.block_bytes.ensures) at c.is_none.ensures in
    block_fails c.as_chunks.result.0.now c.as_chunks.result.1.now i _ c.loop-block-test.true none
    (sym (tested c.args.letters.now c.as_chunks.result.0.now c.as_chunks.result.1.now i c.as_chunks.ensures.front c.as_chunks.ensures.back) ∙ c.loop-block.invariant)

pub loop-block-preserved : goal.loop-block-preserved
loop-block-preserved c =
    let i = c.loop-block.block-index in
    let some : is_some (decoded (get_or c.as_chunks.result.0.now i [])) ≡ true = rw (c.if-is_none.false, c.block_bytes.ensures) at c.is_none.ensures in
    block_tested c.as_chunks.result.0.now c.as_chunks.result.1.now i _ c.loop-block-test.true some c.loop-block.invariant

pub returns : goal.returns
returns c =
    let i = c.loop-block.block-index in
    let blocks = c.as_chunks.result.0.now in
    let rest = c.as_chunks.result.1.now in
    c.is_some.ensures ∙ last_tested _ c.last_bytes.result (decoded rest) c.last_bytes.ensures ∙ ap (λ (bs : List (List ℕ)). is_some (blocks_decoded bs rest)) (sym (drop_all i blocks c.loop-block-test.false)) ∙ sym c.loop-block.invariant
    ∙ tested c.args.letters.now blocks rest i c.as_chunks.ensures.front c.as_chunks.ensures.back
