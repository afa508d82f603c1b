use Rattle.std.proofs.Common.{◌≡◌, ℕ, List, Some, None, take, drop, ◌++◌, ◌+◌, ◌-◌, ◌*◌, length, sym, ap, ◌∙◌, arith}
use borrow.Rule.Slice.PartMut.{put_mid}
use Rattle.std.specs.Option.{option_map}
use Rattle.std.proofs.lemmas.List.{length-take, length-drop}
use Rattle.std.proofs.lemmas.Slice.{take-put_mid}
use Rattle.ipld_cid.proofs.Octets.{blocks_decoded, decoded-stops, decoded-goes_on, decoded-ends, written_to_end}
use Rattle.ipld_cid.proofs.from_text.decode_letters.Goals as goal

pub returns-in_err-five : goal.returns-in_err-five
returns-in_err-five c =
    rw c.from_residual.ensures (
    decoded-stops c.args.letters.now (take (5 * c.loop-i.i) c.loop-i.bytes) c.as_chunks.result.0.now c.as_chunks.result.1.now c.loop-i.i
    c.as_chunks.ensures.front c.as_chunks.ensures.back c.loop-i.invariant c.loop-i-test.true (sym c.in_err-five.ensures))

pub returns-in_err-last : goal.returns-in_err-last
returns-in_err-last c =
    rw c.from_residual-in_err-last.ensures (
    decoded-ends c.args.letters.now (take (5 * c.loop-i.i) c.loop-i.bytes) c.as_chunks.result.0.now c.as_chunks.result.1.now c.loop-i.i None
    c.as_chunks.ensures.front c.as_chunks.ensures.back c.loop-i.invariant c.loop-i-test.false c.in_err-last.ensures)

pub loop-i-preserved : goal.loop-i-preserved
loop-i-preserved c =
    let i = c.loop-i.i in
    let bytes = c.loop-i.bytes in
    let blocks = c.as_chunks.result.0.now in
    let rest = c.as_chunks.result.1.now in
    let five = c.in_ok-five.five in
    let now : take (5 * (i + 1)) (put_mid (5 * i) (5 * i + 5 - 5 * i) bytes c.copy_from_slice.new.self) ≡ take (5 * i) bytes ++ five =
    take-put_mid (5 * i) (5 * i + 5 - 5 * i) bytes c.copy_from_slice.new.self (5 * (i + 1)) (omega arith) (omega arith) ∙ ap (λ (new : List ℕ). take (5 * i) bytes ++ new) c.copy_from_slice.ensures.after in
    decoded-goes_on (take (5 * i) bytes) five blocks rest i (blocks_decoded blocks rest) c.loop-i.invariant c.loop-i-test.true c.in_ok-five.ensures
    ∙ ap (λ (front : List ℕ). option_map (λ (more : List ℕ). front ++ more) (blocks_decoded (drop (i + 1) blocks) rest)) (sym now)

pub copy_from_slice-requires-2 : goal.copy_from_slice-requires-2
copy_from_slice-requires-2 c =
    let start = 5 * length c.as_chunks.result.0.now in
    omega (arith, length-take c.in_ok-last.count c.in_ok-last.last, length-take (length c.loop-i.bytes - start) (drop start c.loop-i.bytes), length-drop start c.loop-i.bytes, c.in_ok-last.ensures.0)

pub returns : goal.returns
returns c =
    let i = c.loop-i.i in
    let bytes = c.loop-i.bytes in
    let last = take c.in_ok-last.count c.in_ok-last.last in
    let all : i ≡ length c.as_chunks.result.0.now = omega arith in
    decoded-ends c.args.letters.now (take (5 * i) bytes) c.as_chunks.result.0.now c.as_chunks.result.1.now i (Some last)
    c.as_chunks.ensures.front c.as_chunks.ensures.back c.loop-i.invariant c.loop-i-test.false c.in_ok-last.ensures.1
    ∙ ap (λ (bytes : List ℕ). Some bytes) (ap (λ (k : ℕ). take (5 * k) bytes ++ last) all ∙ ap (λ (end : List ℕ). take (5 * length c.as_chunks.result.0.now) bytes ++ end) (sym c.copy_from_slice-2.ensures.after)
    ∙ sym (written_to_end (5 * length c.as_chunks.result.0.now) bytes c.copy_from_slice-2.new.self))
