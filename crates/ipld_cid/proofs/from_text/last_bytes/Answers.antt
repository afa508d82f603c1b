use Rattle.std.proofs.Common.{◌≡◌, ℕ, ◌-◌, ◌*◌, ◌/◌, ◌%◌, ◌<◌, ◌≤◌, Bool, cond, eqb, List, ◌++◌, length, take, drop, Some, None, sym, ap, ◌∙◌, arith}
use Rattle.std.specs.Prelude.{replicate}
use Rattle.std.specs.List.{list_all}
use Rattle.std.specs.Option.{option_and_then}
use Rattle.std.proofs.lemmas.Bool.{cond-true, cond-false}
use Rattle.std.proofs.lemmas.List.{take_all, length-drop}
use Rattle.ipld_cid.specs.TextReading.{decoded}
use Rattle.ipld_cid.proofs.Octets.{kept, decoded-filled, decoded-left_over}
use Rattle.ipld_cid.proofs.from_text.last_bytes.Goals as goal

-- the test of the bytes that are left
tested : (n : ℕ) (bytes : List ℕ) (b : Bool) → length bytes ≡ 5 → b ≡ list_all (λ x. eqb x 0) (take (5 - n) (drop n bytes)) → list_all (λ x. eqb x 0) (drop n bytes) ≡ b
tested n bytes b five is = ap (list_all (λ (x : ℕ). eqb x 0)) (sym (take_all (5 - n) (drop n bytes) (omega (arith, length-drop n bytes)))) ∙ sym is

-- what the letters encode, by that test
by_test : (text bytes : List ℕ) (b : Bool) → length text < 8 → 5 * length text % 8 ≤ 4 → length bytes ≡ 5 → decoded (text ++ drop (length text) (replicate 8 97)) ≡ Some bytes
    → b ≡ list_all (λ x. eqb x 0) (take (5 - 5 * length text / 8) (drop (5 * length text / 8) bytes)) → decoded text ≡ cond b (Some (take (5 * length text / 8) bytes)) None
by_test text bytes b below few five block is =
    let n : ℕ = 5 * length text / 8 in
    decoded-filled text below few ∙ ap (option_and_then (kept n)) block ∙ ap (λ (zero : Bool). cond zero (Some (take n bytes)) None) (tested n bytes b five is)

pub returns-in_err-bytes : goal.returns-in_err-bytes
returns-in_err-bytes c =
    let text = c.args.letters.now in
    let block : decoded (text ++ drop (length text) (replicate 8 97)) ≡ None = sym (rw c.copy_from_slice.ensures.after at c.in_err-bytes.ensures) in
    rw c.from_residual.ensures (
    decoded-filled text c.requires (omega arith) ∙ ap (option_and_then (kept (5 * length text / 8))) block)

pub returns-then-are_zero : goal.returns-then-are_zero
returns-then-are_zero c =
    let block = sym (rw c.copy_from_slice.ensures.after at c.in_ok-bytes.ensures) in
    (omega arith, by_test c.args.letters.now c.in_ok-bytes.bytes c.are_zero.result c.requires (omega arith) (omega arith) block c.are_zero.ensures ∙ cond-true _ _ _ c.if-are_zero.true)

pub returns-else-are_zero : goal.returns-else-are_zero
returns-else-are_zero c =
    let block = sym (rw c.copy_from_slice.ensures.after at c.in_ok-bytes.ensures) in
    by_test c.args.letters.now c.in_ok-bytes.bytes c.are_zero.result c.requires (omega arith) (omega arith) block c.are_zero.ensures ∙ cond-false _ _ _ c.if-are_zero.false

pub returns-then-letters-gt4 : goal.returns-then-letters-gt4
returns-then-letters-gt4 c = decoded-left_over c.args.letters.now c.requires c.if-letters-gt4.true
