-- What a map spans.
use Rattle.std.proofs.Common.{◌≡◌, ℕ, suc, ◌-◌, List, [], length, take, Option, Some, None, Result, Err, refl, sym, ap, ◌∙◌}
use Rattle.dag_cbor_blocks.specs.declared.tape.TapeEntry.{TapeEntry}
use Rattle.dag_cbor_tape.specs.declared.entry.EntryKind.TheVariants as kind
use Rattle.dag_cbor_tape.specs.declared.error.EncodeErrorKind.TheVariants as wrong
use Rattle.dag_cbor_tape.specs.declared.error.Fault.{Fault}
use Rattle.dag_cbor_tape.specs.Errors.{fault, before}
use Rattle.dag_cbor_tape.specs.Structure.{pairs, inner_count, within, spans}

pub map_none : (over : List ℕ) (e : TapeEntry) (es : List TapeEntry) (left : ℕ) (o : Option ℕ) → o ≡ inner_count e (length es) → ((n : ℕ) → o ≡ Some n → ⊥) → left ≡ suc (length es)
    → spans over kind.Map e es ≡ Err (fault wrong.Span left)
unfolding spans
map_none over e es left None is not_some left_is = ap (within e es (pairs over e.value [])) (sym is) ∙ ap (λ (l : ℕ). Err (fault wrong.Span l)) (sym left_is)
map_none over e es left (Some n) is not_some left_is = absurd (not_some n refl)

pub map_some : (over : List ℕ) (e : TapeEntry) (es : List TapeEntry) (n : ℕ) (r : Result (Unit {0}) Fault) → Some n ≡ inner_count e (length es) → pairs over e.value [] (take n es) ≡ r
    → spans over kind.Map e es ≡ before (length es - n) r
unfolding spans
map_some over e es n r is w = ap (within e es (pairs over e.value [])) (sym is) ∙ ap (before (length es - n)) w
