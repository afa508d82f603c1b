use Rattle.std.proofs.Common.{◌≡◌, ◌<◌, ◌^◌, ◌+◌, ◌+ℤ◌, pos, Ok, Err, Result, ℤ, true, ap, sym, subst, ◌∙◌, arith, to_bits, of_z, to_z}
use Rattle.std.specs.Prelude.{FitsSigned, if◌then◌else◌}
use Rattle.std.specs.Float.{binary64, float_is_finite}
use Rattle.std.specs.Int.{w128}
use Rattle.std.proofs.lemmas.Int.{to_z-of_z}
use Rattle.dag_json.specs.Floats.{finite_number, float_number}
use Rattle.dag_json.specs.declared.read_error.ReadErrorKind.{ReadErrorKind}
use Rattle.dag_json.specs.declared.read_error.ReadErrorKind.TheVariants.{Float}
use Rattle.dag_json.proofs.ParsedFloats.{parsed_fits}
use Rattle.dag_json.proofs.floats.read_float.Goals as goal
use lib.Ieee.Bits.{to_bits-lt}

pub overflow_add-result : goal.overflow_add-result
overflow_add-result c =
    let small : to_bits binary64 c.in-Ok.float < 2 ^ 64 = to_bits-lt binary64 c.in-Ok.float (parsed_fits binary64 c.args.text.now c.in-Ok.float c.in-Ok.ensures.value.1) in
    let e : c.from.result ≡ pos (to_bits binary64 c.in-Ok.float) = c.from.ensures in
    let fits : FitsSigned w128 (pos (2 ^ 64 + to_bits binary64 c.in-Ok.float)) = omega arith in
    let own : FitsSigned w128 (pos (to_bits binary64 c.in-Ok.float)) = omega arith in
    subst (λ z. FitsSigned w128 (pos 18446744073709551616 +ℤ z)) (sym (ap (λ z. to_z w128 (of_z w128 z)) e ∙ to_z-of_z w128 (pos (to_bits binary64 c.in-Ok.float)) own)) fits

pub returns-in-Ok : goal.returns-in-Ok
returns-in-Ok c =
    let x = c.in-Ok.float in
    let small : to_bits binary64 x < 2 ^ 64 = to_bits-lt binary64 x (parsed_fits binary64 c.args.text.now x c.in-Ok.ensures.value.1) in
    let fits : FitsSigned w128 (pos (2 ^ 64 + to_bits binary64 x)) = omega arith in
    let own : FitsSigned w128 (pos (to_bits binary64 x)) = omega arith in
    let inner : to_z w128 (of_z w128 c.from.result) ≡ pos (to_bits binary64 x) = ap (λ z. to_z w128 (of_z w128 z)) c.from.ensures ∙ to_z-of_z w128 (pos (to_bits binary64 x)) own in
    let sum : to_z w128 (of_z w128 (pos 18446744073709551616 +ℤ to_z w128 (of_z w128 c.from.result))) ≡ float_number x =
    ap (λ z. to_z w128 (of_z w128 (pos 18446744073709551616 +ℤ z))) inner ∙ to_z-of_z w128 (float_number x) fits in
    let finite : float_is_finite x ≡ true = sym c.is_finite.ensures.value ∙ c.if-is_finite.true in
    let found : ◌≡◌ {A = Result ℤ ReadErrorKind} (Ok (float_number x)) (if float_is_finite x then Ok (float_number x) else Err Float) =
    sym (ap (λ b. if b then Ok (float_number x) else Err Float) finite) in
    ap Ok sum ∙ found ∙ ap finite_number (sym c.in-Ok.ensures.value.1)
