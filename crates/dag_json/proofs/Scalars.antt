-- Numbers and bytes from their texts.
use Rattle.std.proofs.Common.{◌≡◌, ◌<◌, ℕ, ℤ, pos, negsuc, Bool, true, false, List, length, Global, Vec, String, BTreeMap, Some, None, Result, Ok, Err, refl, sym, ap, subst, ◌∙◌, arith, nat_lt}
use Rattle.std.specs.Prelude.{◌&&◌, ◌^◌, if◌then◌else◌, FitsSigned}
use Rattle.std.specs.Int.{w128}
use Rattle.std.specs.Result.{result_ok}
use Rattle.std.specs.Str.{all_ascii_digits}
use Rattle.std.specs.Str.Parse.{IsNumeral, without_leading_sign, digits_value, signed_digits_value}
use Rattle.std.proofs.lemmas.Bool.{lt-ltb, ltb-true, and_parts}
use Rattle.std.proofs.lemmas.Str.Parse.{IsNumeralModel, numerals_by_value, tells_all_ascii_digits}
use Rattle.base64.specs.GeneralPurpose.{decode_of, decoded_of, IsDecodeFailure}
use Rattle.base64.specs.Engines.{standard_no_pad}
use Rattle.base64.specs.declared.decode.DecodeError.{DecodeError}
use Rattle.base64.specs.declared.decode.DecodeAllocError.{DecodeAllocError}
use Rattle.base64.specs.declared.decode.DecodeAllocError.TheVariants.{DecodeError as Failed}
use Rattle.ipld_tree.specs.TreeOf.{tree_of, members_of}
use Rattle.ipld_tree.specs.Tree.{Members}
use Rattle.ipld_tree.specs.declared.ipld.Ipld.{Ipld, Bytes, Map}
use Rattle.ipld_tree.proofs.Trees.{tree_of-Bytes, tree_of-Map}
use Rattle.dag_json.specs.Numbers.{fits, is_numeral, integer_of, is_integral, number_or_error, number_read}
use Rattle.dag_json.specs.Objects.{bytes_or_error, only_tree, reserved_bytes, reserved_value}
use Rattle.dag_json.specs.declared.read_error.ReadErrorKind.{ReadErrorKind}
use Rattle.dag_json.specs.declared.read_error.ReadErrorKind.TheVariants as error

digits : IsNumeralModel (λ ds. all_ascii_digits ds ≡ true) (digits_value 10)
digits = numerals_by_value _ tells_all_ascii_digits

pub fits-true : (z : ℤ) → FitsSigned w128 z → fits z ≡ true
fits-true (pos n) h = lt-ltb n (2 ^ 127) (omega arith)
fits-true (negsuc n) h = lt-ltb n (2 ^ 127) (omega arith)

fits-holds : (z : ℤ) → fits z ≡ true → FitsSigned w128 z
fits-holds (pos n) h = let small : n < 2 ^ 127 = ltb-true n (2 ^ 127) h in omega arith
fits-holds (negsuc n) h = let small : n < 2 ^ 127 = ltb-true n (2 ^ 127) h in omega arith

numeral-true : (s : List ℕ) → IsNumeral 10 (without_leading_sign s) → is_numeral s ≡ true
numeral-true s h =
    ap (λ b. b && all_ascii_digits (without_leading_sign s)) (lt-ltb 0 (length (without_leading_sign s)) h.0) ∙ digits.from (without_leading_sign s) h.1

numeral-holds : (s : List ℕ) → is_numeral s ≡ true → IsNumeral 10 (without_leading_sign s)
numeral-holds s h =
    let parts = and_parts (nat_lt 0 (length (without_leading_sign s))) (all_ascii_digits (without_leading_sign s)) h in
    (ltb-true 0 (length (without_leading_sign s)) parts.0, digits.to (without_leading_sign s) parts.1)

-- a numeral within 128 bits
pub integer_is : (s : List ℕ) → IsNumeral 10 (without_leading_sign s) → FitsSigned w128 (signed_digits_value 10 s) → integer_of s ≡ Some (signed_digits_value 10 s)
unfolding integer_of
integer_is s numeral small =
    ap (λ b. if b && fits (signed_digits_value 10 s) then Some (signed_digits_value 10 s) else None) (numeral-true s numeral)
    ∙ ap (λ b. if b then Some (signed_digits_value 10 s) else None) (fits-true (signed_digits_value 10 s) small)

none_of : (a b : Bool) (z : ℤ) → (a ≡ true → b ≡ true → ⊥) → (if a && b then Some z else None) ≡ None
none_of false b z h = refl
none_of true false z h = refl
none_of true true z h = absurd (h refl refl)

integer_none : (s : List ℕ) → (IsNumeral 10 (without_leading_sign s) × FitsSigned w128 (signed_digits_value 10 s) → ⊥) → integer_of s ≡ None
unfolding integer_of
integer_none s h =
    none_of (is_numeral s) (fits (signed_digits_value 10 s)) (signed_digits_value 10 s) (λ a b. h (numeral-holds s a, fits-holds (signed_digits_value 10 s) b))

pub number_found : (s : List ℕ) (n : ℤ) → IsNumeral 10 (without_leading_sign s) × FitsSigned w128 (signed_digits_value 10 s) → n ≡ signed_digits_value 10 s → Ok n ≡ number_read s
number_found s n h e = ap Ok e ∙ ap (λ o. number_or_error o (is_integral s)) (sym (integer_is s h.0 h.1))

pub number_none : (s : List ℕ) (integral : Bool) → (IsNumeral 10 (without_leading_sign s) × FitsSigned w128 (signed_digits_value 10 s) → ⊥) → is_integral s ≡ integral
    → let wrong : Result ℤ ReadErrorKind = Err (if integral then error.IntegerRange else error.Float) in wrong ≡ number_read s
number_none s integral h e = ap (λ b. number_or_error None b) (sym e) ∙ ap (λ o. number_or_error o (is_integral s)) (sym (integer_none s h))

-- ---- bytes

pub bytes_made : (input s : List ℕ) (v : Vec ℕ Global) → input ≡ s → decode_of standard_no_pad input ≡ Ok v.items → bytes_or_error (decoded_of standard_no_pad s) ≡ Ok (tree_of (Bytes v))
unfolding decoded_of
bytes_made input s v e h =
    ap (λ x. bytes_or_error (result_ok (decode_of standard_no_pad x))) (sym e) ∙ ap (λ r. bytes_or_error (result_ok r)) h ∙ ap Ok (sym (tree_of-Bytes v))

pub bytes_wrong : (input s : List ℕ) (e : DecodeAllocError) (d : DecodeError) → input ≡ s → e ≡ Failed d → IsDecodeFailure standard_no_pad input e
    → bytes_or_error (decoded_of standard_no_pad s) ≡ Err error.Bytes
unfolding decoded_of
bytes_wrong input s e d same is h =
    ap (λ x. bytes_or_error (result_ok (decode_of standard_no_pad x))) (sym same) ∙ ap (λ r. bytes_or_error (result_ok r)) (subst (IsDecodeFailure standard_no_pad input) is h)

-- ---- reserved maps

pub inside_map : (ms : Members) (v : Ipld) (m : BTreeMap (String Global) Ipld) → Some (tree_of v) ≡ only_tree ms → v ≡ Map m
    → reserved_value (only_tree ms) ≡ reserved_bytes (only_tree (members_of m.entries))
inside_map ms v m e is = ap reserved_value (sym e) ∙ ap (λ x. reserved_value (Some (tree_of x))) is ∙ ap (λ t. reserved_value (Some t)) (tree_of-Map m)
