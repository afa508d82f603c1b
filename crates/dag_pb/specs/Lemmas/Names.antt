-- Names of links: text that is UTF-8.
use Rattle.std.proofs.Common.{◌≡◌, ℕ, Bool, true, false, List, Ok, Err, inl, inr, refl}
use Rattle.std.specs.Prelude.{◌⊎◌}
use Rattle.std.specs.Str.{IsUtf8, is_utf8}
use Rattle.std.proofs.lemmas.Str.{IsUtf8-from_is_utf8, is_utf8-from_IsUtf8}
use Rattle.dag_pb.specs.declared.error.PbErrorKind.TheVariants.{Utf8}
use Rattle.dag_pb.specs.LinkReading.{text_in}
use Rattle.pb_wire.proofs.Steps.{same_ok}

pub text_read : (content text : List ℕ) → text ≡ content → IsUtf8 content → text_in content ≡ Ok text
unfolding text_in
text_read content text same utf8 =
    let test = is_utf8-from_IsUtf8 content utf8 in
    rw (test, same) refl

cases_bool : (b : Bool) → (b ≡ true) ⊎ (b ≡ false)
cases_bool true = inl refl
cases_bool false = inr refl

not_true : (b : Bool) → (b ≡ true → ⊥) → b ≡ false
not_true true h = absurd (h refl)
not_true false h = refl

pub text_rejected : (content : List ℕ) → (IsUtf8 content → ⊥) → text_in content ≡ Err Utf8
unfolding text_in
text_rejected content not_utf8 =
    let test = not_true (is_utf8 content) (λ t. not_utf8 (IsUtf8-from_is_utf8 content t)) in
    rw test refl

-- a text that is read is UTF-8, and all of the content
pub text_sound : (content text : List ℕ) → text_in content ≡ Ok text → (text ≡ content) × IsUtf8 content
unfolding text_in
text_sound content text read =
    elim (cases_bool (is_utf8 content)) [
      | inl good ↦ let is = rw good at read in (same_ok (λ (t : List ℕ). t ≡ content) content text is refl, IsUtf8-from_is_utf8 content good)
      | inr bad ↦ let is = rw bad at read in absurd cc
    ]
