-- What the parts of an item are written as.
use Rattle.std.proofs.Common.{◌≡◌, ℕ, suc, ◌+◌, ◌^◌, ◌<◌, ◌≤◌, cond, List, [], ◌∷◌, ◌++◌, length, Option, Some, Result, Ok, Err, OnOk, OnErr, is_ok, refl, sym, ap, subst, ◌∙◌, arith, append_assoc, length-append}
use Rattle.std.specs.Str.{IsUtf8}
use Rattle.std.proofs.lemmas.Bool.{lt-ltb}
use Rattle.std.proofs.lemmas.Str.{is_utf8-from_IsUtf8}
use Rattle.ipld_cid.specs.Cid.{Link, IsValid}
use Rattle.ipld_cid.specs.Bytes.{bytes_of}
use Rattle.dag_cbor_format.specs.declared.major.Major.{Major}
use Rattle.dag_cbor_format.specs.declared.major.Major.TheVariants.{Bytes, Text, Tag}
use Rattle.dag_cbor_format.specs.Head.{head}
use Rattle.dag_cbor_format.specs.Canonical.{headed, written_text, written_link}
use Rattle.dag_cbor_format.specs.Writing.{AddsPart}
use Rattle.dag_cbor_format.proofs.HeadLaws.{head_some}
use Rattle.std.proofs.lemmas.List.{append-nil}
use Rattle.ipld_tokens.proofs.LinkReading.{is_valid-true}

pub headed_some : (major : Major) (n : ℕ) (b : List ℕ) → n < 2 ^ 64 → headed major n (Some b) ≡ Some (head major n ++ b)
headed_some major n b lt = let test = lt-ltb n (2 ^ 64) lt in rw test

pub text_written : (s : List ℕ) → IsUtf8 s → length s < 2 ^ 64 → written_text s ≡ Some (head Text (length s) ++ s)
text_written s utf8 lt = let test = is_utf8-from_IsUtf8 s utf8 in rw test (headed_some Text (length s) s lt)

pub link_written : (cid : Link) → IsValid 64 cid → suc (length (bytes_of cid)) < 2 ^ 64
    → written_link cid ≡ Some (head Tag 42 ++ (head Bytes (suc (length (bytes_of cid))) ++ 0 ∷ bytes_of cid))
link_written cid valid lt =
    let test = is_valid-true 64 cid valid in
    let bytes = headed_some Bytes (suc (length (bytes_of cid))) (0 ∷ bytes_of cid) lt in
    rw (test, bytes)

-- what an append that may be rejected leaves
pub ends_with : {A E : Type 0} (r : Result A E) (P : List ℕ → Type 0) (xs ys zs : List ℕ) → zs ≡ cond (is_ok r) (xs ++ ys) xs → P (xs ++ ys) → OnOk r (P zs)
ends_with (Ok x) P xs ys zs e p = subst P (sym e) p
ends_with (Err x) P xs ys zs e p = tt

pub link_appended : (before a b c tag s : List ℕ) (n : ℕ) → a ≡ before ++ tag → b ≡ a ++ head Bytes n → n ≡ suc (length s) → c ≡ b ++ 0 ∷ []
    → c ++ s ≡ before ++ (tag ++ (head Bytes (suc (length s)) ++ 0 ∷ s))
link_appended before a b c tag s n ea eb en ec =
    let h = head Bytes (suc (length s)) in
    ap (λ (xs : List ℕ). xs ++ s) ec ∙ append_assoc b (0 ∷ []) s
    ∙ ap (λ (xs : List ℕ). xs ++ 0 ∷ s) (eb ∙ ap (λ k. a ++ head Bytes k) en) ∙ append_assoc a h (0 ∷ s)
    ∙ ap (λ (xs : List ℕ). xs ++ (h ++ 0 ∷ s)) ea ∙ append_assoc before tag (h ++ 0 ∷ s)

-- ---- what a failed allocation leaves

-- what holds of a call that failed
pub on_err : {A E : Type 0} (r : Result A E) (P : Type 0) → P → OnErr r P
on_err (Ok x) P p = tt
on_err (Err x) P p = p

-- what a failed append leaves
pub ends_without : {A E : Type 0} (r : Result A E) (P : List ℕ → Type 0) (xs ys zs : List ℕ) → zs ≡ cond (is_ok r) (xs ++ ys) xs → OnErr r (P xs) → OnErr r (P zs)
ends_without (Ok x) P xs ys zs e p = tt
ends_without (Err x) P xs ys zs e p = subst P (sym e) p

-- nothing stands behind what was there
pub part_none : (written : Option (List ℕ)) (whole before after : List ℕ) → written ≡ Some whole → 0 < length whole → after ≡ before → AddsPart written before after
part_none written whole before after is some same = record { part = []; rest = whole; is = is; missing = some; appended = same ∙ sym (append-nil before) }

-- a part does
pub part_some : (written : Option (List ℕ)) (whole part rest before after : List ℕ) → written ≡ Some whole → whole ≡ part ++ rest → 0 < length rest → after ≡ before ++ part → AddsPart written before after
part_some written whole part rest before after is cut some added = record { part = part; rest = rest; is = is ∙ ap Some cut; missing = some; appended = added }

-- the rest is missing, since the vector has no capacity for it
pub part_full : {A E : Type 0} (r : Result A E) (written : Option (List ℕ)) (whole part rest before after : List ℕ) (capacity len : ℕ) → len ≤ capacity → OnErr r (capacity < len + length rest)
    → written ≡ Some whole → whole ≡ part ++ rest → after ≡ before ++ part → OnErr r (AddsPart written before after)
part_full (Ok x) written whole part rest before after capacity len fits full is cut added = tt
part_full (Err x) written whole part rest before after capacity len fits full is cut added = part_some written whole part rest before after is cut (omega (arith, full)) added

pub headed_long : (major : Major) (n : ℕ) (b : List ℕ) → 0 < length (head major n ++ b)
headed_long major n b = omega (arith, head_some major n, length-append (head major n) b)
