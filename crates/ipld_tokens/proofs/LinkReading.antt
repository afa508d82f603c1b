-- What `read_link` returns.
use Rattle.std.proofs.Common.{◌≡◌, ℕ, zero, suc, ◌^◌, Bool, true, false, ◌&&◌, ltb, List, [], ◌∷◌, length, Some, None, Result, Ok, Err, refl, subst, bytes_eq, lit<, if◌then◌else◌}
use Rattle.std.proofs.lemmas.Bool.{and_parts, and_from, ltb-true, leb-true, eqb-true, lt-ltb, le-leb, eq-eqb}
use Rattle.std.proofs.lemmas.Slice.Eq.{bytes_eq-Decides}
use Rattle.ipld_cid.specs.declared.cid.Version.TheVariants.{V0, V1}
use Rattle.ipld_cid.specs.declared.cid.Version.{Version}
use Rattle.ipld_cid.specs.declared.error.CidError.{CidError}
use Rattle.ipld_cid.specs.Multihash.{IsBytes}
use Rattle.ipld_cid.specs.Cid.{Link, IsValid, IsForm, hash_of}
use Rattle.ipld_cid.specs.Bytes.{read_cid, bytes_of}
use Rattle.ipld_tokens.specs.LinkBytes.{are_bytes, has_form, is_valid, if_encoded, read_link}

are_bytes-true : (xs : List ℕ) → IsBytes xs → are_bytes xs ≡ true
are_bytes-true [] h = refl
are_bytes-true (x ∷ xs) h = and_from (ltb x 256) (are_bytes xs) (lt-ltb x 256 (h 0)) (are_bytes-true xs (λ i. h (suc i)))

bytes_from-true : (xs : List ℕ) → are_bytes xs ≡ true → IsBytes xs
bytes_from-true [] e i = lit< tt
bytes_from-true (x ∷ xs) e zero = ltb-true x 256 (and_parts (ltb x 256) (are_bytes xs) e).0
bytes_from-true (x ∷ xs) e (suc i) = bytes_from-true xs (and_parts (ltb x 256) (are_bytes xs) e).1 i

has_form-true : (version : Version) (cid : Link) → IsForm version cid.codec (hash_of cid) → has_form version cid ≡ true
has_form-true V0 cid h =
    and_from _ _ (eq-eqb cid.codec 0x70 h.0) (and_from _ _ (eq-eqb cid.code 0x12 h.1.0) (eq-eqb (length cid.digest) 32 h.1.1))
has_form-true V1 cid h = refl

form_from-true : (version : Version) (cid : Link) → has_form version cid ≡ true → IsForm version cid.codec (hash_of cid)
form_from-true V0 cid e =
    let parts = and_parts _ _ e in
    let hash = and_parts _ _ parts.1 in
    (eqb-true cid.codec 0x70 parts.0, (eqb-true cid.code 0x12 hash.0, eqb-true (length cid.digest) 32 hash.1))
form_from-true V1 cid e = tt

pub is_valid-true : (S : ℕ) (cid : Link) → IsValid S cid → is_valid S cid ≡ true
is_valid-true S cid h =
    and_from _ _
    (and_from _ _ (lt-ltb cid.codec (2 ^ 64) h.0) (and_from _ _ (lt-ltb cid.code (2 ^ 64) h.1.0) (le-leb (length cid.digest) S h.1.1)))
    (and_from _ _ (are_bytes-true cid.digest h.1.2) (has_form-true cid.version cid h.2))

pub valid_from-true : (S : ℕ) (cid : Link) → is_valid S cid ≡ true → IsValid S cid
valid_from-true S cid e =
    let parts = and_parts _ _ e in
    let numbers = and_parts _ _ parts.0 in
    let sizes = and_parts _ _ numbers.1 in
    let rest = and_parts _ _ parts.1 in
    (ltb-true cid.codec (2 ^ 64) numbers.0, (ltb-true cid.code (2 ^ 64) sizes.0, leb-true (length cid.digest) S sizes.1, bytes_from-true cid.digest rest.0), form_from-true cid.version cid rest.1)

-- a valid CID is read from its encoding
pub read_from_encoding : (S : ℕ) (bytes : List ℕ) (cid : Link) → IsValid S cid → bytes ≡ bytes_of cid → read_cid S bytes ≡ Ok cid → read_link S bytes ≡ Some cid
unfolding read_link
read_from_encoding S bytes cid valid encoded read =
    let same = (bytes_eq-Decides bytes (bytes_of cid)).1 encoded in
    let test = and_from (is_valid S cid) (bytes_eq bytes (bytes_of cid)) (is_valid-true S cid valid) same in
    rw (read, test)

pub read_none : (S : ℕ) (bytes : List ℕ) (cid_error : CidError) → read_cid S bytes ≡ Err cid_error → read_link S bytes ≡ None
unfolding read_link
read_none S bytes cid_error read = rw read

from_if : (b : Bool) (x cid : Link) → (if b then Some x else None) ≡ Some cid → (b ≡ true) × (x ≡ cid)
from_if true x cid e = (refl, cc)
from_if false x cid e = absurd cc

encoded_where : (S : ℕ) (bytes : List ℕ) (r : Result Link CidError) (cid : Link) → if_encoded S bytes r ≡ Some cid → IsValid S cid × (bytes ≡ bytes_of cid)
encoded_where S bytes (Err cid_error) cid e = absurd cc
encoded_where S bytes (Ok found) cid e =
    let p = from_if (is_valid S found && bytes_eq bytes (bytes_of found)) found cid e in
    let tests = and_parts (is_valid S found) (bytes_eq bytes (bytes_of found)) p.0 in
    let P : Link → Type 0 = λ c. IsValid S c × (bytes ≡ bytes_of c) in
    subst P p.1 (valid_from-true S found tests.0, (bytes_eq-Decides bytes (bytes_of found)).0 tests.1)

-- what is read has this encoding
pub encoding_of_read : (S : ℕ) (bytes : List ℕ) (cid : Link) → read_link S bytes ≡ Some cid → IsValid S cid × (bytes ≡ bytes_of cid)
unfolding read_link
encoding_of_read S bytes cid e = encoded_where S bytes (read_cid S bytes) cid e
