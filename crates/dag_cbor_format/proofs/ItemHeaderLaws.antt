-- Strings and links at the front of some bytes.
use Rattle.std.proofs.Common.{◌≡◌, ℕ, Bool, true, false, ◌&&◌, List, Option, Some, None, Result, Ok, Err, refl, sym, ap, subst, ◌∙◌, bytes_eq}
use Rattle.std.specs.Prelude.{if◌then◌else◌}
use Rattle.std.specs.Str.{IsUtf8, is_utf8}
use Rattle.std.proofs.lemmas.Bool.{and_parts, and_from}
use Rattle.std.proofs.lemmas.Str.{IsUtf8-from_is_utf8, is_utf8-from_IsUtf8}
use Rattle.std.proofs.lemmas.Slice.Eq.{bytes_eq-Decides}
use Rattle.ipld_cid.specs.declared.error.CidError.{CidError}
use Rattle.ipld_cid.specs.Cid.{Link, IsValid}
use Rattle.ipld_cid.specs.Bytes.{IsCid, read_cid, bytes_of}
use Rattle.ipld_tokens.specs.LinkBytes.{is_valid, if_encoded, read_link}
use Rattle.ipld_tokens.proofs.LinkReading.{is_valid-true, valid_from-true}
use Rattle.dag_cbor_format.specs.ItemHeader.{if_text, if_cid}

-- ---- strings

pub text_read : (o : Option (List ℕ × List ℕ)) (s rest t : List ℕ) → o ≡ Some (s, rest) → t ≡ s → IsUtf8 s → if_text o ≡ Some (t, rest)
text_read o s rest t e same utf8 =
    let test = is_utf8-from_IsUtf8 s utf8 in
    ap if_text e ∙ rw (test, same)

not_true : (b : Bool) → (b ≡ true → ⊥) → b ≡ false
not_true true h = absurd (h refl)
not_true false h = refl

pub text_rejected : (o : Option (List ℕ × List ℕ)) (s rest : List ℕ) → o ≡ Some (s, rest) → (IsUtf8 s → ⊥) → if_text o ≡ None
text_rejected o s rest e not_utf8 =
    let test = not_true (is_utf8 s) (λ t. not_utf8 (IsUtf8-from_is_utf8 s t)) in
    ap if_text e ∙ rw test

-- ---- CIDs: what `read_link` returns

-- the laws of CIDs that are used here
pub record CidLaws : Type 0 where
  pub reads : (bytes : List ℕ) (cid : Link) → IsCid 64 bytes cid → read_cid 64 bytes ≡ Ok cid
  pub encodes : (cid : Link) → IsValid 64 cid → IsCid 64 (bytes_of cid) cid
  pub valid : (bytes : List ℕ) (cid : Link) → IsCid 64 bytes cid → IsValid 64 cid
  pub once : (bytes : List ℕ) (cid : Link) → IsCid 64 bytes cid → bytes ≡ bytes_of cid

pub read_link-complete : CidLaws → (bytes : List ℕ) (cid : Link) → IsCid 64 bytes cid → read_link 64 bytes ≡ Some cid
unfolding read_link
read_link-complete laws bytes cid is =
    let same = (bytes_eq-Decides bytes (bytes_of cid)).1 (laws.once bytes cid is) in
    let test = and_from (is_valid 64 cid) (bytes_eq bytes (bytes_of cid)) (is_valid-true 64 cid (laws.valid bytes cid is)) same in
    let read = laws.reads bytes cid is in
    rw (read, test)

pub link_rejected : (bytes : List ℕ) (error : CidError) → read_cid 64 bytes ≡ Err error → read_link 64 bytes ≡ None
unfolding read_link
link_rejected bytes error read = rw read

some_where : (b : Bool) (x cid : Link) → (if b then Some x else None) ≡ Some cid → (b ≡ true) × (x ≡ cid)
some_where true x cid e = (refl, cc)
some_where false x cid e = absurd cc

encoded_where : (bytes : List ℕ) (r : Result Link CidError) (cid : Link) → if_encoded 64 bytes r ≡ Some cid → IsValid 64 cid × (bytes ≡ bytes_of cid)
encoded_where bytes (Err error) cid e = absurd cc
encoded_where bytes (Ok found) cid e =
    let p = some_where (is_valid 64 found && bytes_eq bytes (bytes_of found)) found cid e in
    let tests = and_parts (is_valid 64 found) (bytes_eq bytes (bytes_of found)) p.0 in
    let P : Link → Type 0 = λ c. IsValid 64 c × (bytes ≡ bytes_of c) in
    subst P p.1 (valid_from-true 64 found tests.0, (bytes_eq-Decides bytes (bytes_of found)).0 tests.1)

pub link_encoded : CidLaws → (bytes : List ℕ) (cid : Link) → read_link 64 bytes ≡ Some cid → IsCid 64 bytes cid
unfolding read_link
link_encoded laws bytes cid e =
    let p = encoded_where bytes (read_cid 64 bytes) cid e in
    subst (λ bs. IsCid 64 bs cid) (sym p.1) (laws.encodes cid p.0)

pub cid_found : (laws : CidLaws) (bytes rest : List ℕ) (cid : Link) → IsCid 64 bytes cid → if_cid bytes rest ≡ Some (bytes, rest)
cid_found laws bytes rest cid is =
    let e = read_link-complete laws bytes cid is in
    rw e

pub cid_rejected : (bytes rest : List ℕ) (error : CidError) → read_cid 64 bytes ≡ Err error → if_cid bytes rest ≡ None
cid_rejected bytes rest error read =
    let e = link_rejected bytes error read in
    rw e
