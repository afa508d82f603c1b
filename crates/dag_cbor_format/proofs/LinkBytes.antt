-- What a link is, by the bytes of its CID.
use Rattle.std.proofs.Common.{◌≡◌, ℕ, zero, suc, List, [], ◌∷◌, Option, Some, None, Err, refl, ap, ◌∙◌}
use Rattle.ipld_cid.specs.declared.error.CidError.{CidError}
use Rattle.ipld_cid.specs.Cid.{Link}
use Rattle.ipld_cid.specs.Bytes.{IsCid, read_cid}
use Rattle.dag_cbor_format.specs.declared.error.CborError.{CborError}
use Rattle.dag_cbor_format.specs.declared.major.Major.{Major}
use Rattle.dag_cbor_format.specs.declared.major.Major.TheVariants.{Unsigned, Negative, Bytes, Text, List as Array, Map, Tag, Simple}
use Rattle.dag_cbor_format.specs.HeadReading.{head_at}
use Rattle.dag_cbor_format.specs.ItemHeader.{front, if_cid, if_link, link_after, link_of_head, link_at}
use Rattle.dag_cbor_format.specs.Errors.{cid_error, content_error, bytes_error, link_error_of, link_error}
use Rattle.dag_cbor_format.proofs.ItemHeaderLaws.{CidLaws, cid_found, cid_rejected}
use Rattle.dag_cbor_format.specs.LinkBytes.{behind_zero, link_bytes_after, link_bytes_of_head, link_bytes_at}

-- reading the CID is left to do
record Leaves (link : Option (List ℕ × List ℕ)) (error : CborError) (encoded rest : List ℕ) : Type 0 where
  same_link : link ≡ if_cid encoded rest
  same_error : error ≡ cid_error (read_cid 64 encoded)

behind : (o : Option (List ℕ × List ℕ)) (encoded rest : List ℕ) → behind_zero o ≡ Some (encoded, rest) → Leaves (if_link o) (content_error o) encoded rest
behind None encoded rest e = absurd cc
behind (Some ([], more)) encoded rest e = absurd cc
behind (Some (zero ∷ b, more)) encoded rest e =
    let cut : List ℕ × List ℕ = (b, more) in
    let found : List ℕ × List ℕ = (encoded, rest) in
    let p : cut ≡ found = cc e in
    record { same_link = ap (λ (q : List ℕ × List ℕ). if_cid q.0 q.1) p; same_error = ap (λ (q : List ℕ × List ℕ). cid_error (read_cid 64 q.0)) p }
behind (Some (suc n ∷ b, more)) encoded rest e = absurd cc

after : (major : Major) (n : ℕ) (bytes encoded rest : List ℕ) → link_bytes_after major n bytes ≡ Some (encoded, rest) → Leaves (link_after major n bytes) (bytes_error major n bytes) encoded rest
after Bytes n bytes encoded rest e = behind (front n bytes) encoded rest e
after Unsigned n bytes encoded rest e = absurd cc
after Negative n bytes encoded rest e = absurd cc
after Text n bytes encoded rest e = absurd cc
after Array n bytes encoded rest e = absurd cc
after Map n bytes encoded rest e = absurd cc
after Tag n bytes encoded rest e = absurd cc
after Simple n bytes encoded rest e = absurd cc

of_head : (bytes : List ℕ) (o : Option (Major × ℕ × List ℕ)) (encoded rest : List ℕ) → link_bytes_of_head o ≡ Some (encoded, rest) → Leaves (link_of_head o) (link_error_of bytes o) encoded rest
of_head bytes None encoded rest e = absurd cc
of_head bytes (Some h) encoded rest e = after h.0 h.1 h.2 encoded rest e

leaves : (bytes encoded rest : List ℕ) → link_bytes_at bytes ≡ Some (encoded, rest) → Leaves (link_at bytes) (link_error bytes) encoded rest
unfolding link_bytes_at link_at link_error
leaves bytes encoded rest e = of_head bytes (head_at bytes) encoded rest e

behind_none : (o : Option (List ℕ × List ℕ)) → behind_zero o ≡ None → if_link o ≡ None
behind_none None e = refl
behind_none (Some ([], more)) e = refl
behind_none (Some (zero ∷ b, more)) e = absurd cc
behind_none (Some (suc n ∷ b, more)) e = refl

after_none : (major : Major) (n : ℕ) (bytes : List ℕ) → link_bytes_after major n bytes ≡ None → link_after major n bytes ≡ None
after_none Bytes n bytes e = behind_none (front n bytes) e
after_none Unsigned n bytes e = refl
after_none Negative n bytes e = refl
after_none Text n bytes e = refl
after_none Array n bytes e = refl
after_none Map n bytes e = refl
after_none Tag n bytes e = refl
after_none Simple n bytes e = refl

of_no_head : (o : Option (Major × ℕ × List ℕ)) → link_bytes_of_head o ≡ None → link_of_head o ≡ None
of_no_head None e = refl
of_no_head (Some h) e = after_none h.0 h.1 h.2 e

-- there are no bytes of a CID
pub no_link_bytes : (bytes : List ℕ) → link_bytes_at bytes ≡ None → link_at bytes ≡ None
unfolding link_bytes_at link_at
no_link_bytes bytes e = of_no_head (head_at bytes) e

-- they are those of a CID
pub link_found : CidLaws → (bytes encoded rest : List ℕ) (cid : Link) → link_bytes_at bytes ≡ Some (encoded, rest) → IsCid 64 encoded cid → link_at bytes ≡ Some (encoded, rest)
link_found laws bytes encoded rest cid e is = (leaves bytes encoded rest e).same_link ∙ cid_found laws encoded rest cid is

-- they aren't
pub link_missing : (bytes encoded rest : List ℕ) (error : CidError) → link_bytes_at bytes ≡ Some (encoded, rest) → read_cid 64 encoded ≡ Err error
    → (link_at bytes ≡ None) × (link_error bytes ≡ cid_error (Err error))
link_missing bytes encoded rest error e read =
    let l = leaves bytes encoded rest e in
    (l.same_link ∙ cid_rejected encoded rest error read, l.same_error ∙ ap cid_error read)
