-- The CID at the front of bytes: splitting it off returns it just where the bytes begin with one, and fails as reading does.
use Rattle.std.proofs.Common.{◌≡◌, ℕ, ◌<◌, ◌≤◌, ◌^◌, eqb, List, [], ◌∷◌, ◌++◌, length, take, drop, Result, Ok, Err, inl, inr, refl, sym, ap, subst, ◌∙◌, arith}
use Rattle.std.specs.Prelude.{◌&&◌, MatchResult}
use Rattle.std.proofs.lemmas.Bool.{cases_Bool, cases_lt, lt-ltb, le-ltb}
use Rattle.std.proofs.lemmas.List.{append-nil, drop_more, drop_all, take_all, take_at, drop_at, length-append, length-take}
use Rattle.ipld_cid.specs.declared.cid.CidGeneric.{CidGeneric}
use Rattle.ipld_cid.specs.declared.error.CidError.{CidError}
use Rattle.ipld_cid.specs.declared.error.CidError.TheVariants.{TrailingBytes}
use Rattle.ipld_cid.specs.Multihash.{IsBytes}
use Rattle.ipld_cid.specs.Varint.{varint_of, read_varint, ◌>>=◌}
use Rattle.ipld_cid.specs.Cid.{Link}
use Rattle.ipld_cid.specs.LinkOf.{link_of}
use Rattle.ipld_cid.specs.Bytes.{IsCid, after_version, read_digest, read_v0, read_v1, read_cid}
use Rattle.ipld_cid.specs.Front.{BeginsWith, split_digest, split_v0, split_v1, split_cid}
use Rattle.ipld_cid.proofs.Varints.{read_varint-varint_of}
use Rattle.ipld_cid.proofs.Encodings.{encoded_v1, link_v0, link_v1, v1_encoded, regroup_more, after_version-complete, read_is_encoded, trailing_only}

-- ---- splitting, and then a test that nothing is left, is reading

-- the outcome of reading, by what is left
abbrev ended : Link → List ℕ → Result Link CidError
ended link [] = Ok link
ended link (x ∷ more) = Err TrailingBytes

abbrev whole : Link × List ℕ → Result Link CidError
whole split = ended split.0 split.1

-- two ways to go on from one step
step : {A B C : Type 0} (r : Result A CidError) (f : A → Result B CidError) (g : A → Result C CidError) (h : C → Result B CidError)
    → ((x : A) → f x ≡ (g x >>= h)) → (r >>= f) ≡ ((r >>= g) >>= h)
step (Ok x) f g h same = same x
step (Err e) f g h same = refl

-- the digest
digest_whole : (S size : ℕ) (bytes : List ℕ) (made : List ℕ → Link)
    → (read_digest S size bytes >>= λ digest. Ok (made digest)) ≡ ((split_digest S size bytes >>= λ digest. Ok (made digest.0, digest.1)) >>= whole)
digest_whole S size bytes made =
    elim (cases_lt S size) [
      | inl long ↦ rw (lt-ltb S size long) refl
      | inr fits ↦ rw (le-ltb S size fits) (elim (cases_lt (length bytes) size) [
        | inl short ↦ rw (lt-ltb (length bytes) size short) refl
        | inr enough ↦ rw (le-ltb (length bytes) size enough) (elim (cases_lt size (length bytes)) [
          | inl more ↦ rw (lt-ltb size (length bytes) more, drop_more bytes size 0 more) refl
          | inr all ↦ rw (le-ltb size (length bytes) all, take_all size bytes all, drop_all size bytes all) refl
        ])
      ])
    ]

v0_whole : (S : ℕ) (bytes : List ℕ) → read_v0 S bytes ≡ (split_v0 S bytes >>= whole)
unfolding read_v0 split_v0
v0_whole S bytes = digest_whole S 32 bytes link_v0

v1_whole : (S : ℕ) (bytes : List ℕ) → read_v1 S bytes ≡ (split_v1 S bytes >>= whole)
unfolding read_v1 split_v1
v1_whole S bytes =
    step (after_version bytes) _ _ whole (λ parts.
    step (read_varint parts) _ _ whole (λ codec.
    step (read_varint codec.1) _ _ whole (λ code.
    step (read_varint code.1) _ _ whole (λ size.
    digest_whole S size.0 size.1 (λ digest. link_v1 codec.0 code.0 digest)))))

-- reading is splitting with nothing left
cid_whole : (S : ℕ) (bytes : List ℕ) → read_cid S bytes ≡ (split_cid S bytes >>= whole)
unfolding read_cid split_cid
cid_whole S [] = refl
cid_whole S (a ∷ []) =
    elim (cases_Bool (eqb a 0x12)) [
      | inl same ↦ rw same refl
      | inr other ↦ rw other (v1_whole S (a ∷ []))
    ]
cid_whole S (a ∷ b ∷ bytes) =
    elim (cases_Bool (eqb a 0x12 && eqb b 0x20)) [
      | inl same ↦ rw same (v0_whole S bytes)
      | inr other ↦ rw other (v1_whole S (a ∷ b ∷ bytes))
    ]

-- a digest that is split off has the size, and there is capacity for it
pub split_digest-sound : (S size : ℕ) (bytes digest rest : List ℕ) → split_digest S size bytes ≡ Ok (digest, rest) → (size ≤ S) × (length digest ≡ size)
split_digest-sound S size bytes digest rest split =
    elim (cases_lt S size) [
      | inl long ↦ absurd (let is = rw (lt-ltb S size long) at split in cc)
      | inr fits ↦ elim (cases_lt (length bytes) size) [
        | inl short ↦ absurd (let is = rw (le-ltb S size fits, lt-ltb (length bytes) size short) at split in cc)
        | inr enough ↦
            let is = rw (le-ltb S size fits, le-ltb (length bytes) size enough) at split in
            let same : ◌≡◌ {A = List ℕ × List ℕ} (take size bytes, drop size bytes) (digest, rest) = cc in
            let first : take size bytes ≡ digest = ap (λ (p : List ℕ × List ℕ). p.0) same in
            (fits, sym (ap length first) ∙ omega (arith, length-take size bytes))
      ]
    ]

-- ---- what begins with a CID is split

-- a digest and what follows it
split_digest-complete : (S size : ℕ) (digest rest : List ℕ) → size ≤ S → length digest ≡ size → split_digest S size (digest ++ rest) ≡ Ok (digest, rest)
split_digest-complete S size digest rest capacity sized =
    rw (le-ltb S size capacity, le-ltb (length (digest ++ rest)) size (omega (arith, length-append digest rest)), take_at digest rest size sized, drop_at digest rest size sized) refl

split_v0-complete : (S : ℕ) (digest rest : List ℕ) → 32 ≤ S → length digest ≡ 32 → split_cid S (0x12 ∷ 0x20 ∷ digest ++ rest) ≡ Ok (link_v0 digest, rest)
unfolding split_cid split_v0
split_v0-complete S digest rest capacity sized = rw (split_digest-complete S 32 digest rest capacity sized) refl

-- bytes that begin with 1 are split as version 1
split_at_1 : (S : ℕ) (rest : List ℕ) → split_cid S (1 ∷ rest) ≡ split_v1 S (1 ∷ rest)
unfolding split_cid
split_at_1 S [] = refl
split_at_1 S (b ∷ rest) = refl

split_v1-complete : (S codec code : ℕ) (digest rest : List ℕ) → codec < 2 ^ 64 → code < 2 ^ 64 → length digest < 2 ^ 64 → length digest ≤ S
    → split_v1 S (1 ∷ encoded_v1 codec code (length digest) (digest ++ rest)) ≡ Ok (link_v1 codec code digest, rest)
unfolding split_v1
split_v1-complete S codec code digest rest codec_fits code_fits size_fits capacity =
    rw (
      after_version-complete (encoded_v1 codec code (length digest) (digest ++ rest)),
      read_varint-varint_of codec (varint_of code ++ (varint_of (length digest) ++ (digest ++ rest))) codec_fits,
      read_varint-varint_of code (varint_of (length digest) ++ (digest ++ rest)) code_fits,
      read_varint-varint_of (length digest) (digest ++ rest) size_fits,
      split_digest-complete S (length digest) digest rest capacity refl,
    ) refl

-- the CID that begins some bytes is split off
front_is_split : (S : ℕ) (front rest : List ℕ) (link : Link) → IsCid S front link → split_cid S (front ++ rest) ≡ Ok (link, rest)
front_is_split S front rest link (inl cid) =
    ap (λ (bytes : List ℕ). split_cid S (bytes ++ rest)) cid.encoded ∙ split_v0-complete S link.digest rest cid.capacity cid.sized
    ∙ ap (λ (l : Link). Ok (l, rest)) (sym cid.means)
front_is_split S front rest link (inr cid) =
    let encoded = v1_encoded S front link cid in
    ap (λ (bytes : List ℕ). split_cid S (bytes ++ rest)) encoded.parts
    ∙ ap (λ (bytes : List ℕ). split_cid S (1 ∷ bytes)) (sym (regroup_more (varint_of link.codec) (varint_of link.code) (varint_of (length link.digest)) link.digest rest))
    ∙ split_at_1 S (encoded_v1 link.codec link.code (length link.digest) (link.digest ++ rest))
    ∙ split_v1-complete S link.codec link.code link.digest rest encoded.codec_fits encoded.code_fits encoded.size_fits cid.capacity
    ∙ ap (λ (l : Link). Ok (l, rest)) (sym encoded.is)

-- ---- the clauses

same_split : (a b : Link) (r s : List ℕ) → ◌≡◌ {A = Result (Link × List ℕ) CidError} (Ok (a, r)) (Ok (b, s)) → (a ≡ b) × (r ≡ s)
same_split a b r s e =
    let same : ◌≡◌ {A = Link × List ℕ} (a, r) (b, s) = cc in
    (ap (λ (p : Link × List ℕ). p.0) same, ap (λ (p : Link × List ℕ). p.1) same)

-- what is split off begins the bytes
split_begins : (S : ℕ) (bytes : List ℕ) (link : Link) (rest : List ℕ) → IsBytes bytes → split_cid S bytes ≡ Ok (link, rest) → BeginsWith S bytes link rest
split_begins S bytes link [] is_bytes split =
    let read : read_cid S bytes ≡ Ok link = cid_whole S bytes ∙ ap (λ (r : Result (Link × List ℕ) CidError). r >>= whole) split in
    record { front = bytes; encoded = read_is_encoded S bytes link is_bytes read; parts = sym (append-nil bytes) }
split_begins S bytes link (x ∷ more) is_bytes split =
    let read : read_cid S bytes ≡ Err TrailingBytes = cid_whole S bytes ∙ ap (λ (r : Result (Link × List ℕ) CidError). r >>= whole) split in
    let found = trailing_only S bytes is_bytes read in
    let same = same_split link found.3 (x ∷ more) (found.1 ∷ found.2) (sym split ∙ ap (split_cid S) found.4 ∙ front_is_split S found.0 (found.1 ∷ found.2) found.3 found.5) in
    record { front = found.0; encoded = subst (λ (l : Link). IsCid S found.0 l) (sym same.0) found.5; parts = found.4 ∙ ap (λ (r : List ℕ). found.0 ++ r) (sym same.1) }

abbrev Exact : (S : ℕ) → List ℕ → Result (CidGeneric S × List ℕ) CidError → Type 0
Exact S bytes result = MatchResult result (λ split. split_cid S bytes ≡ Ok (link_of split.0, split.1)) (λ error. split_cid S bytes ≡ Err error)

-- what is returned begins the bytes
pub split_found : (S : ℕ) (bytes : List ℕ) (c : CidGeneric S) (rest : List ℕ) → IsBytes bytes → split_cid S bytes ≡ Ok (link_of c, rest)
    → BeginsWith S bytes (link_of c) rest
split_found S bytes c rest is_bytes exact = split_begins S bytes (link_of c) rest is_bytes exact

-- what begins the bytes is split off
pub split_complete : (S : ℕ) (bytes : List ℕ) (link : Link) (rest : List ℕ) → BeginsWith S bytes link rest → split_cid S bytes ≡ Ok (link, rest)
split_complete S bytes link rest begins = ap (split_cid S) begins.parts ∙ front_is_split S begins.front rest link begins.encoded

-- and nothing else
pub split_same : (S : ℕ) (bytes : List ℕ) (c : CidGeneric S) (others : List ℕ) → split_cid S bytes ≡ Ok (link_of c, others)
    → (link : Link) (rest : List ℕ) → BeginsWith S bytes link rest → (link_of c ≡ link) × (others ≡ rest)
split_same S bytes c others exact link rest begins = same_split (link_of c) link others rest (sym exact ∙ split_complete S bytes link rest begins)

-- where nothing is split off, nothing begins the bytes
pub split_none : (S : ℕ) (bytes : List ℕ) (error : CidError) → split_cid S bytes ≡ Err error → (link : Link) (rest : List ℕ) → BeginsWith S bytes link rest → ⊥
split_none S bytes error exact link rest begins = let given = sym exact ∙ split_complete S bytes link rest begins in cc

-- the error is that of reading
pub split_error : (S : ℕ) (bytes : List ℕ) (error : CidError) → split_cid S bytes ≡ Err error → read_cid S bytes ≡ Err error
split_error S bytes error split = cid_whole S bytes ∙ ap (λ (r : Result (Link × List ℕ) CidError). r >>= whole) split
