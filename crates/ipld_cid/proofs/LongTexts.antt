-- Letters that encode more bytes than any CID has with a digest of at most 64: the error shows in the first 95 bytes.
use Rattle.std.proofs.Common.{◌≡◌, ℕ, zero, suc, ◌+◌, ◌-◌, ◌*◌, ◌/◌, ◌<◌, ◌≤◌, Bool, true, false, eqb, List, [], ◌∷◌, ◌++◌, length, take, drop, Option, Some, None, Result, Ok, Err, inl, inr, refl, sym, ap, ◌∙◌, append_assoc, get_or, arith}
use Rattle.std.specs.Prelude.{replicate, is_some}
use Rattle.std.specs.List.{flat_map}
use Rattle.std.proofs.lemmas.Bool.{cases_Bool, cases_lt, lt-ltb, le-ltb}
use Rattle.std.proofs.lemmas.List.{length-append, length-replicate, length-take-le, length-drop, take-append-drop, drop_more}
use Rattle.ipld_cid.specs.declared.error.CidError.{CidError}
use Rattle.ipld_cid.specs.declared.error.CidError.TheVariants.{TrailingBytes, InvalidText}
use Rattle.ipld_cid.specs.Multihash.{IsBytes}
use Rattle.ipld_cid.specs.Varint.{read_varint, read_from, error_at, ◌>>=◌}
use Rattle.ipld_cid.specs.Cid.{Link}
use Rattle.ipld_cid.specs.Bytes.{after_version, read_digest, read_v1, read_cid}
use Rattle.ipld_cid.specs.Base32.{bits, byte_bits}
use Rattle.ipld_cid.specs.TextReading.{values, octets, decoded, begins_v0, read_decoded}
use Rattle.std.specs.Option.{option_and_then}
use Rattle.std.specs.Simd.{first_chunks}
use Rattle.ipld_cid.proofs.Letters.{appended, appended-nil, length-values}
use Rattle.ipld_cid.proofs.Octets.{decoded-append, decoded-blocks, blocks_decoded}
use Rattle.ipld_cid.proofs.Encodings.{link_v1, versioned, after_version-sound, after_version-complete}
use Rattle.ipld_cid.proofs.TextReadings.{octets-says, IsBits-flat_map, length-groups}
use Rattle.ipld_cid.proofs.TextLengths.{length-byte_bits}
use Rattle.ipld_cid.proofs.Varints.{bind_err}

-- ---- varints

-- what reading returns for bytes, and for the same bytes with more after them, where so many are left
abbrev Keeps : List ℕ → ℕ → Result (ℕ × List ℕ) CidError → Result (ℕ × List ℕ) CidError → Type 0
Keeps more least (Ok x) long = (long ≡ Ok (x.0, x.1 ++ more)) × (least ≤ length x.1)
Keeps more least (Err e) long = long ≡ Err e

-- a group more
group_keeps : (more : List ℕ) (least low : ℕ) (r long : Result (ℕ × List ℕ) CidError) → Keeps more least r long
    → Keeps more least (r >>= λ high. Ok (low + 128 * high.0, high.1)) (long >>= λ high. Ok (low + 128 * high.0, high.1))
group_keeps more least low (Ok x) long keeps = (ap (λ (r : Result (ℕ × List ℕ) CidError). r >>= λ high. Ok (low + 128 * high.0, high.1)) keeps.0, keeps.1)
group_keeps more least low (Err e) long keeps = ap (λ (r : Result (ℕ × List ℕ) CidError). r >>= λ high. Ok (low + 128 * high.0, high.1)) keeps

-- a byte with others after it is not the tenth
not_tenth : (place b : ℕ) → place ≤ 9 → error_at place b ≡ None → 128 ≤ b → place ≤ 8
not_tenth place b few sound large =
    elim (cases_lt place 9) [
      | inl before ↦ omega arith
      | inr last ↦
          let is : place ≡ 9 = omega arith in
          let nine = rw (is, lt-ltb 1 b (omega arith)) at sound in
          absurd cc
    ]

-- the byte at a place, by its error
byte_keeps : (place b : ℕ) (bytes more : List ℕ) (least : ℕ) (error : Option CidError) → error_at place b ≡ error → place ≤ 9 → least + 10 ≤ suc (length bytes) + place
    → (place ≤ 8 → Keeps more least (read_from (suc place) bytes) (read_from (suc place) (bytes ++ more)))
    → Keeps more least (read_from place (b ∷ bytes)) (read_from place (b ∷ bytes ++ more))
byte_keeps place b bytes more least (Some error) found few enough others = rw found refl
byte_keeps place b bytes more least None sound few enough others =
    rw sound (elim (cases_lt b 128) [
      | inl small ↦ rw (lt-ltb b 128 small) (refl, omega arith)
      | inr large ↦
          rw (le-ltb b 128 large) (group_keeps more least (b - 128) (read_from (suc place) bytes) (read_from (suc place) (bytes ++ more)) (others (not_tenth place b few sound large)))
    ])

-- a varint, from any place on
from_keeps : (place : ℕ) (bytes more : List ℕ) (least : ℕ) → place ≤ 9 → least + 10 ≤ length bytes + place → Keeps more least (read_from place bytes) (read_from place (bytes ++ more))
from_keeps place [] more least few enough = absurd (omega arith)
from_keeps place (b ∷ bytes) more least few enough =
    byte_keeps place b bytes more least (error_at place b) refl few enough (λ before. from_keeps (suc place) bytes more least (omega arith) (omega arith))

varint_keeps : (bytes more : List ℕ) (least : ℕ) → least + 10 ≤ length bytes → Keeps more least (read_varint bytes) (read_varint (bytes ++ more))
unfolding read_varint
varint_keeps bytes more least enough = from_keeps 0 bytes more least (omega arith) (omega arith)

-- ---- a CID

-- the error of the longer bytes, by the outcome of the shorter
abbrev pub over : Result Link CidError → CidError
over (Ok link) = TrailingBytes
over (Err error) = error

-- a varint, and then others
keeps_then : (more : List ℕ) (least : ℕ) (r long : Result (ℕ × List ℕ) CidError) (f : ℕ × List ℕ → Result Link CidError) → Keeps more least r long
    → ((n : ℕ) (rest : List ℕ) → least ≤ length rest → f (n, rest ++ more) ≡ Err (over (f (n, rest)))) → (long >>= f) ≡ Err (over (r >>= f))
keeps_then more least (Ok x) long f keeps after = ap (λ (r : Result (ℕ × List ℕ) CidError). r >>= f) keeps.0 ∙ after x.0 x.1 keeps.1
keeps_then more least (Err e) long f keeps after = ap (λ (r : Result (ℕ × List ℕ) CidError). r >>= f) keeps

-- the digest
digest_over : (size : ℕ) (rest : List ℕ) (x : ℕ) (more : List ℕ) (made : List ℕ → Link) → 64 ≤ length rest
    → (read_digest 64 size (rest ++ x ∷ more) >>= λ digest. Ok (made digest)) ≡ Err (over (read_digest 64 size rest >>= λ digest. Ok (made digest)))
digest_over size rest x more made enough =
    let longer = length-append rest (x ∷ more) in
    elim (cases_lt 64 size) [
      | inl long ↦ rw (lt-ltb 64 size long) refl
      | inr fits ↦
          rw (le-ltb 64 size fits, le-ltb (length (rest ++ x ∷ more)) size (omega arith), lt-ltb size (length (rest ++ x ∷ more)) (omega arith), le-ltb (length rest) size (omega arith)) (
          elim (cases_lt size (length rest)) [
            | inl above ↦ rw (lt-ltb size (length rest) above) refl
            | inr all ↦ rw (le-ltb size (length rest) all) refl
          ])
    ]

-- an error of the version
versioned_error : (n : ℕ) (rest others : List ℕ) (error : CidError) → versioned n rest ≡ Err error → versioned n others ≡ Err error
versioned_error n rest others error e =
    elim (cases_Bool (eqb n 0)) [
      | inl at_zero ↦ rw at_zero (rw at_zero at e)
      | inr above ↦ elim (cases_Bool (eqb n 1)) [
        | inl at_one ↦ absurd (let is = rw (above, at_one) at e in cc)
        | inr higher ↦ rw (above, higher) (rw (above, higher) at e)
      ]
    ]

-- the version
abbrev KeepsVersion : List ℕ → ℕ → Result (List ℕ) CidError → Result (List ℕ) CidError → Type 0
KeepsVersion more least (Ok rest) long = (long ≡ Ok (rest ++ more)) × (least ≤ length rest)
KeepsVersion more least (Err e) long = long ≡ Err e

-- the error of a varint that is kept
kept_error : (more : List ℕ) (least : ℕ) (r long : Result (ℕ × List ℕ) CidError) (error : CidError) → Keeps more least r long → r ≡ Err error → long ≡ Err error
kept_error more least (Ok x) long error keeps is = absurd cc
kept_error more least (Err e) long error keeps is = keeps ∙ is'
  where
    is' : ◌≡◌ {A = Result (ℕ × List ℕ) CidError} (Err e) (Err error)
    is' = let same : e ≡ error = cc in ap (λ (d : CidError). Err d) same

kept_ok : (more : List ℕ) (least : ℕ) (r long : Result (ℕ × List ℕ) CidError) (x : ℕ × List ℕ) → Keeps more least r long → r ≡ Ok x → long ≡ Ok (x.0, x.1 ++ more)
kept_ok more least (Ok y) long x keeps is = let same : y ≡ x = cc in keeps.0 ∙ ap (λ (z : ℕ × List ℕ). Ok (z.0, z.1 ++ more)) same
kept_ok more least (Err e) long x keeps is = absurd cc

version_keeps : (bytes more : List ℕ) (least : ℕ) (r : Result (List ℕ) CidError) → IsBytes bytes → least + 1 ≤ length bytes → 10 ≤ length bytes → after_version bytes ≡ r
    → KeepsVersion more least r (after_version (bytes ++ more))
unfolding after_version
version_keeps bytes more least (Ok rest) is_bytes enough ten read =
    let sound = after_version-sound bytes rest is_bytes read in
    (ap (λ (front : List ℕ). after_version (front ++ more)) sound.0 ∙ after_version-complete (rest ++ more), omega (arith, ap length sound.0))
version_keeps bytes more least (Err error) is_bytes enough ten read =
    let keeps = varint_keeps bytes more 0 (omega arith) in
    elim (bind_err (read_varint bytes) (λ version. versioned version.0 version.1) error read) [
      | inl early ↦ ap (λ (r : Result (ℕ × List ℕ) CidError). r >>= λ version. versioned version.0 version.1) (kept_error more 0 (read_varint bytes) (read_varint (bytes ++ more)) error keeps early)
      | inr later ↦
          ap (λ (r : Result (ℕ × List ℕ) CidError). r >>= λ version. versioned version.0 version.1) (kept_ok more 0 (read_varint bytes) (read_varint (bytes ++ more)) later.0 keeps later.1)
          ∙ versioned_error later.0.0 later.0.1 (later.0.1 ++ more) error later.2
    ]

version_then : (more : List ℕ) (least : ℕ) (r long : Result (List ℕ) CidError) (f : List ℕ → Result Link CidError) → KeepsVersion more least r long
    → ((rest : List ℕ) → least ≤ length rest → f (rest ++ more) ≡ Err (over (f rest))) → (long >>= f) ≡ Err (over (r >>= f))
version_then more least (Ok rest) long f keeps after = ap (λ (r : Result (List ℕ) CidError). r >>= f) keeps.0 ∙ after rest keeps.1
version_then more least (Err e) long f keeps after = ap (λ (r : Result (List ℕ) CidError). r >>= f) keeps

v1_over : (front : List ℕ) (x : ℕ) (more : List ℕ) → IsBytes front → 95 ≤ length front → read_v1 64 (front ++ x ∷ more) ≡ Err (over (read_v1 64 front))
unfolding read_v1
v1_over front x more is_bytes enough =
    let after = x ∷ more in
    version_then after 94 (after_version front) (after_version (front ++ after)) _ (version_keeps front after 94 (after_version front) is_bytes (omega arith) (omega arith) refl) (λ parts left.
    keeps_then after 84 (read_varint parts) (read_varint (parts ++ after)) _ (varint_keeps parts after 84 (omega arith)) (λ codec b codec_left.
    keeps_then after 74 (read_varint b) (read_varint (b ++ after)) _ (varint_keeps b after 74 (omega arith)) (λ code c code_left.
    keeps_then after 64 (read_varint c) (read_varint (c ++ after)) _ (varint_keeps c after 64 (omega arith)) (λ size d size_left.
    digest_over size d x more (λ digest. link_v1 codec code digest) (omega arith)))))

-- ninety-five bytes that begin as no version 0 CID, and more after them
cid_over : (front : List ℕ) (x : ℕ) (more : List ℕ) → IsBytes front → 95 ≤ length front → begins_v0 front ≡ false → read_cid 64 (front ++ x ∷ more) ≡ Err (over (read_cid 64 front))
unfolding read_cid
cid_over [] x more is_bytes enough not_v0 = absurd (omega arith)
cid_over (a ∷ []) x more is_bytes enough not_v0 = absurd (omega arith)
cid_over (a ∷ b ∷ front) x more is_bytes enough not_v0 = rw not_v0 (v1_over (a ∷ b ∷ front) x more is_bytes enough)

-- ---- letters

-- how many bytes letters encode, by the values
length-octets : (groups bytes : List ℕ) → octets (flat_map (bits 5) groups) ≡ Some bytes → length bytes ≡ 5 * length groups / 8
length-octets groups bytes e =
    let says = octets-says (flat_map (bits 5) groups) bytes (IsBits-flat_map 5 groups) e in
    omega (arith, length-groups groups, ap length says.parts, length-append (byte_bits bytes) (replicate says.fill 0), length-byte_bits bytes, length-replicate {A = ℕ} says.fill 0, says.short)

-- the bytes that letters encode are bytes, so many of them
decoded-says : (text bytes : List ℕ) → decoded text ≡ Some bytes → IsBytes bytes × (length bytes ≡ 5 * length text / 8)
unfolding decoded
decoded-says text bytes e = by_values text bytes (values text) refl e
  where
    by_values : (text bytes : List ℕ) (found : Option (List ℕ)) → values text ≡ found → option_and_then (λ groups. octets (flat_map (bits 5) groups)) found ≡ Some bytes
        → IsBytes bytes × (length bytes ≡ 5 * length text / 8)
    by_values text bytes None is e = absurd cc
    by_values text bytes (Some groups) is e =
        ((octets-says (flat_map (bits 5) groups) bytes (IsBits-flat_map 5 groups) e).fits, length-octets groups bytes e ∙ ap (λ (n : ℕ). 5 * n / 8) (length-values text groups is))

appended-assoc : (a b c : Option (List ℕ)) → appended (appended a b) c ≡ appended a (appended b c)
appended-assoc None b c = refl
appended-assoc (Some x) None c = refl
appended-assoc (Some x) (Some y) None = refl
appended-assoc (Some x) (Some y) (Some z) = ap (λ (xs : List ℕ). Some xs) (append_assoc x y z)

-- whole blocks of letters, and others
blocks-append : (k : ℕ) (front back : List ℕ) → length front ≡ k * 8 → decoded (front ++ back) ≡ appended (decoded front) (decoded back)
unfolding decoded
blocks-append zero [] back whole = appended-nil (decoded back)
blocks-append zero (x ∷ front) back whole = absurd (omega arith)
blocks-append (suc k) front back whole =
    let first : List ℕ = take 8 front in
    let others : List ℕ = drop 8 front in
    let eight : length first ≡ 8 = length-take-le 8 front (omega arith) in
    let parts : first ++ others ≡ front = take-append-drop 8 front in
    let left : length others ≡ k * 8 = omega (arith, length-drop 8 front) in
    ap (λ (letters : List ℕ). decoded (letters ++ back)) (sym parts) ∙ ap decoded (append_assoc first others back) ∙ decoded-append first (others ++ back) eight
    ∙ ap (appended (decoded first)) (blocks-append k others back left) ∙ sym (appended-assoc (decoded first) (decoded others) (decoded back))
    ∙ ap (λ (bytes : Option (List ℕ)). appended bytes (decoded back)) (sym (decoded-append first others eight) ∙ ap decoded parts)

-- letters of which some encode nothing
pub front_invalid : (front rest : List ℕ) → length front ≡ 152 → decoded front ≡ None → read_decoded 64 (decoded (front ++ rest)) ≡ Err InvalidText
front_invalid front rest long none = ap (read_decoded 64) (blocks-append 19 front rest long ∙ ap (λ (bytes : Option (List ℕ)). appended bytes (decoded rest)) none)

nothing_behind : (bytes : Option (List ℕ)) → appended bytes None ≡ None
nothing_behind None = refl
nothing_behind (Some bytes) = refl

is_none : (found : Option (List ℕ)) → is_some found ≡ false → found ≡ None
is_none None e = refl
is_none (Some bytes) e = absurd cc

pub rest_invalid : (front rest : List ℕ) → length front ≡ 152 → is_some (decoded rest) ≡ false → read_decoded 64 (decoded (front ++ rest)) ≡ Err InvalidText
rest_invalid front rest long none =
    ap (read_decoded 64) (blocks-append 19 front rest long ∙ ap (appended (decoded front)) (is_none (decoded rest) none) ∙ nothing_behind (decoded front))

-- what follows does not change how bytes begin
begins-append : (front more : List ℕ) → 2 ≤ length front → begins_v0 (front ++ more) ≡ begins_v0 front
begins-append [] more enough = absurd (omega arith)
begins-append (a ∷ []) more enough = absurd (omega arith)
begins-append (a ∷ b ∷ front) more enough = refl

-- letters that begin as those of a version 0 CID
v0_and : (bytes : List ℕ) (others : Option (List ℕ)) → 2 ≤ length bytes → begins_v0 bytes ≡ true → read_decoded 64 (appended (Some bytes) others) ≡ Err InvalidText
v0_and bytes None enough v0 = refl
v0_and bytes (Some more) enough v0 = rw (begins-append bytes more enough, v0) refl

pub v0_invalid : (front rest bytes : List ℕ) → length front ≡ 152 → decoded front ≡ Some bytes → begins_v0 bytes ≡ true → read_decoded 64 (decoded (front ++ rest)) ≡ Err InvalidText
v0_invalid front rest bytes long is v0 =
    let sized = (decoded-says front bytes is).1 in
    ap (read_decoded 64) (blocks-append 19 front rest long ∙ ap (λ (found : Option (List ℕ)). appended found (decoded rest)) is) ∙ v0_and bytes (decoded rest) (omega arith) v0

-- bytes that go on
long_and : (bytes : List ℕ) (others : Option (List ℕ)) → IsBytes bytes → 95 ≤ length bytes → begins_v0 bytes ≡ false → is_some others ≡ true
    → ((more : List ℕ) → others ≡ Some more → 1 ≤ length more) → read_decoded 64 (appended (Some bytes) others) ≡ Err (over (read_cid 64 bytes))
long_and bytes None is_bytes enough not_v0 some left = absurd cc
long_and bytes (Some []) is_bytes enough not_v0 some left = absurd (omega (arith, left [] refl))
long_and bytes (Some (x ∷ more)) is_bytes enough not_v0 some left = rw (begins-append bytes (x ∷ more) (omega arith), not_v0) (cid_over bytes x more is_bytes enough not_v0)

-- the error of letters that encode so many bytes
pub long_error : (front rest bytes : List ℕ) → length front ≡ 152 → 3 ≤ length rest → decoded front ≡ Some bytes → begins_v0 bytes ≡ false → is_some (decoded rest) ≡ true
    → read_decoded 64 (decoded (front ++ rest)) ≡ Err (over (read_cid 64 bytes))
long_error front rest bytes long three is not_v0 some =
    let says = decoded-says front bytes is in
    ap (read_decoded 64) (blocks-append 19 front rest long ∙ ap (λ (found : Option (List ℕ)). appended found (decoded rest)) is)
    ∙ long_and bytes (decoded rest) says.0 (omega (arith, says.1)) not_v0 some (λ more e. omega (arith, (decoded-says rest more e).1))

-- ---- the test of letters

-- blocks so far that encode bytes
pub block_tested : (blocks : List (List ℕ)) (rest : List ℕ) (i : ℕ) (all : Bool) → i < length blocks → is_some (decoded (get_or blocks i [])) ≡ true
    → all ≡ is_some (blocks_decoded (drop i blocks) rest) → all ≡ is_some (blocks_decoded (drop (i + 1) blocks) rest)
block_tested blocks rest i all within some so_far =
    so_far ∙ ap (λ (bs : List (List ℕ)). is_some (blocks_decoded bs rest)) (drop_more blocks i [] within) ∙ both (decoded (get_or blocks i [])) (blocks_decoded (drop (i + 1) blocks) rest) some
  where
    both : (a b : Option (List ℕ)) → is_some a ≡ true → is_some (appended a b) ≡ is_some b
    both None b e = absurd cc
    both (Some x) None e = refl
    both (Some x) (Some y) e = refl

-- a block that encodes none
pub block_fails : (blocks : List (List ℕ)) (rest : List ℕ) (i : ℕ) (all : Bool) → i < length blocks → is_some (decoded (get_or blocks i [])) ≡ false
    → all ≡ is_some (blocks_decoded (drop i blocks) rest) → false ≡ all
block_fails blocks rest i all within none so_far =
    sym (so_far ∙ ap (λ (bs : List (List ℕ)). is_some (blocks_decoded bs rest)) (drop_more blocks i [] within)
    ∙ ap (λ (found : Option (List ℕ)). is_some (appended found (blocks_decoded (drop (i + 1) blocks) rest))) (is_none (decoded (get_or blocks i [])) none))

-- and what is left
pub tested : (letters : List ℕ) (blocks : List (List ℕ)) (rest : List ℕ) (i : ℕ) → blocks ≡ first_chunks 8 (length letters / 8) letters → rest ≡ drop (length letters / 8 * 8) letters
    → is_some (blocks_decoded blocks rest) ≡ is_some (decoded letters)
tested letters blocks rest i front back =
    ap is_some (ap (λ (bs : List (List ℕ)). blocks_decoded bs rest) front ∙ ap (blocks_decoded (first_chunks 8 (length letters / 8) letters)) back ∙ sym (decoded-blocks (length letters / 8) letters (omega arith)))
