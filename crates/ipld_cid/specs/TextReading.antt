-- Reading the text of a CID: the multibase prefix `b`, and base32 (RFC 4648, section 6) in lower
-- case and without padding. A version 0 CID has no such text.
use Rattle.std.specs.Prelude.{◌≡◌, ◌≤◌, ◌<◌, ◌+◌, ◌*◌, ◌==◌, ◌&&◌, ℕ, nat_lt, if◌then◌else◌, Bool, false, List, [], ◌∷◌, ◌++◌, length, map, replicate, slice_index, Option, Some, None, Result, Err}
use Rattle.std.specs.List.{flat_map, list_all, position}
use Rattle.std.specs.Option.{option_map, option_and_then}
use Rattle.ipld_cid.specs.declared.cid.Version.TheVariants.{V1}
use Rattle.ipld_cid.specs.declared.error.CidError.{CidError}
use Rattle.ipld_cid.specs.declared.error.CidError.TheVariants.{InvalidText}
use Rattle.ipld_cid.specs.Base32.{bits, byte_bits, alphabet, letter}
use Rattle.ipld_cid.specs.Bytes.{IsCid, read_cid}
use Rattle.ipld_cid.specs.Cid.{Link}

-- True if `text` is the text of `link`, a version 1 CID with a digest of at most S bytes. It is `b`
-- and letters. The groups of five bits of the letters, joined, are the bits of the CID's bytes and
-- at most four zero bits (RFC 4648, section 6; multibase, prefix `b`).
pub record IsText (S : ℕ) (link : Link) (text : List ℕ) : Type 0 where
  pub is_v1 : link.version ≡ V1
  pub bytes : List ℕ
  pub encoded : IsCid S bytes link
  pub groups : List ℕ
  pub small : (i : ℕ) → slice_index groups i < 32
  pub letters : text ≡ 98 ∷ map letter groups
  pub fill : ℕ
  pub short : fill ≤ 4
  pub joined : flat_map (bits 5) groups ≡ byte_bits bytes ++ replicate fill 0

-- The result of reading: the CID, or the error.

-- The value of a letter, its index in the alphabet. Another character has no value.
unfoldable pub value_of : ℕ → Option ℕ
value_of character = position (λ l. l == character) alphabet

-- The values of the letters, if all characters are letters
abbrev pub values : List ℕ → Option (List ℕ)
values [] = Some []
values (character ∷ text) = option_and_then (λ value. option_map (λ more. value ∷ more) (values text)) (value_of character)

-- The numbers of the groups of eight bits, if fewer than five bits are left at the end and these
-- are zero.
abbrev pub octets : List ℕ → Option (List ℕ)
octets (a ∷ b ∷ c ∷ d ∷ e ∷ f ∷ g ∷ h ∷ rest) =
    option_map (λ bytes. (128 * a + 64 * b + 32 * c + 16 * d + 8 * e + 4 * f + 2 * g + h) ∷ bytes) (octets rest)
octets rest = if nat_lt (length rest) 5 && list_all (λ bit. bit == 0) rest then Some [] else None

-- The bytes that letters encode, if they encode any
unfoldable pub decoded : List ℕ → Option (List ℕ)
decoded letters = option_and_then (λ groups. octets (flat_map (bits 5) groups)) (values letters)

-- Whether the bytes begin with `12 20`, the front of a version 0 CID
abbrev pub begins_v0 : List ℕ → Bool
begins_v0 (a ∷ b ∷ bytes) = a == 0x12 && b == 0x20
begins_v0 bytes = false

-- The result of reading decoded bytes. It is `InvalidText` if decoding failed or the bytes begin
-- with `12 20`, and otherwise the result of reading the bytes.
abbrev pub read_decoded : ℕ → Option (List ℕ) → Result Link CidError
read_decoded S None = Err InvalidText
read_decoded S (Some bytes) = if begins_v0 bytes then Err InvalidText else read_cid S bytes

-- The result of reading a text. It is `InvalidText` if the text does not begin with `b`, or a
-- character after it is outside the alphabet. It is also `InvalidText` if more than four bits or a
-- set bit are left over, or if the decoded bytes begin with `12 20`. Otherwise it is the result of
-- reading the bytes.
unfoldable pub read_text : ℕ → List ℕ → Result Link CidError
read_text S [] = Err InvalidText
read_text S (first ∷ letters) = if first == 98 then read_decoded S (decoded letters) else Err InvalidText
