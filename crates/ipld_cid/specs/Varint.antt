-- Unsigned varints (multiformats unsigned-varint) are LEB128 in its shortest form. The
-- specification stops at nine bytes. Here a tenth byte may hold the last bit of a number below
-- 2^64.
use Rattle.std.specs.Prelude.{◌≡◌, ◌≤◌, ◌<◌, ◌+◌, ◌-◌, ◌*◌, ◌/◌, ◌%◌, ◌^◌, ◌==◌, ◌&&◌, ℕ, zero, suc, nat_lt, if◌then◌else◌, List, [], ◌∷◌, length, Option, Some, None, Result, Ok, Err}
use Rattle.ipld_cid.specs.declared.error.CidError.{CidError}
use Rattle.ipld_cid.specs.declared.error.CidError.TheVariants.{End, NotShortest, VarintTooLarge}

-- True if the bytes are a LEB128 encoding of n. Their low seven bits, the least significant group
-- first, add up to n, and every byte except the last has its high bit set (LEB128 in multiformats
-- unsigned-varint).
abbrev pub IsLeb128 : ℕ → List ℕ → Type 0
IsLeb128 n [] = ⊥
IsLeb128 n (b ∷ []) = (b < 128) × (n ≡ b)
IsLeb128 n (b ∷ c ∷ bytes) = (128 ≤ b) × (b < 256) × (high : ℕ) × (n ≡ (b - 128) + 128 * high) × IsLeb128 high (c ∷ bytes)

-- True if n is below 2^64 and `bytes` are the shortest of its LEB128 encodings (multiformats
-- unsigned-varint). The specification stops at nine bytes, below 2^63. Here a tenth byte may hold
-- the last bit.
pub record IsVarint (n : ℕ) (bytes : List ℕ) : Type 0 where
  pub below : n < 2 ^ 64
  pub encoded : IsLeb128 n bytes
  pub shortest : (others : List ℕ) → IsLeb128 n others → length bytes ≤ length others

-- The encoding of n, in at most `more` + 1 bytes
abbrev pub groups_of : ℕ → ℕ → List ℕ
groups_of zero n = n ∷ []
groups_of (suc more) n = if nat_lt n 128 then n ∷ [] else (128 + n % 128) ∷ groups_of more (n / 128)

-- The one varint of n.
unfoldable pub varint_of : ℕ → List ℕ
varint_of n = groups_of 9 n

-- The result of `f` for the value that was read, or the error of reading it
infixl 10 ◌>>=◌
abbrev pub ◌>>=◌ : {A B : Type 0} → Result A CidError → (A → Result B CidError) → Result B CidError
(Ok x) >>= f = f x
(Err e) >>= f = Err e

-- The error of the byte after the first `place` bytes of a varint, if it has one: a tenth byte
-- above one, or a zero byte that is not the first
abbrev pub error_at : ℕ → ℕ → Option CidError
error_at place byte =
    if place == 9 && nat_lt 1 byte then Some VarintTooLarge
    else if nat_lt 0 place && byte == 0 then Some NotShortest
    else None

abbrev pub unless : {A : Type 0} → Option CidError → Result A CidError → Result A CidError
unless None read = read
unless (Some error) read = Err error

-- The result of reading the rest of a varint after its first `place` bytes: the number that the
-- rest encodes and the bytes after it, or the first error
abbrev pub read_from : ℕ → List ℕ → Result (ℕ × List ℕ) CidError
read_from place [] = Err End
read_from place (b ∷ bytes) = unless (error_at place b) (
    if nat_lt b 128 then Ok (b, bytes)
    else (read_from (suc place) bytes >>= λ high. Ok ((b - 128) + 128 * high.0, high.1)))

-- The result of reading a varint at the front of `bytes`: the number and the bytes after it, or the
-- first error from the left. The errors are: the bytes run out (`End`), a last byte of zero that is
-- not the first (`NotShortest`), and a tenth byte above one (`VarintTooLarge`).
unfoldable pub read_varint : List ℕ → Result (ℕ × List ℕ) CidError
read_varint bytes = read_from 0 bytes
