-- The varint at the front of bytes.
use Rattle.std.specs.Prelude.{◌≡◌, ◌≤◌, ◌<◌, ℕ, List, ◌++◌, length, Err}
use Rattle.ipld_cid.specs.declared.error.CidError.{CidError}
use Rattle.ipld_cid.specs.Varint.{IsVarint, read_varint}

-- True if the bytes begin with the varint of `number`, which has `count` bytes.
pub record HasLength (bytes : List ℕ) (number count : ℕ) : Type 0 where
  pub size : List ℕ
  pub rest : List ℕ
  pub size_encoded : IsVarint number size
  pub parts : bytes ≡ size ++ rest
  pub counted : length size ≡ count

-- True if the bytes do not begin with a varint.
abbrev pub HasNoLength : List ℕ → Type 0
HasNoLength bytes = (error : CidError) × (read_varint bytes ≡ Err error)

-- True if no varint above the limit is at the front of the bytes.
abbrev pub IsWithin : ℕ → List ℕ → Type 0
IsWithin limit bytes = (number : ℕ) (size rest : List ℕ) → IsVarint number size → bytes ≡ size ++ rest → number ≤ limit

-- True if the bytes begin with the varint of `number`, which is above the limit.
abbrev pub IsOver : ℕ → List ℕ → ℕ → Type 0
IsOver limit bytes number = (front rest : List ℕ) × (bytes ≡ front ++ rest) × IsVarint number front × (limit < number)
