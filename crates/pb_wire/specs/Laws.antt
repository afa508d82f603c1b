-- The laws of reading.
use Rattle.std.specs.Prelude.{◌≡◌, ◌⊎◌, ◌≢◌, ℕ, List, [], ◌++◌, Option, Result, Ok}
use Rattle.ipld_cid.specs.Multihash.{IsBytes}
use Rattle.pb_wire.specs.declared.error.WireError.{WireError}
use Rattle.pb_wire.specs.Wire.{IsVarint}

-- True if the bytes begin with bytes of which `P` is true, and `rest` follows.
abbrev pub Begins : (List ℕ → Type 0) → List ℕ → List ℕ → Type 0
Begins P bytes rest = (taken : List ℕ) × P taken × (bytes ≡ taken ++ rest)

-- True if the bytes are empty, or begin with another key than this one.
abbrev pub HasOtherKey : ℕ → List ℕ → Type 0
HasOtherKey key bytes = (bytes ≡ []) ⊎ ((found : ℕ) × (rest : List ℕ) × (found ≢ key) × Begins (IsVarint found) bytes rest)

-- True if a value that is read is encoded at the front of the bytes.
abbrev pub ReadIsEncoded : {A : Type 0} → (A → List ℕ → Type 0) → (List ℕ → Result (A × List ℕ) WireError) → Type 0
ReadIsEncoded {A} Is read = (bytes rest : List ℕ) (x : A) → IsBytes bytes → read bytes ≡ Ok (x, rest) → Begins (Is x) bytes rest

-- True if a value that is encoded is read, whatever follows it.
abbrev pub EncodedIsRead : {A : Type 0} → (A → List ℕ → Type 0) → (List ℕ → Result (A × List ℕ) WireError) → Type 0
EncodedIsRead {A} Is read = (taken rest : List ℕ) (x : A) → Is x taken → read (taken ++ rest) ≡ Ok (x, rest)

-- True if a field that is encoded is read, and one that is left out is missing, if no other field
-- with its key follows.
abbrev pub FieldIsRead : {A : Type 0} → ℕ → (Option A → List ℕ → Type 0) → (List ℕ → Result (Option A × List ℕ) WireError) → Type 0
FieldIsRead {A} key Is read = (taken rest : List ℕ) (x : Option A) → Is x taken → HasOtherKey key rest → read (taken ++ rest) ≡ Ok (x, rest)
