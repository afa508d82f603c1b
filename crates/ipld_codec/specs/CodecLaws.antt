-- This file states the laws that relate the encoding, the decoding and the writing of a codec.
use Rattle.std.specs.Prelude.{◌≡◌, ◌↔◌, ℕ, List, Option, Some}

-- True if no block encodes two different values.
abbrev pub EncodedOnce : {V : Type 0} → (V → List ℕ → Type 0) → Type 0
EncodedOnce {V} Encodes = (v w : V) (block : List ℕ) → Encodes v block → Encodes w block → v ≡ w

-- True if a block decodes to a value if and only if it encodes the value.
abbrev pub DecodesEncoded : {V : Type 0} → (V → List ℕ → Type 0) → (List ℕ → Option V) → Type 0
DecodesEncoded {V} Encodes decoded = (v : V) (block : List ℕ) → (decoded block ≡ Some v) ↔ Encodes v block

-- True if the block that is written for a value encodes the value.
abbrev pub WritesEncoded : {V : Type 0} → (V → List ℕ → Type 0) → (V → Option (List ℕ)) → Type 0
WritesEncoded {V} Encodes writes = (v : V) (block : List ℕ) → writes v ≡ Some block → Encodes v block

-- True if the block that is written for a value decodes to the same value.
abbrev pub RoundTrip : {V : Type 0} → (V → Option (List ℕ)) → (List ℕ → Option V) → Type 0
RoundTrip {V} writes decoded = (v : V) (block : List ℕ) → writes v ≡ Some block → decoded block ≡ Some v
