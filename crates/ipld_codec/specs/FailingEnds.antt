-- This file models a reader that fails after its bytes, and a writer that fails after n writes.
use Rattle.std.specs.Prelude.{◌≡◌, ◌≢◌, ℕ, suc, List, [], length, min, take, drop, MatchResult, Option, None, Result}
use Rattle.ipld_codec.specs.declared.fault_reader.FaultReader.{FaultReader}
use Rattle.ipld_codec.specs.declared.fault_writer.FaultWriter.{FaultWriter}

-- the bytes that the reader has not returned yet
abbrev pub bytes_left : FaultReader → List ℕ
bytes_left reader = reader.bytes.now

-- the number of writes that still succeed
abbrev pub writes_left : FaultWriter → ℕ
writes_left writer = writer.writes

-- the bytes of the writer, which are unknown because it does not keep them
abbrev pub unreported : Option (List ℕ)
unreported = None

-- True if the reader had bytes and returned those that fit into `buf`, or had no bytes and failed.
abbrev pub ReadsFront : {E : Type 0} → List ℕ → List ℕ → List ℕ → Result ℕ E → Type 0
ReadsFront old new buf result = MatchResult result
    (λ n. (old ≢ []) × (n ≡ min (length old) (length buf)) × (take n buf ≡ take n old) × (new ≡ drop n old))
    (λ _. (old ≡ []) × (new ≡ []))

-- True if the writer took the whole buffer in one write, or had no writes left and failed.
abbrev pub TakesAll : {E : Type 0} → ℕ → ℕ → List ℕ → Result ℕ E → Type 0
TakesAll old new buf result = MatchResult result
    (λ n. (n ≡ length buf) × (old ≡ suc new))
    (λ _. (old ≡ 0) × (new ≡ 0))
