-- A failed allocation.
use Rattle.std.specs.Prelude.{◌≡◌, ◌≤◌, ℕ}
use Rattle.dag_cbor_tape.specs.declared.error.EncodeErrorKind.{EncodeErrorKind}
use Rattle.dag_cbor_tape.specs.declared.error.EncodeErrorKind.TheVariants.{Memory}
use Rattle.dag_cbor_tape.specs.declared.error.EncodeError.{EncodeError}
use Rattle.dag_cbor_tape.specs.declared.error.Fault.{Fault}

abbrev pub IsMemory : EncodeErrorKind → Type 0
IsMemory kind = kind ≡ Memory

abbrev pub IsMemoryFault : Fault → Type 0
IsMemoryFault f = f.kind ≡ Memory

-- True if the error is that of a failed allocation, and its entry is at most the number of entries.
abbrev pub IsOutOfMemory : ℕ → EncodeError → Type 0
IsOutOfMemory len error = (error.kind ≡ Memory) × (error.entry ≤ len)
