-- The errors of the wire format, and the offsets of errors.
use Rattle.std.specs.Prelude.{ℕ, ◌-◌, ◌+◌, Result, Ok, Err}
use Rattle.pb_wire.specs.declared.error.WireError.{WireError}
use Rattle.pb_wire.specs.declared.error.WireError.TheVariants as wire
use Rattle.pb_wire.specs.Steps.{with_error}
use Rattle.unixfs.specs.declared.error.UnixFsErrorKind.{UnixFsErrorKind}
use Rattle.unixfs.specs.declared.error.UnixFsErrorKind.TheVariants.{Memory, End, VarintTooLarge}
use Rattle.unixfs.specs.declared.error.UnixFsError.{UnixFsError}
use Rattle.unixfs.specs.declared.error.Fault.{Fault}

-- the error of a message of `len` bytes, from the number of bytes left at the beginning of the
-- invalid field
abbrev pub error_in : ℕ → Fault → UnixFsError
error_in len fault = record { kind = fault.kind; offset = len - fault.left }

-- the fault of a failed allocation
abbrev pub no_memory : Fault
no_memory = record { kind = Memory; left = 18446744073709551615 }

-- the kind of an error of the wire format
abbrev pub kind_of : WireError → UnixFsErrorKind
kind_of wire.End = End
kind_of wire.VarintTooLarge = VarintTooLarge

-- the result of reading the wire format, with the kind of its error
abbrev pub of_wire : {A : Type 0} → Result A WireError → Result A UnixFsErrorKind
of_wire read = with_error kind_of read

-- the result, with `left`, the number of bytes left at the beginning of the field, in its error
abbrev pub at : {A : Type 0} → ℕ → Result A UnixFsErrorKind → Result A Fault
at left (Ok x) = Ok x
at left (Err kind) = Err (record { kind = kind; left = left })

-- the result in a message in the message, with the bytes after it added to those left in its error
abbrev pub before : {A : Type 0} → ℕ → Result A Fault → Result A Fault
before more (Ok x) = Ok x
before more (Err fault) = Err (record { kind = fault.kind; left = fault.left + more })
