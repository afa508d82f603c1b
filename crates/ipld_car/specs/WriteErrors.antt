-- Errors of writing.
use Rattle.std.specs.Prelude.{◌≢◌}
use Rattle.std.specs.IoError.{error_kind}
use Rattle.std.specs.declared.io.Error.{Error}
use Rattle.std.specs.declared.io.ErrorKind.TheVariants.{Interrupted}

-- True if the error is one of writing, which is every error that is not `Interrupted`. A failed
-- allocation has the kind `OutOfMemory`. An interrupted write is tried again.
abbrev pub IsWriteError : Error → Type 0
IsWriteError error = error_kind error ≢ Interrupted
