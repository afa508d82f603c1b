-- The loops over the links of a folder.
use Rattle.std.proofs.Common.{List, ◌++◌, Result, Ok}
use Rattle.pb_wire.specs.Steps.{◌>>=◌}
use Rattle.unixfs_folders.specs.declared.error.FolderErrorKind.{FolderErrorKind}

-- what was read, and what is read after it
abbrev pub after : {A : Type 0} → List A → Result (List A) FolderErrorKind → Result (List A) FolderErrorKind
after done r = r >>= λ rest. Ok (done ++ rest)
