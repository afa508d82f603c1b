-- The sentences of the errors.
use Rattle.std.specs.Prelude.{ℕ, List, ◌++◌, codes}
use Rattle.std.specs.Fmt.{decimal}
use Rattle.unixfs_build.specs.declared.error.BuildError.{BuildError}
use Rattle.unixfs_build.specs.declared.error.BuildError.TheVariants.{Memory, Width, TooLarge, Nanoseconds, InvalidName, NameOrder, SameHash}

-- the sentence of an error
abbrev pub sentence_of : BuildError → List ℕ
sentence_of Memory = codes "out of memory"
sentence_of Width = codes "a node has to have room for at least 2 links"
sentence_of TooLarge = codes "the file or folder and its blocks have 2^64 bytes or more"
sentence_of (Nanoseconds count) = codes "the nanoseconds of a time are more than 999999999: " ++ decimal count
sentence_of (InvalidName index) = codes "names may not be empty, . or .., or have a / or a NUL: entry " ++ decimal index
sentence_of (NameOrder index) = codes "names have to ascend by their bytes, each once: entry " ++ decimal index
sentence_of SameHash = codes "two names have the same hash, so no shard can part them: rename one"
