-- The names and the sentences of the errors of a run.
use Rattle.std.specs.Prelude.{ℕ, List, codes}
use Rattle.std.specs.declared.io.ErrorKind.{ErrorKind}
use Rattle.std.specs.declared.io.ErrorKind.TheVariants.{OutOfMemory}
use Rattle.ipld_links_run.specs.declared.status.RunFault.{RunFault}
use Rattle.ipld_links_run.specs.declared.status.RunFault.TheVariants.{Memory, Read, Write}

-- the error of a run for an error of a reader, by its kind
abbrev pub fault_of : ErrorKind → RunFault
fault_of OutOfMemory = Memory
fault_of _ = Read

-- the name of an error
abbrev pub name_of : RunFault → List ℕ
name_of Memory = codes "Memory"
name_of Read = codes "Read"
name_of Write = codes "Write"

-- the sentence of an error
abbrev pub sentence_of : RunFault → List ℕ
sentence_of Memory = codes "out of memory"
sentence_of Read = codes "the reader failed"
sentence_of Write = codes "the writer failed"
