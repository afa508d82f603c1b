-- The texts that the error prints.
use Rattle.std.specs.Prelude.{ℕ, List, ◌++◌, codes, Some, None}
use Rattle.std.specs.declared.option.Option.{Option}
use Rattle.std.specs.Fmt.{decimal}
use Rattle.ipld_cid.specs.Error as cid
use Rattle.ipld_block.specs.ErrorTexts as block
use Rattle.ipld_show.specs.declared.error.ShowError.{ShowError}
use Rattle.ipld_show.specs.declared.error.ShowError.TheVariants.{Memory, Write, Invalid, TooLong, NoSegment, NotAContainer, Reserved, Cid}

-- the sentence of an error, or nothing for an error of a writer
abbrev pub sentence_of : ShowError → Option (List ℕ)
sentence_of Memory = Some (codes "out of memory")
sentence_of (Write kind) = None
sentence_of (Invalid why) = Some (block.sentence_of why)
sentence_of TooLong = Some (codes "too long for a tape: a string of 2^32 bytes, or a list or a map of 2^32 entries")
sentence_of (NoSegment segment) = Some (codes "the path leads to no key or index at segment " ++ decimal segment)
sentence_of (NotAContainer segment) = Some (codes "the path goes on after a value that is not a list or a map, at segment " ++ decimal segment)
sentence_of (Reserved offset) = Some (codes "DAG-JSON would read a link or bytes in place of the map at byte " ++ decimal offset)
sentence_of (Cid error) = Some (codes "not a CID: " ++ cid.sentence_of error)
