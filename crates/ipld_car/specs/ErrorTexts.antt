-- The sentences that errors print.
use Rattle.std.specs.Prelude.{ℕ, List, ◌++◌, codes, Some, None}
use Rattle.std.specs.declared.option.Option.{Option}
use Rattle.std.specs.Fmt.{decimal, ◌++?◌}
use Rattle.ipld_cid.specs.Error as cid
use Rattle.dag_cbor_blocks.specs.BlockErrors as cbor
use Rattle.ipld_car.specs.declared.error.CarError.{CarError}
use Rattle.ipld_car.specs.declared.error.CarErrorKind.{CarErrorKind}
use Rattle.ipld_car.specs.declared.error.CarErrorKind.TheVariants.{Memory, Read, UnexpectedEnd, ShortPayload, LengthNotShortest, LengthTooLarge, Empty, TooLong, Cid, HeaderBlock, NotAHeader, Payload}

-- the sentence for a kind of error, or nothing for an error of a reader
abbrev pub kind_sentence : CarErrorKind → Option (List ℕ)
kind_sentence Memory = Some (codes "out of memory")
kind_sentence (Read error) = None
kind_sentence UnexpectedEnd = Some (codes "the file or its payload ends within a header or a section")
kind_sentence (ShortPayload expected found) = Some ((codes "the payload is cut off after " ++ decimal found) ++ (codes " bytes of " ++ decimal expected))
kind_sentence LengthNotShortest = Some (codes "the length of a header or a section is not in its shortest form")
kind_sentence LengthTooLarge = Some (codes "the length of a header or a section is 2^64 or more")
kind_sentence Empty = Some (codes "a header or a section has the length zero")
kind_sentence (TooLong length) = Some (codes "a header or a section is over the limit: its length is " ++ decimal length)
kind_sentence (Cid error) = Some (codes "a section does not begin with a CID: " ++ cid.sentence_of error)
kind_sentence (HeaderBlock error) = Some (codes "the header is not valid DAG-CBOR: " ++ cbor.kind_sentence error)
kind_sentence NotAHeader = Some (codes "not the header of a CAR: expected a map of roots, a list of links, and version, 1")
kind_sentence Payload = Some (codes "the payload's offset or size in the header of version 2 is out of range")

-- the sentence for an error, with the byte at which it is, or nothing for an error of a reader
abbrev pub sentence_of : CarError → Option (List ℕ)
sentence_of error = kind_sentence error.kind ++? Some (codes " at byte " ++ decimal error.offset)
