-- The sentences that errors print.
use Rattle.std.specs.Prelude.{ℕ, List, ◌++◌, codes, Some, None, Bool, false}
use Rattle.std.specs.declared.option.Option.{Option}
use Rattle.std.specs.Fmt.{decimal, digits}
use Rattle.ipld_car.specs.declared.index.error.IndexError.{IndexError}
use Rattle.ipld_car.specs.declared.index.error.IndexError.TheVariants.{Memory, Read, UnexpectedEnd, FormatNotShortest, FormatTooLarge, Format, Width, Length, NotSorted}

-- the sentence for an error, with any format options, or nothing for an error of a reader and for
-- another format
abbrev pub styled_sentence : IndexError → Option (List ℕ)
styled_sentence Memory = Some (codes "out of memory")
styled_sentence (Read error) = None
styled_sentence UnexpectedEnd = Some (codes "the file ends within the index")
styled_sentence FormatNotShortest = Some (codes "the index's format is not in its shortest form")
styled_sentence FormatTooLarge = Some (codes "the index's format is 2^64 or more")
styled_sentence (Format code) = None
styled_sentence (Width width) = Some (codes "the rows of the index should have 8 to 72 bytes, but have " ++ decimal width)
styled_sentence (Length length) = Some (codes "the index is not a whole number of rows: its length is " ++ decimal length)
styled_sentence NotSorted = Some (codes "the index is not sorted")

-- false: hexadecimal digits above nine are lower case
abbrev pub in_capitals : Bool
in_capitals = false

-- the sentence that `{}` prints, also for another format, with its code in hexadecimal digits, or
-- nothing for an error of a reader
abbrev pub sentence_of : IndexError → Option (List ℕ)
sentence_of (Format code) = Some (codes "unsupported format of the index: expected 0x400 or 0x401, found 0x" ++ digits 16 in_capitals code)
sentence_of error = styled_sentence error
