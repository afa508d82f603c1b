-- The result of reading a text as a tape.
use Rattle.std.specs.Prelude.{◌≡◌, ℕ, true, false, List, Result, Ok, Err}
use Rattle.ipld_tree.specs.Tree.{Tree}
use Rattle.ipld_tree.specs.declared.limits.Limits.{Limits}
use Rattle.dag_cbor_blocks.specs.Tape.{all_short}
use Rattle.dag_cbor_blocks.specs.declared.tape.TapeEntry.{TapeEntry}
use Rattle.dag_json.specs.Encodes.{EncodesWithinIn}
use Rattle.dag_json.specs.Offset.{SaysWhere}
use Rattle.dag_json.specs.ReadContract.{ReadsBytes}
use Rattle.dag_json.specs.declared.read_error.ReadErrorKind.TheVariants.{Memory}
use Rattle.dag_json.specs.Tape.{IsTape}
use Rattle.dag_json.specs.declared.tape.Tape.{Tape}
use Rattle.dag_json.specs.declared.tape.JsonTapeError.{JsonTapeError}
use Rattle.dag_json.specs.declared.tape.JsonTapeError.TheVariants.{Text, TooLong}

-- True if the tape has the entries of the tree over its contents.
abbrev pub IsTapeOf : Tree → Tape → Type 0
IsTapeOf t tape = IsTape tape.contents.items t tape.entries.items

-- True if an entry of the tree has a length of 2^32 or more. The lengths don't depend on where the
-- contents are.
abbrev pub IsTooLong : Tree → Type 0
IsTooLong t = (contents : List ℕ) × (es : List TapeEntry) × IsTape contents t es × (all_short es ≡ false)

-- True if the error is that an entry of the tree that the text encodes, within the limits, is too
-- long. Other errors are those of reading the text as a tree, with the offset, or a failed
-- allocation.
abbrev pub IsTapeError : Limits → List ℕ → JsonTapeError → Type 0
IsTapeError limits s TooLong = (t : Tree) × EncodesWithinIn true limits t s × IsTooLong t
IsTapeError limits s (Text e) = ReadsBytes true limits s (Err e) × SaysWhere true limits s e

-- True if the result is the tape of the tree, or an entry of the tree is too long, or an allocation
-- failed.
abbrev pub MakesTape : Tree → Result Tape JsonTapeError → Type 0
MakesTape t (Ok tape) = IsTapeOf t tape
MakesTape t (Err TooLong) = IsTooLong t
MakesTape t (Err (Text e)) = e.kind ≡ Memory
