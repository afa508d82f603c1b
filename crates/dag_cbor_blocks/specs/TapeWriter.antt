-- The tape that a writer builds from the events of a block, one by one.
use Rattle.std.specs.Prelude.{ℕ, ◌+◌, ◌-◌, ◌*◌, ◌/◌, ◌%◌, ◌^◌, ◌==◌, ◌≡◌, nat_lt, if◌then◌else◌, ℤ, pos, negsuc, Bool, true, false, List, [], ◌∷◌, ◌++◌, length, slice_get, slice_set, Option, Some, None, Result, Ok, Err}
use Rattle.std.specs.declared.alloc.AllocError.{AllocError}
use Rattle.ipld_tokens.specs.Token.{TokenModel, Atom, none, boolean, integer, text, atom, bytes, link, seq, seq_end, map, map_end}
use Rattle.dag_cbor_format.specs.Trace.{Event}
use Rattle.dag_cbor_blocks.specs.Tape.{entry}
use Rattle.dag_cbor_blocks.specs.declared.tape.TapeEntry.{TapeEntry}
use Rattle.dag_cbor_blocks.specs.declared.tape.OpenEntry.{OpenEntry}
use Rattle.dag_cbor_blocks.specs.declared.tape.TapeWriter.{TapeWriter}

-- A tape of a block of `size` bytes, with `left` bytes after those that were read last. The
-- innermost list or map is given by the index of its entry and by the number of its values. Its
-- entry keeps the same two numbers of the list or map outside of it.
pub record Tape : Type 0 where
  pub size : ℕ
  pub left : ℕ
  pub innermost : OpenEntry
  pub entries : List TapeEntry

-- a tape, a tape after the tag of a link, or a stop because an entry could not be written
pub data Reading : Type 0 where
  reading : Tape → Reading
  marked : Tape → Reading
  stopped : Reading

-- an open list or map, by the index of its entry and by the number of its values
abbrev pub container : ℕ → ℕ → OpenEntry
container at count = record { entry = at; count = count }

-- an open list or map, as it is kept in the entry of the list or map inside it, until that ends
abbrev pub kept : OpenEntry → TapeEntry
kept o = entry (o.count / 2 ^ 32) (o.count % 2 ^ 32) o.entry

-- the open list or map that such an entry keeps
abbrev pub outside : TapeEntry → OpenEntry
outside e = container e.value (e.kind * 2 ^ 32 + e.len)

-- the tape before a block of this many bytes
abbrev pub empty_tape : ℕ → Tape
empty_tape size = record { size = size; left = size; innermost = container 0 0; entries = [] }

-- the tape with one more entry, after which `left` bytes are left
abbrev pub written : TapeEntry → ℕ → Tape → Tape
written e left t = record { size = t.size; left = left; innermost = t.innermost; entries = t.entries ++ e ∷ [] }

-- the tape with one more value in the innermost list or map
abbrev pub counted : Tape → Tape
counted t = record { size = t.size; left = t.left; innermost = container t.innermost.entry (t.innermost.count + 1); entries = t.entries }

-- the tape after content of `len` bytes, or a stop if `len` has more than 32 bits
abbrev pub content_after : ℕ → ℕ → ℕ → Tape → Reading
content_after kind len left t = if nat_lt len (2 ^ 32) then reading (written (entry kind len (t.size - left - len)) left t) else stopped

-- the tape after a number, or a stop if it has more than 64 bits
abbrev pub number_after : ℕ → ℕ → ℕ → Tape → Reading
number_after kind n left t = if nat_lt n (2 ^ 64) then reading (written (entry kind 0 n) left (counted t)) else stopped

-- the tape after null, or after a float, which takes nine bytes
abbrev pub null_after : ℕ → Tape → Reading
null_after left t = reading (written (if t.left - left == 9 then entry 5 8 (t.size - left - 8) else entry 0 0 0) left (counted t))

-- the tape after an integer, from 0 on or below 0
abbrev pub integer_after : ℤ → ℕ → Tape → Reading
integer_after (pos n) left t = number_after 3 n left t
integer_after (negsuc n) left t = number_after 4 n left t

-- the tape after false or true
abbrev pub bool_after : Bool → ℕ → Tape → Reading
bool_after false left t = reading (written (entry 1 0 0) left (counted t))
bool_after true left t = reading (written (entry 2 0 0) left (counted t))

-- the tape after a key or another text string, of `len` bytes
abbrev pub text_after : Bool → ℕ → ℕ → Tape → Reading
text_after true len left t = content_after 11 len left t
text_after false len left t = content_after 6 len left (counted t)

-- the tape after a scalar
abbrev pub atom_after : Atom → ℕ → Bool → Tape → Reading
atom_after none left key t = null_after left t
atom_after (boolean b) left key t = bool_after b left t
atom_after (integer n) left key t = integer_after n left t
atom_after (text s) left key t = text_after key (length s) left t
atom_after _ left key t = stopped

-- the tape after the start of a list or a map, whose entry keeps the list or map outside of it
abbrev pub begun : ℕ → Tape → Tape
begun left t = record {
  size = t.size;
  left = left;
  innermost = container (length t.entries) 0;
  entries = t.entries ++ kept (container t.innermost.entry (t.innermost.count + 1)) ∷ [];
}

-- the tape after the end of the innermost list or map, which has this entry so far and spans `span`
-- entries
abbrev pub ended_as : ℕ → ℕ → ℕ → Tape → Option TapeEntry → Tape
ended_as kind span left t None = record { size = t.size; left = left; innermost = t.innermost; entries = t.entries }
ended_as kind span left t (Some e) = record {
  size = t.size;
  left = left;
  innermost = outside e;
  entries = slice_set t.entries t.innermost.entry (entry kind span t.innermost.count);
}

-- the tape after the end of the innermost list or map, or a stop if its span has more than 32 bits
abbrev pub ended : ℕ → ℕ → Tape → Reading
ended kind left t =
    if nat_lt (length t.entries - t.innermost.entry) (2 ^ 32)
    then reading (ended_as kind (length t.entries - t.innermost.entry) left t (slice_get t.entries t.innermost.entry)) else stopped

-- the tape after a token, which `left` bytes follow and which may be a key
abbrev pub token_after : TokenModel → ℕ → Bool → Tape → Reading
token_after (atom a) left key t = atom_after a left key t
token_after (bytes b) left key t = content_after 7 (length b) left (counted t)
token_after link left key t = marked t
token_after seq left key t = reading (begun left t)
token_after seq_end left key t = ended 9 left t
token_after map left key t = reading (begun left t)
token_after map_end left key t = ended 10 left t
token_after _ left key t = stopped

-- the tape after the bytes of a CID, which follow the tag of a link
abbrev pub marked_after : TokenModel → ℕ → Tape → Reading
marked_after (bytes b) left t = content_after 8 (length b) left (counted t)
marked_after _ left t = stopped

-- the tape after an event
abbrev pub event_after : Reading → Event → Reading
event_after (reading t) (token, left, key) = token_after token left key t
event_after (marked t) (token, left, key) = marked_after token left t
event_after stopped e = stopped

-- the tape after events, one after another
abbrev pub read_on : Reading → List Event → Reading
read_on r [] = r
read_on r (e ∷ es) = read_on (event_after r e) es

-- ---- the writer

-- the tape of a writer
abbrev pub tape_of : TapeWriter → Tape
tape_of w = record { size = w.size; left = w.left; innermost = w.innermost; entries = w.entries.items }

-- the tape of a writer, or a stop if an entry could not be written
abbrev pub reading_of : TapeWriter → Reading
reading_of w = if w.fits then reading (tape_of w) else stopped

-- the tape of a writer after these events
abbrev pub tape_with : TapeWriter → List Event → Reading
tape_with w events = read_on (reading_of w) events

-- the result of `f` for a tape, and a stop otherwise
abbrev pub from : Reading → (Tape → Reading) → Reading
from (reading t) f = f t
from (marked t) f = stopped
from stopped f = stopped

-- True if the writer has taken the step `f`, or if an allocation failed.
abbrev pub Writes : (Tape → Reading) → TapeWriter → Result (Unit {0}) AllocError → TapeWriter → Type 0
Writes f old (Ok done) new = reading_of new ≡ from (reading_of old) f
Writes f old (Err error) new = Unit {0}
