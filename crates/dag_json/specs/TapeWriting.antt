-- The entries and the data that are written for a tree from its end, before those of others. Only
-- private clauses cite it.
use Rattle.std.specs.Prelude.{◌≡◌, ℕ, ◌+◌, ◌-◌, true, false, List, [], ◌∷◌, ◌++◌, length, Option, Some, None, Result, Ok, Err}
use Rattle.std.specs.Int.{w64, to_be_bytes}
use Rattle.ipld_cid.specs.Bytes.{bytes_of}
use Rattle.ipld_tree.specs.Tree.{Tree, null, boolean, integer, text, bytes, list, entries, link, Items, no_items, item, Members, no_members, member}
use Rattle.dag_cbor_blocks.specs.Tape.{entry, all_short}
use Rattle.dag_cbor_blocks.specs.declared.tape.TapeEntry.{TapeEntry}
use Rattle.dag_json.specs.Floats.{number_as}
use Rattle.dag_json.specs.declared.floats.Number.{Number}
use Rattle.dag_json.specs.declared.floats.Number.TheVariants.{Unsigned, Negative, Float}
use Rattle.dag_json.specs.Tape.{item_count, member_count}
use Rattle.dag_json.specs.TapeReading.{IsTapeOf, IsTooLong}
use Rattle.dag_json.specs.declared.tape.Tape.{Tape}
use Rattle.dag_json.specs.declared.tape.write.WriteError.{WriteError}
use Rattle.dag_json.specs.declared.tape.write.WriteError.TheVariants.{Memory, TooLong}

-- entries, and the data to which they refer
pub record Written : Type 0 where
  pub entries : List TapeEntry
  pub contents : List ℕ

abbrev pub tape_view : Tape → Written
tape_view t = record { entries = t.entries.items; contents = t.contents.items }

abbrev pub nothing : Written
nothing = record { entries = []; contents = [] }

-- the output with an entry before the others
abbrev pub front : TapeEntry → Written → Written
front e w = record { entries = e ∷ w.entries; contents = w.contents }

-- the output with an entry before the others, whose content comes after theirs
abbrev pub with_content : ℕ → List ℕ → Written → Written
with_content kind content w = record { entries = entry kind (length content) (length w.contents) ∷ w.entries; contents = w.contents ++ content }

-- the output with the entry of a key before its value, if there is a key
abbrev pub keyed : Option (List ℕ) → Written → Written
keyed None w = w
keyed (Some k) w = with_content 11 k w

-- the output with the entry of a list or a map before the others; the third number is that of the
-- entries after the list or map
abbrev pub closed : ℕ → ℕ → ℕ → Written → Written
closed kind count behind w = front (entry kind (length w.entries - behind + 1) count) w

abbrev pub number_written : Option Number → Written → Written
number_written None w = w
number_written (Some (Unsigned n)) w = front (entry 3 0 n) w
number_written (Some (Negative n)) w = front (entry 4 0 n) w
number_written (Some (Float bits)) w = with_content 5 (to_be_bytes w64 bits) w

abbrev mutual
  pub written : Tree → Written → Written
  written null w = front (entry 0 0 0) w
  written (boolean false) w = front (entry 1 0 0) w
  written (boolean true) w = front (entry 2 0 0) w
  written (integer n) w = number_written (number_as n) w
  written (text s) w = with_content 6 s w
  written (bytes b) w = with_content 7 b w
  written (list ts) w = closed 9 (item_count ts) (length w.entries) (items_written ts w)
  written (entries ms) w = closed 10 (member_count ms) (length w.entries) (members_written ms w)
  written (link l) w = with_content 8 (bytes_of l) w

  -- the output after the items are written, the last item first
  pub items_written : Items → Written → Written
  items_written no_items w = w
  items_written (item t ts) w = written t (items_written ts w)

  pub members_written : Members → Written → Written
  members_written no_members w = w
  members_written (member k t ms) w = keyed (Some k) (written t (members_written ms w))

-- True if the output is the expected one, or an expected entry is too long, or an allocation failed.
abbrev pub Writes : Written → Result (Unit {0}) WriteError → Written → Type 0
Writes expected (Ok u) w = w ≡ expected
Writes expected (Err Memory) w = Unit {0}
Writes expected (Err TooLong) w = all_short expected.entries ≡ false

-- True if the tape is that of the tree, or an entry of the tree is too long, or an allocation
-- failed.
abbrev pub WritesTape : Tree → Result Tape WriteError → Type 0
WritesTape t (Ok tape) = IsTapeOf t tape
WritesTape t (Err Memory) = Unit {0}
WritesTape t (Err TooLong) = IsTooLong t
