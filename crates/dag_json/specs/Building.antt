-- The state of the machine for a tree that is being read.
use Rattle.std.specs.Prelude.{◌≡◌, ◌⊎◌, ◌+◌, ℕ, nat_lt, true, List, ◌∷◌, Result, Ok, Err}
use Rattle.ipld_tree.specs.Tree.{Tree}
use Rattle.ipld_tree.specs.declared.limits.Limits.{Limits}
use Rattle.ipld_tokens.specs.ReadMachine as reading
use Rattle.ipld_tokens.specs.OpenTree as building
use Rattle.ipld_tokens.specs.declared.open_tree.BuildError.{BuildError}
use Rattle.ipld_tokens.specs.declared.open_tree.BuildError.TheVariants as build
use Rattle.dag_json.specs.Offset.{Stands}
use Rattle.dag_json.specs.ReadMachine.{Level, State, going, done, failed, value_step, begin_step, end_list_step, end_map_step, key_step}
use Rattle.dag_json.specs.declared.read_error.ReadErrorKind.{ReadErrorKind}
use Rattle.dag_json.specs.declared.read_error.ReadErrorKind.TheVariants.{Memory, Syntax, DuplicateKey}
use Rattle.dag_json.specs.declared.tree.TreeBuilder.{TreeBuilder}

-- the open lists and maps, the innermost first
abbrev pub levels_of : TreeBuilder → List Level
levels_of b = building.levels_of b.tree

-- the state of a tree that is being built, with `d` open levels and `n` values that have begun
abbrev pub counted : ℕ → ℕ → reading.ReadState → State
counted d n (reading.open_at ls) = going ls d n
counted d n (reading.wanted ls) = failed Syntax
counted d n (reading.marked ls) = failed Syntax
counted d n (reading.done t) = done t
counted d n (reading.rejected reading.bad_token) = failed Syntax
counted d n (reading.rejected (reading.bad_cid cid_error)) = failed Syntax
counted d n (reading.rejected reading.repeated_key) = failed DuplicateKey
counted d n (reading.rejected reading.never) = failed Syntax

-- the state of the machine that a builder represents
abbrev pub state_of : TreeBuilder → State
state_of b = counted b.depth b.values (building.state_of b.tree)

-- the error of reading for an error of building
abbrev pub kind_of : BuildError → ReadErrorKind
kind_of build.Memory = Memory
kind_of build.Misplaced = Syntax
kind_of build.DuplicateKey = DuplicateKey

-- the result of building, with its error as an error of reading
abbrev pub as_read : Result (Unit {0}) BuildError → Result (Unit {0}) ReadErrorKind
as_read (Ok u) = Ok u
as_read (Err e) = Err (kind_of e)

-- True if the call leads to the expected state, which is not an error, or fails with the expected
-- error, or an allocation failed.
abbrev pub Reaches : State → Result (Unit {0}) ReadErrorKind → State → Type 0
Reaches expected (Ok u) new = (expected ≡ new) × Stands new
Reaches expected (Err e) new = (e ≡ Memory) ⊎ (expected ≡ failed e)

-- the state after a value that is not a list or a map, or after the error of its token
abbrev pub added : Limits → State → Result Tree ReadErrorKind → State
added limits (going ls d n) r = value_step limits r ls d n
added limits (done v) r = failed Syntax
added limits (failed e) r = failed e

-- the state after the beginning of a list or a map
abbrev pub begun : Limits → State → Level → State
begun limits (going ls d n) l = begin_step limits l ls d n
begun limits (done v) l = failed Syntax
begun limits (failed e) l = failed e

-- the state after a key
abbrev pub key_at : State → List ℕ → State
key_at (going ls d n) k = key_step k ls d n
key_at (done v) k = failed Syntax
key_at (failed e) k = failed e

-- the state after the end of a list, and after the end of a map (`object_ended`)
abbrev pub list_ended : State → State
list_ended (going ls d n) = end_list_step ls d n
list_ended (done v) = failed Syntax
list_ended (failed e) = failed e

abbrev pub object_ended : State → State
object_ended (going ls d n) = end_map_step ls d n
object_ended (done v) = failed Syntax
object_ended (failed e) = failed e

-- True if one more value was counted, within the limit, and the depth and the tree are unchanged.
pub record Counted (limits : Limits) (old new : TreeBuilder) : Type 0 where
  pub within : nat_lt old.values limits.values ≡ true
  pub values : new.values ≡ old.values + 1
  pub depth : new.depth ≡ old.depth
  pub tree : new.tree ≡ old.tree

-- True if a list or a map may begin and was counted, or if its beginning fails with this error.
abbrev pub MayBegin : Limits → TreeBuilder → Result (Unit {0}) ReadErrorKind → TreeBuilder → Type 0
MayBegin limits old (Ok u) new = (new.tree ≡ old.tree) × ((l : Level) → begun limits (state_of old) l ≡ going (l ∷ levels_of old) new.depth new.values)
MayBegin limits old (Err e) new = (l : Level) → begun limits (state_of old) l ≡ failed e
