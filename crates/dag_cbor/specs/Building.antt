-- A tree that is being built, modelled by the machine that reads a tree from tokens.
use Rattle.std.specs.Prelude.{◌≡◌, List, Option, Result, Ok, Err, IsErr}
use Rattle.std.specs.declared.alloc.AllocError.{AllocError}
use Rattle.ipld_tree.specs.Tree.{Tree}
use Rattle.ipld_tokens.specs.Token.{TokenModel}
use Rattle.ipld_tokens.specs.ReadMachine as reading
use Rattle.ipld_tokens.specs.ReadMachine.{ReadState, rejected, never, run}
use Rattle.ipld_tokens.specs.OpenTree as building
pub use Rattle.ipld_tokens.specs.OpenTree.{tree_found}
use Rattle.ipld_tokens.specs.declared.open_tree.BuildError.{BuildError}
use Rattle.ipld_tokens.specs.declared.open_tree.BuildError.TheVariants.{Memory, Misplaced, DuplicateKey}
use Rattle.dag_cbor.specs.declared.tree.TreeBuilder.{TreeBuilder}

-- the open lists and maps, innermost first
abbrev pub levels_of : TreeBuilder → List reading.Container
levels_of b = building.levels_of b.tree

-- the state of the machine that models a builder
abbrev pub state_of : TreeBuilder → ReadState
state_of b = building.state_of b.tree

-- the tree that the tokens complete
abbrev pub tree_after : ReadState → List TokenModel → Option Tree
tree_after s ts = tree_found (run s ts)

-- the tree of a builder after these tokens
abbrev pub tree_answer : TreeBuilder → List TokenModel → Option Tree
tree_answer b ts = tree_after (state_of b) ts

-- the state without the reason why it was rejected
abbrev pub settled : ReadState → ReadState
settled (rejected failure) = rejected never
settled s = s

-- True if the new state is the expected one, whatever a rejection was for, or if an allocation
-- failed.
abbrev pub Reaches : ReadState → Result (Unit {0}) AllocError → ReadState → Type 0
Reaches expected (Ok u) new = settled expected ≡ settled new
Reaches expected (Err error) new = Unit {0}

-- True if the built state is kept after success and rejected after an invalid part. After a failed
-- allocation the result is an error.
abbrev pub Settles : ReadState → Result (Unit {0}) BuildError → Result (Unit {0}) AllocError → ReadState → Type 0
Settles old (Ok u) result new = (result ≡ Ok tt) × (new ≡ old)
Settles old (Err Memory) result new = IsErr result
Settles old (Err Misplaced) result new = (result ≡ Ok tt) × (new ≡ rejected never)
Settles old (Err DuplicateKey) result new = (result ≡ Ok tt) × (new ≡ rejected never)
