-- This file defines properties of the containers of a tree that is being built: the containers
-- around them, and the capacity that length hints reserved.
use Rattle.std.specs.Prelude.{◌≡◌, ◌++◌, ℕ, Bool, true, false, List, [], ◌∷◌, Result, Ok, Err}
use Rattle.ipld_tree.specs.declared.ipld.Ipld.{Ipld}
use Rattle.ipld_tokens.specs.declared.open_tree.BuildError.{BuildError}
use Rattle.ipld_tokens.specs.declared.open_tree.BuildError.TheVariants as error
use Rattle.ipld_tokens.specs.declared.open_tree.Container.{Container}
use Rattle.ipld_tokens.specs.declared.open_tree.Container.TheVariants as container

-- the number of values that a length hint reserved for the container (0 unless it is a list)
abbrev pub reserved_for : Container → ℕ
reserved_for container.Root = 0
reserved_for (container.List l) = l.reserved
reserved_for (container.Map m) = 0
reserved_for container.Closed = 0

-- True if the container is a list or a map.
abbrev pub IsOpen : Container → Type 0
IsOpen container.Root = ⊥
IsOpen (container.List l) = Unit {0}
IsOpen (container.Map m) = Unit {0}
IsOpen container.Closed = ⊥

-- Returns whether the container can be around another. Only the root cannot.
abbrev pub can_surround : Container → Bool
can_surround container.Root = false
can_surround (container.List l) = true
can_surround (container.Map m) = true
can_surround container.Closed = true

-- Returns false if the container is the root and there are containers around it. Otherwise returns
-- true.
abbrev pub root_is_alone : Container → List Container → Bool
root_is_alone container.Root [] = true
root_is_alone container.Root (c ∷ outer) = false
root_is_alone (container.List l) outer = true
root_is_alone (container.Map m) outer = true
root_is_alone container.Closed outer = true

-- True if the value was appended to `old`, or the error is a failed allocation.
abbrev pub Pushes : List Ipld → Ipld → Result (Unit {0}) BuildError → List Ipld → Type 0
Pushes old v (Ok u) new = new ≡ old ++ v ∷ []
Pushes old v (Err build_error) new = build_error ≡ error.Memory
