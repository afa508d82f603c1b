-- This file defines the state of a tree that is being built, in terms of the machine that reads a
-- tree.
use Rattle.std.specs.Prelude.{◌≡◌, ℕ, Bool, true, false, List, [], ◌∷◌, Option, Some, None, String, string_bytes, Result, MatchResult}
use Rattle.std.specs.Global.{Global}
use Rattle.ipld_tree.specs.Tree.{Tree, Members, no_members}
use Rattle.ipld_tree.specs.TreeOf.{tree_of, items_of, members_of}
use Rattle.ipld_tree.specs.declared.ipld.Ipld.{Ipld}
use Rattle.ipld_tokens.specs.ItemTree.{has_key}
use Rattle.ipld_tokens.specs.ReadMachine as reading
use Rattle.ipld_tokens.specs.ReadMachine.{ReadState, open_at, done, rejected, bad_token, repeated_key, never, in_list, in_key, in_value, completed, key_kept, is_at_key, is_in_list, PutsInto}
use Rattle.ipld_tokens.specs.declared.open_tree.BuildError.{BuildError}
use Rattle.ipld_tokens.specs.declared.open_tree.BuildError.TheVariants as error
use Rattle.ipld_tokens.specs.declared.open_tree.OpenMap.{OpenMap}
use Rattle.ipld_tokens.specs.declared.open_tree.Container.{Container}
use Rattle.ipld_tokens.specs.declared.open_tree.Container.TheVariants as container
use Rattle.ipld_tokens.specs.declared.open_tree.OpenTree.{OpenTree}

-- the level of an open map: before a key or its end, or after a key if there is one
abbrev pub map_level : Members → Option (String Global) → reading.Container
map_level ms None = in_key ms
map_level ms (Some key) = in_value ms (string_bytes key)

-- the level of an open map
abbrev pub level_of : OpenMap → reading.Container
level_of m = map_level (members_of m.members.entries) m.key

-- the levels from a container outwards, innermost first, if `ls` are those around it. The root has
-- no levels. `Closed` does not take a value, so its level is that of an empty map before a key.
abbrev pub around : Container → List reading.Container → List reading.Container
around container.Root ls = []
around (container.List l) ls = in_list (items_of l.items.items) ∷ ls
around (container.Map m) ls = level_of m ∷ ls
around container.Closed ls = in_key no_members ∷ ls

-- the levels of containers (the outermost first) inside the levels `ls`, innermost first
abbrev pub inside : List Container → List reading.Container → List reading.Container
inside [] ls = ls
inside (c ∷ cs) ls = inside cs (around c ls)

-- the levels of a tree that is being built, innermost first. A closed tree has the level of
-- `Closed`.
abbrev pub levels_of : OpenTree → List reading.Container
levels_of b = around b.innermost (inside b.outer.items [])

-- the state if nothing is open: complete if there is a tree, otherwise `never`
abbrev pub ended : Option Ipld → ReadState
ended None = rejected never
ended (Some v) = done (tree_of v)

-- the state in a container with the levels `ls` around it, or after the tree if it is `Closed`
abbrev pub state_from : Container → Option Ipld → List reading.Container → ReadState
state_from container.Root tree ls = open_at []
state_from (container.List l) tree ls = open_at (in_list (items_of l.items.items) ∷ ls)
state_from (container.Map m) tree ls = open_at (level_of m ∷ ls)
state_from container.Closed tree ls = ended tree

-- the state of the machine for a tree that is being built
abbrev pub state_of : OpenTree → ReadState
state_of b = state_from b.innermost b.tree (inside b.outer.items [])

-- Returns whether the state is neither complete nor rejected.
abbrev pub is_open : ReadState → Bool
is_open (done t) = false
is_open (rejected f) = false
is_open s = true

-- Returns whether a key or the end of a map can come next.
abbrev pub at_key : ReadState → Bool
at_key (open_at ls) = is_at_key ls
at_key s = false

-- Returns whether the innermost container of the state is a list.
abbrev pub in_a_list : ReadState → Bool
in_a_list (open_at ls) = is_in_list ls
in_a_list s = false

-- Returns whether the innermost container is a map that has the key with its value.
abbrev pub has_key_in : List ℕ → List reading.Container → Bool
has_key_in k [] = false
has_key_in k (in_list ts ∷ ls) = false
has_key_in k (in_key ms ∷ ls) = has_key k ms
has_key_in k (in_value ms key ∷ ls) = has_key k ms

-- Returns whether the innermost container of the state is a map that has the key with its value.
abbrev pub has_open_key : List ℕ → ReadState → Bool
has_open_key k (open_at ls) = has_key_in k ls
has_open_key k s = false

-- the state after a key, which is rejected unless a key can come
abbrev pub key_at : List ℕ → ReadState → ReadState
key_at k (open_at ls) = key_kept k ls
key_at k s = rejected bad_token

-- the tree of a state, if it is complete
abbrev pub tree_found : ReadState → Option Tree
tree_found (done t) = Some t
tree_found s = None

-- True if the error is that of the expected state, or is `Memory` and `out_of_memory` holds.
abbrev pub Fails : Type 0 → ReadState → BuildError → Type 0
Fails out_of_memory expected error.Memory = out_of_memory
Fails out_of_memory expected error.Misplaced = expected ≡ rejected bad_token
Fails out_of_memory expected error.DuplicateKey = expected ≡ rejected repeated_key

-- True if a successful call leads to the expected state, and a failed one returns the error of the
-- expected state, or `Memory` if `out_of_memory` holds.
abbrev pub Builds : {A : Type 0} → Type 0 → ReadState → ReadState → Result A BuildError → Type 0
Builds out_of_memory expected after result = MatchResult result (λ _. after ≡ expected) (Fails out_of_memory expected)

-- True if the container `before` becomes `after` by taking the tree `t`, or the error is that of
-- taking it. `Memory` is possible only if the container takes a value.
abbrev pub Grows : {A : Type 0} → reading.Container → Tree → reading.Container → Result A BuildError → Type 0
Grows before t after result = (ls : List reading.Container) → Builds (PutsInto before) (completed t (before ∷ ls)) (open_at (after ∷ ls)) result
