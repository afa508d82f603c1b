-- Failures of composite values: the failure of the first part that isn't read, in the order in
-- which the parts are read.
use Rattle.std.specs.Prelude.{◌≡◌, ◌⊎◌, ℕ, suc, Option, Some, None, IsSome}
use Rattle.ipld_tree.specs.Tree.{Tree, null, Items, no_items, item, Members, no_members, member}
use Rattle.ipld_tree.specs.Convert.{list_in, entries_in}
use Rattle.ipld_de.specs.Reading.{OtherKind}
use Rattle.ipld_explain.specs.Path.{key, index}
use Rattle.ipld_explain.specs.Failures.{Failure, Inside, FailsHere}
use Rattle.ipld_explain.specs.declared.explanation.Expected.{Expected}
use Rattle.ipld_explain.specs.declared.explanation.Expected.TheVariants.{List, Map}

-- True if `f` is the failure of the content of an option. Null is read, so it doesn't fail.
abbrev pub OptionFails : (Tree → Failure → Type 0) → Tree → Failure → Type 0
OptionFails fails null f = ⊥
OptionFails fails t f = fails t f

-- True if the tree is of another kind than `expected`, or its content fails.
abbrev pub KindFails : {C : Type 0} → Expected → (Tree → Option C) → (C → Failure → Type 0) → Tree → Failure → Type 0
KindFails {C} expected content fails t f = ((content t ≡ None) × FailsHere expected (OtherKind t) f) ⊎ ((c : C) × (content t ≡ Some c) × fails c f)

-- True if `f` is the failure of the first item that isn't read. The first of these items has the
-- index `n`.
abbrev pub ItemsFail : {C : Type 0} → (Tree → Option C) → (Tree → Failure → Type 0) → ℕ → Items → Failure → Type 0
ItemsFail reads fails n no_items f = ⊥
ItemsFail reads fails n (item t ts) f = Inside (index n) (fails t) f ⊎ (IsSome (reads t) × ItemsFail reads fails (suc n) ts f)

-- True if `f` is the failure of a tree that is read as a list of elements.
abbrev pub ListFails : {C : Type 0} → (Tree → Option C) → (Tree → Failure → Type 0) → Tree → Failure → Type 0
ListFails reads fails t f = KindFails List list_in (ItemsFail reads fails 0) t f

-- True if `f` is the failure of the first value that isn't read, in the order of the entries.
abbrev pub EntriesFail : {C : Type 0} → (Tree → Option C) → (Tree → Failure → Type 0) → Members → Failure → Type 0
EntriesFail reads fails no_members f = ⊥
EntriesFail reads fails (member k t ms) f = Inside (key k) (fails t) f ⊎ (IsSome (reads t) × EntriesFail reads fails ms f)

-- True if `f` is the failure of a tree that is read as a map of values.
abbrev pub MapFails : {C : Type 0} → (Tree → Option C) → (Tree → Failure → Type 0) → Tree → Failure → Type 0
MapFails reads fails t f = KindFails Map entries_in (EntriesFail reads fails) t f
