-- Failures of tuples, which are read from lists of the same length.
use Rattle.std.specs.Prelude.{◌≡◌, ◌⊎◌, ◌+◌, ℕ, suc, List, [], ◌∷◌, length, Bool, true, is_some, Option, Some, None, IsSome, IsSomeAnd}
use Rattle.ipld_tree.specs.Tree.{Tree, list, Items, no_items, item}
use Rattle.ipld_tree.specs.Convert.{list_in}
use Rattle.ipld_tree.specs.Index.{item_at}
use Rattle.ipld_tree.specs.Kind.{kind_of}
use Rattle.ipld_ser.specs.declared.error.SerdeError.{SerdeError}
use Rattle.ipld_ser.specs.declared.error.SerdeError.TheVariants.{WrongLength, Leftover}
use Rattle.ipld_de.specs.Forms.{count_items}
use Rattle.ipld_explain.specs.Path.{Step, index, at_path}
use Rattle.ipld_explain.specs.Failures.{Failure, length as other_length, Inside}
use Rattle.ipld_explain.specs.Composites.{KindFails}
use Rattle.ipld_explain.specs.declared.explanation.Expected.TheVariants.{List as AList}

-- a part of a tuple: whether its type reads a tree, and its failures
pub record Part : Type 1 where
  pub accepts : Tree → Bool
  pub fails : Tree → Failure → Type 0

-- a part of a type with this reading and these failures
abbrev pub part : {C : Type 0} → (Tree → Option C) → (Tree → Failure → Type 0) → Part
part reads fails = record { accepts = λ t. is_some (reads t); fails = fails }

-- True if `f` is the failure of the list itself, with `expected` items expected and `found` items
-- found.
abbrev pub LengthFails : ℕ → ℕ → SerdeError → Failure → Type 0
LengthFails expected found error f = (f.path ≡ []) × (f.expected ≡ AList) × (f.error ≡ error) × (f.wrong ≡ other_length expected found)

-- True if `f` is the failure of the first item that its part doesn't read. The first of these items
-- has the index `n`. If the parts read their items, it is the failure that the list is shorter or
-- longer than the parts.
abbrev pub PartsFail : ℕ → ℕ → List {1} Part → ℕ → Items → Failure → Type 0
PartsFail expected found [] n no_items f = ⊥
PartsFail expected found [] n (item t ts) f = LengthFails expected found (Leftover (count_items (item t ts))) f
PartsFail expected found (p ∷ ps) n no_items f = LengthFails expected found WrongLength f
PartsFail expected found (p ∷ ps) n (item t ts) f = Inside (index n) (p.fails t) f ⊎ ((p.accepts t ≡ true) × PartsFail expected found ps (suc n) ts f)

-- True if `f` is the failure of a tree that is read as a tuple of these parts.
abbrev pub TupleFails : List {1} Part → Tree → Failure → Type 0
TupleFails parts t f = KindFails AList list_in (λ ts. PartsFail (length parts) (count_items ts) parts 0 ts) t f

-- True if the path of the failure leads from a list to a value of the kind that was found. `ts` has
-- the items of the list from the index `n` on. An empty path leads to the list itself.
abbrev pub LeadsFrom : ℕ → Items → Failure → Type 0
LeadsFrom n ts f =
    ((f.path ≡ []) × (f.found ≡ kind_of (list no_items)))
    ⊎ ((j : ℕ) × (t : Tree) × (path : List Step) × (item_at j ts ≡ Some t) × (f.path ≡ index (n + j) ∷ path) × IsSomeAnd (at_path path t) (λ v. kind_of v ≡ f.found))

-- True if the result is nothing and the parts read the items from the index `n` on, or it is the
-- failure of these items.
abbrev pub ExplainsParts : {C : Type 0} → (Items → Option C) → List {1} Part → ℕ → ℕ → ℕ → Items → Option Failure → Type 0
ExplainsParts reads parts expected found n ts None = IsSome (reads ts)
ExplainsParts reads parts expected found n ts (Some f) = (reads ts ≡ None) × LeadsFrom n ts f × PartsFail expected found parts n ts f
