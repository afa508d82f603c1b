-- The values that the encoder has left to write.
use Rattle.std.specs.Prelude.{◌≡◌, ℕ, suc, ◌+◌, ◌<◌, ◌&&◌, Bool, true, false, List, [], ◌∷◌, ◌++◌, map, length, Option, Some, None}
use Rattle.std.specs.Borrow.{Bor}
use Rattle.std.specs.Slice.Iter.{iter_rest}
use Rattle.std.specs.Vec.Iter.{into_iter_items}
use Rattle.ipld_tree.specs.Tree.{Tree, null, boolean, integer, text, bytes, list, entries, link, Items, no_items, item, Members, no_members, member}
use Rattle.ipld_tree.specs.TreeOf.{tree_of}
use Rattle.ipld_tree.specs.declared.ipld.Ipld.{Ipld}
use Rattle.dag_cbor_format.specs.Canonical.{written_text, canonical, joined}
use Rattle.dag_cbor_format.specs.Range.{in_range}
use Rattle.dag_cbor_format.specs.Writing.{Adds}
use Rattle.dag_cbor.specs.Writing.{Keyed, after_key, lent}
use Rattle.dag_cbor.specs.declared.encode.EncodeCursor.{EncodeCursor}
use Rattle.dag_cbor.specs.declared.encode.EncodeCursor.TheVariants.{Items as ItemsLeft, Entries, Sorted}

-- a value, and the bytes that are written before it: the key of an entry, or no bytes for an item
abbrev pub Pending : Type 0
Pending = Option (List ℕ) × Ipld

abbrev pub of_item : Ipld → Pending
of_item x = (Some [], x)

abbrev pub of_entry : Keyed → Pending
of_entry e = (written_text e.0, e.1)

abbrev pub left_of : EncodeCursor → List Pending
left_of (ItemsLeft xs) = map of_item (iter_rest xs)
left_of (Entries es) = map of_entry (after_key es)
left_of (Sorted es) = map of_entry (lent (into_iter_items es))

-- the values that the cursors have left, if the last cursor is the innermost
abbrev pub pending : List EncodeCursor → List Pending
pending [] = []
pending (c ∷ cs) = pending cs ++ left_of c

-- the values that are left if a cursor is open inside others
abbrev pub all_left : EncodeCursor → List EncodeCursor → List Pending
all_left innermost outer = left_of innermost ++ pending outer

-- the bytes that are written for these values
abbrev pub written : List Pending → Option (List ℕ)
written [] = Some []
written (p ∷ ps) = joined (joined p.0 (canonical (tree_of p.1))) (written ps)

-- whether every integer in these values is in range
abbrev pub within : List Pending → Bool
within [] = true
within (p ∷ ps) = in_range (tree_of p.1) && within ps

-- the number of iterations of the encoder's loop for a tree: one for every value, and one for the
-- end of every list and map
abbrev mutual
  pub load : Tree → ℕ
  load null = 1
  load (boolean b) = 1
  load (integer n) = 1
  load (text s) = 1
  load (bytes b) = 1
  load (list ts) = suc (suc (items_load ts))
  load (entries ms) = suc (suc (members_load ms))
  load (link l) = 1

  pub items_load : Items → ℕ
  items_load no_items = 0
  items_load (item t ts) = load t + items_load ts

  pub members_load : Members → ℕ
  members_load no_members = 0
  members_load (member k t ms) = load t + members_load ms

abbrev pub load_of : List Pending → ℕ
load_of [] = 0
load_of (p ∷ ps) = load (tree_of p.1) + load_of ps

-- True if the beginning of a tree was written, and the cursors have the rest of it.
pub record Begins (t : Tree) (start : List ℕ) (cursors : List EncodeCursor) (end : List ℕ) : Type 0 where
  pub bytes : List ℕ
  pub appended : end ≡ start ++ bytes
  pub same : canonical t ≡ joined (Some bytes) (written (pending cursors))
  pub range : in_range t ≡ within (pending cursors)
  pub shrinks : load t ≡ suc (load_of (pending cursors) + length cursors)

-- True if the beginning of a tree was written, and the cursors that have the rest of it were put
-- inside the others.
pub record Opens (t : Tree) (innermost : EncodeCursor) (outer : List EncodeCursor) (start : List ℕ) (innermost' : EncodeCursor) (outer' : List EncodeCursor) (end : List ℕ) : Type 0 where
  pub cursors : List EncodeCursor
  pub inside : outer' ++ innermost' ∷ [] ≡ (outer ++ innermost ∷ []) ++ cursors
  pub begins : Begins t start cursors end

-- True if a beginning of the values that were left was written, and the values in `after` are left.
pub record Goes (before : List Pending) (start : List ℕ) (after : List Pending) (end : List ℕ) : Type 0 where
  pub bytes : List ℕ
  pub appended : end ≡ start ++ bytes
  pub same : written before ≡ joined (Some bytes) (written after)
  pub range : within before ≡ within after

-- True if the next value is returned and the bytes before it were written, or if nothing was left.
abbrev pub Advances : List Pending → List ℕ → Option (Bor Ipld) → List Pending → List ℕ → Type 0
Advances before start None after end = (before ≡ []) × (end ≡ start)
Advances before start (Some x) after end = (o : Option (List ℕ)) × (before ≡ (o, x.now) ∷ after) × Adds o start end

-- True if an iteration of the encoder's loop moved on, or found nothing left and wrote nothing.
abbrev pub StepOf : Bool → EncodeCursor → List EncodeCursor → List ℕ → EncodeCursor → List EncodeCursor → List ℕ → Type 0
StepOf false innermost outer start innermost' outer' end = (all_left innermost outer ≡ []) × (end ≡ start)
StepOf true innermost outer start innermost' outer' end =
    Goes (all_left innermost outer) start (all_left innermost' outer') end
    × (load_of (all_left innermost' outer') + length outer' < load_of (all_left innermost outer) + length outer)
