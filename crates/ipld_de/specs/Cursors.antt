-- The contents of the cursors, and the readings of their steps.
use Rattle.std.specs.Prelude.{◌≡◌, ℕ, zero, suc, Option, Some, None, option_map, Result, Ok, Err, string_bytes}
use Rattle.std.specs.Vec.Iter.{into_iter_items}
use Rattle.ipld_tree.specs.Tree.{Tree, text, Items, no_items, item, Members, no_members, member}
use Rattle.ipld_tree.specs.TreeOf.{tree_of, items_of, members_of}
use Rattle.ipld_ser.specs.declared.error.SerdeError.{SerdeError}
use Rattle.ipld_ser.specs.declared.error.SerdeError.TheVariants.{WrongLength, Leftover}
use Rattle.ipld_de.specs.Forms.{Variant}
use Rattle.ipld_de.specs.declared.sequence.SeqDeserializer.{SeqDeserializer}
use Rattle.ipld_de.specs.declared.map.MapDeserializer.{MapDeserializer}
use Rattle.ipld_de.specs.declared.variants.EnumDeserializer.{EnumDeserializer}
use Rattle.ipld_de.specs.declared.variants.VariantDeserializer.{VariantDeserializer}

-- The result at the end of a cursor: success if nothing is left, and otherwise `Leftover` with the
-- number that is left.
abbrev pub ended : ℕ → Result (Unit {0}) SerdeError
ended zero = Ok tt
ended (suc n) = Err (Leftover (suc n))

-- ---- lists

-- The items that a cursor has left, in order.
abbrev pub left : SeqDeserializer → Items
left c = items_of (into_iter_items c.items)

-- The result of the next item: its reading, or `None` at the end.
abbrev pub read_next : {C : Type 0} → (Tree → Option C) → Items → Option (Option C)
read_next reads no_items = Some None
read_next reads (item t ts) = option_map Some (reads t)

-- True if `e` is the error of the next item, or `WrongLength` at the end.
abbrev pub FirstError : (Tree → SerdeError → Type 0) → Items → SerdeError → Type 0
FirstError error no_items e = e ≡ WrongLength
FirstError error (item t ts) e = error t e

-- the reading of the next item, or nothing at the end
abbrev pub read_first : {C : Type 0} → (Tree → Option C) → Items → Option C
read_first reads no_items = None
read_first reads (item t ts) = reads t

-- True if there is a next item and `e` is its error.
abbrev pub NextError : (Tree → SerdeError → Type 0) → Items → SerdeError → Type 0
NextError error no_items e = ⊥
NextError error (item t ts) e = error t e

-- the items after the first
abbrev pub after_item : Items → Items
after_item no_items = no_items
after_item (item t ts) = ts

-- ---- maps

-- The entries whose key was not taken yet, in the order of the keys.
abbrev pub entries_left : MapDeserializer → Members
entries_left c = members_of c.entries

-- The value that is read next, after its key was taken, if there is one.
abbrev pub waiting : MapDeserializer → Option Tree
waiting c = option_map tree_of c.value

-- The result of the next key: the reading of it in a String, or `None` at the end.
abbrev pub read_key : {C : Type 0} → (Tree → Option C) → Members → Option (Option C)
read_key reads no_members = Some None
read_key reads (member k t ms) = option_map Some (reads (text k))

-- True if there is a next key and `e` is the error of the String that it is.
abbrev pub KeyError : (Tree → SerdeError → Type 0) → Members → SerdeError → Type 0
KeyError error no_members e = ⊥
KeyError error (member k t ms) e = error (text k) e

-- the entries after the first
abbrev pub after_member : Members → Members
after_member no_members = no_members
after_member (member k t ms) = ms

-- the value to be read after the next key was taken: at the end, the one from before
abbrev pub waiting_after : Members → Option Tree → Option Tree
waiting_after no_members before = before
waiting_after (member k t ms) before = Some t

-- ---- enums

-- the variant's name, and its content if it has one
abbrev pub variant_of : EnumDeserializer → Variant
variant_of c = (string_bytes c.variant, option_map tree_of c.content)

-- the variant's content, if it has one
abbrev pub content_of : VariantDeserializer → Option Tree
content_of c = option_map tree_of c.content
