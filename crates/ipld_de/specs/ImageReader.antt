-- The trees that a reader of images reads from the front of bytes. It builds no tree.
use Rattle.std.specs.Prelude.{◌≡◌, ℕ, suc, Bool, true, List, [], ◌∷◌, length, map, Option, Some, None, codes}
use Rattle.ipld_tree.specs.Index.{value_at}
use Rattle.ipld_tree.specs.Tree.{Tree, list, entries, Items, Members, no_members, member}
use Rattle.ipld_tree.specs.TreeOf.{as_items}
use Rattle.ipld_ser.specs.ImageWriter.{comes_first}
use Rattle.ipld_ser.specs.declared.error.SerdeError.{SerdeError}
use Rattle.ipld_ser.specs.declared.error.SerdeError.TheVariants as error
use Rattle.ipld_de.specs.Composites.{read_all}
use Rattle.ipld_de.specs.Reading.{IsCustom}
use Rattle.ipld_de.specs.declared.image_reader.Unread.{Unread}
use Rattle.ipld_de.specs.declared.image_reader.Unread.TheVariants.{Memory, Rejected, MissingField}

-- the `Unread` of an error: `Memory` for a failed allocation, and `Rejected` for any other error
abbrev pub unread_of : SerdeError → Unread
unread_of error.Memory = Memory
unread_of e = Rejected

-- True if `bytes` begin with a tree that is read as `c`, followed by `rest`.
abbrev pub BeginsRead : {C : Type 0} → (Tree → List ℕ → List ℕ → Type 0) → (Tree → Option C) → C → List ℕ → List ℕ → Type 0
BeginsRead begins reads c bytes rest = (t : Tree) × begins t bytes rest × (reads t ≡ Some c)

-- The `Unread` of a whole with an unread part. A missing name in the part rejects the whole, since
-- the bytes after the part were not read.
abbrev pub unread_whole : Unread → Unread
unread_whole MissingField = Rejected
unread_whole unread = unread

-- True if `bytes` begin with a tree that is not read, followed by `rest`, and "missing field" is an
-- error of that tree.
abbrev pub BeginsMissing : {C : Type 0} → (Tree → List ℕ → List ℕ → Type 0) → (Tree → Option C) → (Tree → SerdeError → Type 0) → List ℕ → List ℕ → Type 0
BeginsMissing begins reads error bytes rest =
    (t : Tree) × begins t bytes rest × (reads t ≡ None) × ((e : SerdeError) → IsCustom (codes "missing field") e → error t e)

-- True if `bytes` begin with these trees, one after another, followed by `rest`.
abbrev pub BeginAll : (Tree → List ℕ → List ℕ → Type 0) → List Tree → List ℕ → List ℕ → Type 0
BeginAll begins [] bytes rest = bytes ≡ rest
BeginAll begins (t ∷ ts) bytes rest = (after : List ℕ) × begins t bytes after × BeginAll begins ts after rest

-- True if `bytes` begin with `count` trees, one after another, followed by `rest`, and they are
-- read as the contents of `vs`.
abbrev pub BeginAllRead : {T C : Type 0} → (Tree → List ℕ → List ℕ → Type 0) → (Tree → Option C) → (T → C) → ℕ → List T → List ℕ → List ℕ → Type 0
BeginAllRead begins reads contents count vs bytes rest =
    (ts : List Tree) × (length ts ≡ count) × BeginAll begins ts bytes rest × (read_all reads (as_items ts) ≡ Some (map contents vs))

-- True if `bytes` begin with `count` trees, one after another, followed by `rest`, and together
-- they are read as `c`.
abbrev pub BeginPartsRead : {C : Type 0} → (Tree → List ℕ → List ℕ → Type 0) → (Items → Option C) → ℕ → C → List ℕ → List ℕ → Type 0
BeginPartsRead begins reads count c bytes rest = (ts : List Tree) × (length ts ≡ count) × BeginAll begins ts bytes rest × (reads (as_items ts) ≡ Some c)

-- True if `bytes` begin with the entry `e`, its key and then its value, followed by `rest`.
abbrev pub BeginsEntry : (List ℕ → List ℕ → List ℕ → Type 0) → (Tree → List ℕ → List ℕ → Type 0) → List ℕ × Tree → List ℕ → List ℕ → Type 0
BeginsEntry begins_key begins e bytes rest = (behind : List ℕ) × begins_key e.0 bytes behind × begins e.1 behind rest

-- True if `bytes` begin with these entries, one after another, followed by `rest`.
abbrev pub BeginEntries : (List ℕ → List ℕ → List ℕ → Type 0) → (Tree → List ℕ → List ℕ → Type 0) → List (List ℕ × Tree) → List ℕ → List ℕ → Type 0
BeginEntries begins_key begins [] bytes rest = bytes ≡ rest
BeginEntries begins_key begins (e ∷ es) bytes rest = (after : List ℕ) × BeginsEntry begins_key begins e bytes after × BeginEntries begins_key begins es after rest

-- True if the key `k` comes after the key `last`, if there is one.
abbrev pub Follows : Option (List ℕ) → List ℕ → Type 0
Follows None k = Unit {0}
Follows (Some last) k = comes_first last k ≡ true

-- True if every key comes after the one before it, and the first after `last`, if there is one.
abbrev pub KeysAscend : Option (List ℕ) → List (List ℕ × Tree) → Type 0
KeysAscend last [] = Unit {0}
KeysAscend last (e ∷ es) = Follows last e.0 × KeysAscend (Some e.0) es

-- the entries as the members of a map, in the same order, followed by `ms`
abbrev pub entered : List (List ℕ × Tree) → Members → Members
entered [] ms = ms
entered (e ∷ es) ms = member e.0 e.1 (entered es ms)

-- True if every member passes `test`.
abbrev pub AllPass : (List ℕ → Tree → Bool) → Members → Type 0
AllPass test no_members = Unit {0}
AllPass test (member k t ms) = (test k t ≡ true) × AllPass test ms

-- ---- the laws of a reader

-- True if the head of a list followed by that many items always is a list. Its items nest one level
-- less.
abbrev pub ListsBegin : (ℕ → Tree → List ℕ → List ℕ → Type 0) → (ℕ → List ℕ → List ℕ → Type 0) → Type 0
ListsBegin begins begins_list = (levels : ℕ) (ts : List Tree) (bytes first rest : List ℕ)
    → begins_list (length ts) bytes first → BeginAll (begins levels) ts first rest → begins (suc levels) (list (as_items ts)) bytes rest

-- True if the head of a map followed by that many entries with ascending keys always is a map. Its
-- values nest one level less. In the map every name has the same value as among the entries, and
-- every member passes a test that all the entries pass.
abbrev pub MapsBegin : (ℕ → Tree → List ℕ → List ℕ → Type 0) → (ℕ → List ℕ → List ℕ → Type 0) → (List ℕ → List ℕ → List ℕ → Type 0) → Type 0
MapsBegin begins begins_map begins_key = (levels : ℕ) (es : List (List ℕ × Tree)) (bytes first rest : List ℕ)
    → begins_map (length es) bytes first → BeginEntries begins_key (begins levels) es first rest → KeysAscend None es
    → (ms : Members) × begins (suc levels) (entries ms) bytes rest × ((name : List ℕ) → value_at name (entered es no_members) ≡ value_at name ms)
    × ((test : List ℕ → Tree → Bool) → AllPass test (entered es no_members) → AllPass test ms)
