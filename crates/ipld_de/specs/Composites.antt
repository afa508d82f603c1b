-- Readings of composite values, made of the readings of their parts.
use Rattle.std.specs.Prelude.{◌≡◌, ◌==◌, ℕ, Bool, if◌then◌else◌, length, List, [], ◌∷◌, map, Option, Some, None, option_map, option_and_then, String, string_bytes}
use Rattle.std.specs.declared.alloc.Global.{Global}
use Rattle.ipld_tree.specs.Tree.{Tree, null, Items, no_items, item, Members, no_members, member}
use Rattle.ipld_tree.specs.Convert.{list_in, entries_in}
use Rattle.ipld_ser.specs.Image.{both, OrElse, NoError}
use Rattle.ipld_ser.specs.Keys.{key_in, any_text}
use Rattle.ipld_ser.specs.declared.error.SerdeError.{SerdeError}
use Rattle.ipld_ser.specs.declared.error.SerdeError.TheVariants.{WrongLength, Leftover}
use Rattle.ipld_de.specs.Forms.{count_items}
use Rattle.ipld_de.specs.Reading.{KindError}

-- the reading of an option: `None` for Null, and otherwise the reading of the content
abbrev pub option_reading : {C : Type 0} → (Tree → Option C) → Tree → Option (Option C)
option_reading reads null = Some None
option_reading reads t = option_map Some (reads t)

-- True if the tree is not Null, and `e` is the error of the content. Null is always read.
abbrev pub OptionReadError : (Tree → SerdeError → Type 0) → Tree → SerdeError → Type 0
OptionReadError error null e = ⊥
OptionReadError error t e = error t e

-- the readings of all the items, in order, or nothing if one is not read
abbrev pub read_all : {C : Type 0} → (Tree → Option C) → Items → Option (List C)
read_all reads no_items = Some []
read_all reads (item t ts) = both ◌∷◌ (reads t) (read_all reads ts)

-- the reading of a list whose elements are all read
abbrev pub list_reading : {C : Type 0} → (Tree → Option C) → Tree → Option (List C)
list_reading reads t = option_and_then (read_all reads) (list_in t)

-- True if `e` is the error of the first item that is not read.
abbrev pub ItemsError : {C : Type 0} → (Tree → Option C) → (Tree → SerdeError → Type 0) → Items → SerdeError → Type 0
ItemsError reads error no_items e = ⊥
ItemsError reads error (item t ts) e = OrElse (reads t) (error t) (ItemsError reads error ts) e

-- True if `e` is the error of a list: `WrongKind` if the tree is not a list, and otherwise the
-- error of the first element that is not read.
abbrev pub ListReadError : {C : Type 0} → (Tree → Option C) → (Tree → SerdeError → Type 0) → Tree → SerdeError → Type 0
ListReadError reads error t e = KindError list_in (ItemsError reads error) t e

-- the list itself if it has `n` elements, and otherwise nothing
abbrev pub exactly : {C : Type 0} → ℕ → List C → Option (List C)
exactly n cs = if length cs == n then Some cs else None

-- the reading of an array: a list of exactly `n` elements that are all read
abbrev pub array_reading : {C : Type 0} → ℕ → (Tree → Option C) → Tree → Option (List C)
array_reading n reads t = option_and_then (exactly n) (list_reading reads t)

-- True if `e` is the error of an array: that of the list if the list is not read, and otherwise
-- `WrongLength`.
abbrev pub ArrayReadError : {C : Type 0} → (Tree → Option C) → (Tree → SerdeError → Type 0) → Tree → SerdeError → Type 0
ArrayReadError reads error t e = OrElse (list_reading reads t) (ListReadError reads error t) (λ f. f ≡ WrongLength) e

-- True if `e` is the error of a tuple from one of its parts on. It is `WrongLength` if no item is
-- left for the part, the error of the part if that is not read, and otherwise the error of the
-- parts after it.
abbrev pub PartError : {C : Type 0} → (Tree → Option C) → (Tree → SerdeError → Type 0) → (Items → SerdeError → Type 0) → Items → SerdeError → Type 0
PartError reads error others no_items e = e ≡ WrongLength
PartError reads error others (item t ts) e = OrElse (reads t) (error t) (others ts) e

-- True if `e` is `Leftover` with the number of items after the last part of a tuple.
abbrev pub LeftoverError : Items → SerdeError → Type 0
LeftoverError ts e = e ≡ Leftover (count_items ts)

-- the reading after the last part of a tuple: the unit value if no item is left
abbrev pub read_end : Items → Option (Unit {0})
read_end no_items = Some tt
read_end (item t ts) = None

-- the readings of a tuple's next part and of the parts after it, in a pair
abbrev pub read_part : {C D : Type 0} → (Tree → Option C) → (Items → Option D) → Items → Option (C × D)
read_part reads others no_items = None
read_part reads others (item t ts) = both (λ c d. (c, d)) (reads t) (others ts)

-- the reading of a tuple: a list whose items are read by `parts`
abbrev pub tuple_reading : {C : Type 0} → (Items → Option C) → Tree → Option C
tuple_reading parts t = option_and_then parts (list_in t)

-- True if `e` is the error of a tuple: `WrongKind` if the tree is not a list, and otherwise the
-- error of the parts.
abbrev pub TupleReadError : (Items → SerdeError → Type 0) → Tree → SerdeError → Type 0
TupleReadError parts t e = KindError list_in parts t e

-- the reading of a value under the text `k`, or nothing if `k` is not a key
abbrev pub reading_at : {C : Type 0} → (List ℕ → Bool) → (Tree → Option C) → List ℕ → Tree → Option C
reading_at is_key reads k t = if is_key k then reads t else None

-- The keys with the readings of their values, in order, or nothing if a key or a value is not read.
abbrev pub read_entries : {C : Type 0} → (List ℕ → Bool) → (Tree → Option C) → Members → Option (List (List ℕ × C))
read_entries is_key reads no_members = Some []
read_entries is_key reads (member k t ms) = both (λ c es. (k, c) ∷ es) (reading_at is_key reads k t) (read_entries is_key reads ms)

-- True if `e` is the error of the first key or value that is not read, in the order of the entries.
abbrev pub EntriesError : {C : Type 0} → (List ℕ → Bool) → (List ℕ → SerdeError → Type 0) → (Tree → Option C) → (Tree → SerdeError → Type 0) → Members → SerdeError → Type 0
EntriesError is_key key_error reads error no_members e = ⊥
EntriesError is_key key_error reads error (member k t ms) e = OrElse (key_in is_key k) (key_error k) (OrElse (reads t) (error t) (EntriesError is_key key_error reads error ms)) e

-- True if `e` is the error of a map: `WrongKind` if the tree is not a map, and otherwise the error
-- of the first key or value that is not read.
abbrev pub KeyedReadError : {C : Type 0} → (List ℕ → Bool) → (List ℕ → SerdeError → Type 0) → (Tree → Option C) → (Tree → SerdeError → Type 0) → Tree → SerdeError → Type 0
KeyedReadError is_key key_error reads error t e = KindError entries_in (EntriesError is_key key_error reads error) t e

-- the reading of a map whose keys and values are all read
abbrev pub keyed_reading : {C : Type 0} → (List ℕ → Bool) → (Tree → Option C) → Tree → Option (List (List ℕ × C))
keyed_reading is_key reads t = option_and_then (read_entries is_key reads) (entries_in t)

-- The contents of the entries of a map: the texts that their keys are written as, with the contents
-- of their values.
abbrev pub keyed_contents : {K T C : Type 0} → (K → List ℕ) → (T → C) → List (K × T) → List (List ℕ × C)
keyed_contents text_of contents es = map (λ e. (text_of e.0, contents e.1)) es

-- True if `e` is the error of a map with string keys: `WrongKind` if the tree is not a map, and
-- otherwise the error of the first value that is not read.
abbrev pub MapReadError : {C : Type 0} → (Tree → Option C) → (Tree → SerdeError → Type 0) → Tree → SerdeError → Type 0
MapReadError reads error t e = KeyedReadError any_text NoError reads error t e

-- the reading of a map with string keys whose values are all read
abbrev pub map_reading : {C : Type 0} → (Tree → Option C) → Tree → Option (List (List ℕ × C))
map_reading reads t = keyed_reading any_text reads t

-- the contents of the entries of a map with string keys
abbrev pub entry_contents : {T C : Type 0} → (T → C) → List (String Global × T) → List (List ℕ × C)
entry_contents contents es = keyed_contents string_bytes contents es
