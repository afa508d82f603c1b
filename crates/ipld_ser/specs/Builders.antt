-- The state of the builders of lists and maps, the errors of keys and entries, and the image of a
-- variant.
use Rattle.std.specs.Prelude.{◌≡◌, ◌⊎◌, ℕ, List, Option, Some, None, option_map, IsSome, map, string_bytes, vec_capacity}
use Rattle.ipld_tree.specs.Tree.{Tree, text, entries, Members, no_members, member}
use Rattle.ipld_tree.specs.TreeOf.{tree_of, members_of}
use Rattle.ipld_tree.specs.Put.{put}
use Rattle.ipld_ser.specs.Image.{RejectsAs}
use Rattle.ipld_ser.specs.declared.error.SerdeError.{SerdeError}
use Rattle.ipld_ser.specs.declared.error.SerdeError.TheVariants.{Memory, KeyNotText}
use Rattle.ipld_ser.specs.declared.sequence.SerializeVec.{SerializeVec}
use Rattle.ipld_ser.specs.declared.map.SerializeMap.{SerializeMap}

-- ---- lists

-- The items that a list builder was fed, in order.
abbrev pub fed : SerializeVec → List Tree
fed b = map tree_of b.items.items

-- The capacity of a list builder
abbrev pub reserved : SerializeVec → ℕ
reserved b = vec_capacity b.items

-- ---- maps

-- The state of a map builder: its members, and the key that waits for its value
pub record MapState : Type 0 where
  pub filed : Members
  pub pending : Option (List ℕ)

-- The state of a map builder: its members, and the key that waits for its value.
abbrev pub state_of : SerializeMap → MapState
state_of b = record { filed = members_of b.entries.entries; pending = option_map string_bytes b.key }

-- The state with the same members and without a pending key
abbrev pub without_key : MapState → MapState
without_key m = record { filed = m.filed; pending = None }

-- True if the value has an image, and `after` is `before` with the image put at `name`, instead of
-- any value there
pub record PutsImage (name : List ℕ) (value : Option Tree) (before after : Members) : Type 0 where
  pub tree : Tree
  pub has_image : value ≡ Some tree
  pub filed : after ≡ put name tree before

-- True if the image of the key is a string, and this string is the pending key after the call,
-- instead of an earlier one. The members are as before.
pub record WritesKey (key : Option Tree) (before after : MapState) : Type 0 where
  pub name : List ℕ
  pub is_text : key ≡ Some (text name)
  pub pending : after.pending ≡ Some name
  pub filed : after.filed ≡ before.filed

-- True if a key was pending, and the image of the value is put at it. No key is pending after that.
pub record WritesValue (value : Option Tree) (before after : MapState) : Type 0 where
  pub name : List ℕ
  pub was_pending : before.pending ≡ Some name
  pub puts : PutsImage name value before.filed after.filed
  pub no_key : after.pending ≡ None

-- True if the image of the key is a string, and the image of the value is put at it. No key is
-- pending after that.
pub record WritesEntry (key value : Option Tree) (before after : MapState) : Type 0 where
  pub name : List ℕ
  pub is_text : key ≡ Some (text name)
  pub puts : PutsImage name value before.filed after.filed
  pub no_key : after.pending ≡ None

-- The string that is the image of a key, if the image is a string
abbrev pub key_text : Option Tree → Option (List ℕ)
key_text (Some (text s)) = Some s
key_text _ = None

-- True if a key may be rejected with `e`: `Memory`, `KeyNotText` if its image is not a string, or
-- an error of the key if it has no image
abbrev pub RejectsKey : Option Tree → (SerdeError → Type 0) → SerdeError → Type 0
RejectsKey image error e = (e ≡ Memory) ⊎ ((key_text image ≡ None) × (IsSome image → e ≡ KeyNotText) × (image ≡ None → error e))

-- True if an entry may be rejected with `e`, and `after` is the state then. Either the key is
-- rejected, and the state is as before. Or the key is a string, the value is rejected, and no key
-- is pending. With `Memory`, both are possible.
abbrev pub RejectsEntry : Option Tree → (SerdeError → Type 0) → Option Tree → (SerdeError → Type 0) → SerdeError → MapState → MapState → Type 0
RejectsEntry key key_error value value_error e before after =
    (RejectsKey key key_error e × (after ≡ before)) ⊎ (IsSome (key_text key) × RejectsAs value value_error e × (after ≡ without_key before))

-- ---- variants

-- The image of a variant with content: the map of its name to the content
abbrev pub variant_tree : List ℕ → Tree → Tree
variant_tree name content = entries (member name content no_members)
