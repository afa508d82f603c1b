-- The images of composite values. They exist if and only if all parts have images, arrays have the
-- length of their type, and keys are valid.
use Rattle.std.specs.Prelude.{◌==◌, if◌then◌else◌, length, ℕ, Bool, List, [], ◌∷◌, map, Option, Some, None, option_map, option_and_then, String, string_bytes}
use Rattle.std.specs.declared.alloc.Global.{Global}
use Rattle.ipld_tree.specs.Tree.{Tree, null, list, entries, Members, no_members, member}
use Rattle.ipld_tree.specs.TreeOf.{as_items}
use Rattle.ipld_tree.specs.Put.{put}
use Rattle.ipld_ser.specs.Image.{both, OrElse}
use Rattle.ipld_ser.specs.Keys.{any_text}
use Rattle.ipld_ser.specs.declared.error.SerdeError.{SerdeError}

-- The image of an option: Null for `None`, and the image of the value for `Some`
abbrev pub option_image : {A : Type 0} → (A → Option Tree) → Option A → Option Tree
option_image image None = Some null
option_image image (Some v) = image v

-- True if the option is `Some`, and `e` is an error of its value
abbrev pub OptionError : {A : Type 0} → (A → SerdeError → Type 0) → Option A → SerdeError → Type 0
OptionError error None e = ⊥
OptionError error (Some v) e = error v e

-- The trees of a list, if every item has one
abbrev pub all_of : List (Option Tree) → Option (List Tree)
all_of [] = Some []
all_of (o ∷ os) = both ◌∷◌ o (all_of os)

-- The list of these images, if every item has one
abbrev pub list_of : List (Option Tree) → Option Tree
list_of os = option_map (λ ts. list (as_items ts)) (all_of os)

-- The image of a list: the list of its elements' images, if all have one
abbrev pub list_image : {A : Type 0} → (A → Option Tree) → List A → Option Tree
list_image image vs = list_of (map image vs)

-- True if `e` is an error of the first element that has no image
abbrev pub ListError : {A : Type 0} → (A → Option Tree) → (A → SerdeError → Type 0) → List A → SerdeError → Type 0
ListError image error [] e = ⊥
ListError image error (v ∷ vs) e = OrElse (image v) (error v) (ListError image error vs) e

-- The image of an array of `n` elements: that of the list, if its length is `n`
abbrev pub array_image : {A : Type 0} → ℕ → (A → Option Tree) → List A → Option Tree
array_image n image vs = if length vs == n then list_image image vs else None

-- The image of the value at the string `k`, if `k` is a key
abbrev pub image_at : {A : Type 0} → (List ℕ → Bool) → (A → Option Tree) → List ℕ → A → Option Tree
image_at is_key image k v = if is_key k then image v else None

-- The images of the values under the strings of their keys, in the order of the entries. All values
-- need an image, and all strings have to be keys.
abbrev pub images_under : {K A : Type 0} → (K → List ℕ) → (List ℕ → Bool) → (A → Option Tree) → List (K × A) → Option Members
images_under text_of is_key image [] = Some no_members
images_under text_of is_key image (e ∷ es) = both (member (text_of e.0)) (image_at is_key image (text_of e.0) e.1) (images_under text_of is_key image es)

-- The image of a map whose keys are written as the strings that `text_of` returns
abbrev pub keyed_image : {K A : Type 0} → (K → List ℕ) → (List ℕ → Bool) → (A → Option Tree) → List (K × A) → Option Tree
keyed_image text_of is_key image es = option_map entries (images_under text_of is_key image es)

-- The image of a map whose keys are strings
abbrev pub map_image : {A : Type 0} → (A → Option Tree) → List (String Global × A) → Option Tree
map_image image es = keyed_image string_bytes any_text image es

-- True if `e` is an error of the first entry whose value has no image
abbrev pub MapError : {K A : Type 0} → (A → Option Tree) → (A → SerdeError → Type 0) → List (K × A) → SerdeError → Type 0
MapError image error es e = ListError (λ entry. image entry.1) (λ entry. error entry.1) es e

-- The map after the images of the fields are put under their names, one after the other, if all
-- have one
abbrev pub put_fields : List (List ℕ × Option Tree) → Members → Option Members
put_fields [] ms = Some ms
put_fields (f ∷ fs) ms = option_and_then (λ t. put_fields fs (put f.0 t ms)) f.1

-- The image of a struct: the map of its fields, if all have an image
abbrev pub struct_image : List (List ℕ × Option Tree) → Option Tree
struct_image fs = option_map entries (put_fields fs no_members)

-- True if `e` is an error of the first part of a tuple or a struct that has no image. Every part is
-- given by its image and its errors.
abbrev pub StructError : List {1} (Option Tree × (SerdeError → Type 0)) → SerdeError → Type 0
StructError [] e = ⊥
StructError (f ∷ fs) e = OrElse f.0 f.1 (StructError fs) e
