-- A writer of images appends the bytes of an image to earlier bytes, without a tree.
use Rattle.std.specs.Prelude.{◌≡◌, ◌<◌, ◌^◌, ◌==◌, ◌&&◌, ◌||◌, if◌then◌else◌, nat_lt, ℕ, suc, Bool, List, [], ◌∷◌, ◌++◌, length, map, slice_get, Option, Some, None, option_and_then}
use Rattle.std.specs.Borrow.{Bor}
use Rattle.std.specs.Cmp.Lexicographic.{slice_cmp}
use Rattle.std.specs.Ordering.{nat_cmp, is_lt}
use Rattle.ipld_tree.specs.Tree.{Tree, text}
use Rattle.ipld_ser.specs.Composites.{list_of, struct_image}
use Rattle.ipld_ser.specs.Image.{both}
use Rattle.ipld_ser.specs.Names.{AreDistinct}

-- True if `written` has bytes, and `after` is `before` followed by these bytes
pub record Appends (written : Option (List ℕ)) (before after : List ℕ) : Type 0 where
  pub bytes : List ℕ
  pub is : written ≡ Some bytes
  pub appended : after ≡ before ++ bytes

-- The bytes that an image is written as, if the image exists and can be written
abbrev pub written_image : (Tree → Option (List ℕ)) → Option Tree → Option (List ℕ)
written_image written image = option_and_then written image

-- The parts joined in order, if all are there
abbrev pub one_after_another : List (Option (List ℕ)) → Option (List ℕ)
one_after_another [] = Some []
one_after_another (o ∷ os) = both ◌++◌ o (one_after_another os)

-- ---- the order of a map's entries

-- Whether the key `j` comes before `k`: by length, and by bytes if the lengths are equal (RFC 8949,
-- section 4.2.3)
abbrev pub comes_first : List ℕ → List ℕ → Bool
comes_first j k = nat_lt (length j) (length k) || (length j == length k && is_lt (slice_cmp nat_cmp j k))

-- The entries `es`, which are in order, with the name `k` and its value `x` at their place
abbrev pub filed : {X : Type 0} → List ℕ → X → List (List ℕ × X) → List (List ℕ × X)
filed k x [] = (k, x) ∷ []
filed k x (e ∷ es) = if comes_first e.0 k then e ∷ filed k x es else (k, x) ∷ (e ∷ es)

-- The entries `es` in order with the names inserted. The values of the names are consecutive
-- indexes from `i`.
abbrev pub filed_from : ℕ → List (List ℕ) → List (List ℕ × ℕ) → List (List ℕ × ℕ)
filed_from i [] es = es
filed_from i (k ∷ ks) es = filed_from (suc i) ks (filed k i es)

-- The names and indexes of entries with borrowed names
abbrev pub indexed : List (Bor (List ℕ) × ℕ) → List (List ℕ × ℕ)
indexed es = map (λ e. (e.0.now, e.1)) es

-- ---- structs

-- The names of fields
abbrev pub names_of : List (List ℕ × Option Tree) → List (List ℕ)
names_of fs = map (λ f. f.0) fs

-- The bytes of the field at the index `i`, if the field exists and can be written
abbrev pub written_at : (Tree → Option (List ℕ)) → List (List ℕ × Option Tree) → ℕ → Option (List ℕ)
written_at written fs i = option_and_then (λ f. written_image written f.1) (slice_get fs i)

-- The entries `es` with the names of the fields inserted in order. The value of a name is the bytes
-- of its field, if it can be written.
abbrev pub fields_filed : (Tree → Option (List ℕ)) → List (List ℕ × Option Tree) → List (List ℕ × Option (List ℕ)) → List (List ℕ × Option (List ℕ))
fields_filed written [] es = es
fields_filed written (f ∷ fs) es = fields_filed written fs (filed f.0 (written_image written f.1) es)

-- The bytes of an entry: the name as a string, and then the value
abbrev pub entry_written : (Tree → Option (List ℕ)) → List ℕ × Option (List ℕ) → Option (List ℕ)
entry_written written e = both ◌++◌ (written (text e.0)) e.1

-- The bytes of an entry that has a name and the index of its field
abbrev pub entry_at : (Tree → Option (List ℕ)) → List (List ℕ × Option Tree) → Bor (List ℕ) × ℕ → Option (List ℕ)
entry_at written fs e = both ◌++◌ (written (text e.0.now)) (written_at written fs e.1)

-- ---- the laws of a writer

-- True if every list of fewer than 2^64 items is written as its head and then the items, if all of
-- them can be written
abbrev pub ListsInTurn : (Tree → Option (List ℕ)) → (ℕ → List ℕ) → Type 0
ListsInTurn written list_head = (os : List (Option Tree)) (b : List ℕ) → length os < 2 ^ 64
    → one_after_another (map (written_image written) os) ≡ Some b → written_image written (list_of os) ≡ Some (list_head (length os) ++ b)

-- True if every struct of fewer than 2^64 fields with distinct names is written as its head and
-- then the fields in order, if all can be written. A field is its name and then its value.
abbrev pub FieldsInTurn : (Tree → Option (List ℕ)) → (ℕ → List ℕ) → Type 0
FieldsInTurn written map_head = (fs : List (List ℕ × Option Tree)) (b : List ℕ) → AreDistinct (names_of fs) → length fs < 2 ^ 64
    → one_after_another (map (entry_written written) (fields_filed written fs [])) ≡ Some b
    → written_image written (struct_image fs) ≡ Some (map_head (length fs) ++ b)
