-- The image law: typed values round-trip. If a value has an image, its type reads the image, and
-- every value with the contents that are read has the same image. If the value is plain, these are
-- its own contents. A value is plain if no `Some` in it holds a value whose image is Null, since
-- serde's data model writes `None` and such a `Some` alike.
use Rattle.std.specs.Prelude.{◌≡◌, ◌≢◌, List, Option, Some, None, ⊤}
use Rattle.std.specs.List.{AllByRecursion}
use Rattle.ipld_tree.specs.Tree.{Tree, null}

-- True if `v` reads back from `written` (a tree, or the items or the members of one). Its type
-- reads `written`, and every value with the contents that are read has the image `written`. If `v`
-- is plain, these are its own contents.
pub record ReadsBack {V C S : Type 0} (image : V → Option S) (contents : V → C) (reads : S → Option C) (plain : V → Type 0) (v : V) (written : S) : Type 0 where
  pub reading : C
  pub read : reads written ≡ Some reading
  pub same_image : (w : V) → contents w ≡ reading → image w ≡ Some written
  pub same : plain v → contents v ≡ reading

-- True if every value that has an image reads back from it (the image law). Its type reads the
-- image, and every value with the contents that are read has the same image. If the value is plain,
-- these are its own contents.
pub record RoundTrip {V C : Type 0} (image : V → Option Tree) (contents : V → C) (reads : Tree → Option C) (plain : V → Type 0) : Type 0 where
  pub back : (v : V) (t : Tree) → image v ≡ Some t → ReadsBack image contents reads plain v t

-- ---- which values are plain

-- True if the option is `None`, or its content is plain and the image of the content is not Null.
abbrev pub OptionPlain : {V : Type 0} → (V → Option Tree) → (V → Type 0) → Option V → Type 0
OptionPlain image plain None = ⊤
OptionPlain image plain (Some v) = plain v × (image v ≢ Some null)

-- True if every element is plain.
abbrev pub ListPlain : {V : Type 0} → (V → Type 0) → List V → Type 0
ListPlain plain vs = AllByRecursion plain vs

-- True if the value of every entry is plain.
abbrev pub EntriesPlain : {K V : Type 0} → (V → Type 0) → List (K × V) → Type 0
EntriesPlain plain es = AllByRecursion (λ e. plain e.1) es
