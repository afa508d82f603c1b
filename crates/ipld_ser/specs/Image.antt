-- The image of a value is the tree of the IPLD data model that the value is written as. Some values
-- have no image.
use Rattle.std.specs.Prelude.{◌≡◌, ◌⊎◌, Option, Some, None, IsSome}
use Rattle.ipld_tree.specs.Tree.{Tree}
use Rattle.ipld_ser.specs.declared.error.SerdeError.{SerdeError}
use Rattle.ipld_ser.specs.declared.error.SerdeError.TheVariants.{Memory}

-- `f` of two values, if both are there
abbrev pub both : {A B C : Type 0} → (A → B → C) → Option A → Option B → Option C
both f (Some a) (Some b) = Some (f a b)
both f (Some a) None = None
both f None o = None

-- True if `e` is a failed allocation, or the value has no image. So it may be any error if the
-- value has no image.
abbrev pub Rejects : Option Tree → SerdeError → Type 0
Rejects image e = (e ≡ Memory) ⊎ (image ≡ None)

-- True if `e` is a failed allocation, or the result is missing and `e` is one of the errors `error`
abbrev pub RejectsAs : {A : Type 0} → Option A → (SerdeError → Type 0) → SerdeError → Type 0
RejectsAs result error e = (e ≡ Memory) ⊎ ((result ≡ None) × error e)

-- Never true: the errors of a value that always has an image, or of a tree that can always be read
abbrev pub NoError : {A : Type 0} → A → SerdeError → Type 0
NoError a e = ⊥

-- True if `e` is an error of parts that are taken in order: one of `first` if the first has no
-- result, and otherwise one of `others`
abbrev pub OrElse : {A : Type 0} → Option A → (SerdeError → Type 0) → (SerdeError → Type 0) → SerdeError → Type 0
OrElse result first others e = ((result ≡ None) × first e) ⊎ (IsSome result × others e)
