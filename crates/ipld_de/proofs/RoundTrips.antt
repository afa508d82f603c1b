-- What the image law says of a call that reads.
use Rattle.std.proofs.Common.{◌≡◌, inl, inr, Option, Some, Result, Ok, Err, IfOk, IfErr, sym, ◌∙◌}
use Rattle.ipld_tree.specs.Tree.{Tree}
use Rattle.ipld_ser.specs.Image.{RejectsAs}
use Rattle.ipld_ser.specs.declared.error.SerdeError.{SerdeError}
use Rattle.ipld_ser.specs.declared.error.SerdeError.TheVariants.{Memory}
use Rattle.ipld_de.specs.Law.{RoundTrip}

pub reads_same_image : {V C : Type 0} {image : V → Option Tree} {contents : V → C} {reads : Tree → Option C} {plain : V → Type 0}
    → RoundTrip image contents reads plain → (v : V) (t : Tree) → image v ≡ Some t → (r : Result V SerdeError)
    → IfOk r (λ w. reads t ≡ Some (contents w)) → IfOk r (λ w. image w ≡ Some t)
reads_same_image law v t is (Ok w) read = let b = law.back v t is in b.same_image w (cc (b.read, read))
reads_same_image law v t is (Err e) read = read

pub reads_same : {V C : Type 0} {image : V → Option Tree} {contents : V → C} {reads : Tree → Option C} {plain : V → Type 0}
    → RoundTrip image contents reads plain → (v : V) (t : Tree) → image v ≡ Some t → plain v → (r : Result V SerdeError)
    → IfOk r (λ w. reads t ≡ Some (contents w)) → IfOk r (λ w. contents w ≡ contents v)
reads_same law v t is plainly (Ok w) read = let b = law.back v t is in let same = b.same plainly in cc (b.read, read, same)
reads_same law v t is plainly (Err e) read = read

pub reads_or_memory : {V C : Type 0} {image : V → Option Tree} {contents : V → C} {reads : Tree → Option C} {plain : V → Type 0}
    → RoundTrip image contents reads plain → (error : SerdeError → Type 0) (v : V) (t : Tree) → image v ≡ Some t → (r : Result V SerdeError)
    → IfErr r (λ e. RejectsAs (reads t) error e) → IfErr r (λ e. e ≡ Memory)
reads_or_memory law error v t is (Ok w) rejected = rejected
reads_or_memory law error v t is (Err e) (inl memory) = memory
reads_or_memory law error v t is (Err e) (inr none) = let b = law.back v t is in let never = none.0 in cc (b.read, never)

same_for : {V : Type 0} (image : V → Option Tree) (v : V) (t : Tree) → image v ≡ Some t → (r : Result V SerdeError) → IfOk r (λ w. image w ≡ Some t) → IfOk r (λ w. image w ≡ image v)
same_for image v t is (Ok w) same = same ∙ sym is
same_for image v t is (Err e) same = same

pub written_same_image : {V C : Type 0} {image : V → Option Tree} {contents : V → C} {reads : Tree → Option C} {plain : V → Type 0}
    → RoundTrip image contents reads plain → (v : V) (t : Tree) → image v ≡ Some t → (r : Result V SerdeError)
    → IfOk r (λ w. reads t ≡ Some (contents w)) → IfOk r (λ w. image w ≡ image v)
written_same_image {image = image} law v t is r read = same_for image v t is r (reads_same_image law v t is r read)

pub written_or_memory : {V C : Type 0} {image : V → Option Tree} {contents : V → C} {reads : Tree → Option C} {plain : V → Type 0}
    → RoundTrip image contents reads plain → (error other : SerdeError → Type 0) (v : V) (t : Tree) → image v ≡ Some t → (r : Result V SerdeError)
    → IfErr r (λ e. RejectsAs (reads t) error e) → IfErr r (λ e. RejectsAs (image v) other e)
written_or_memory law error other v t is (Ok w) rejected = rejected
written_or_memory law error other v t is (Err e) rejected = inl (reads_or_memory law error v t is (Err e) rejected)
