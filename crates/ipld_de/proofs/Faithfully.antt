-- What is written reports the values of a faithful type apart.
use Rattle.std.proofs.Common.{◌≡◌, Bool, true, Option, Some, sym, ◌∙◌}
use Rattle.ipld_tree.specs.Tree.{Tree}
use Rattle.ipld_de.specs.Faithful.{EqualByContents}
use Rattle.ipld_de.specs.Law.{RoundTrip}

same_reading : {C : Type 0} (o : Option C) (c d : C) → o ≡ Some c → o ≡ Some d → c ≡ d
same_reading o c d one other = cc (one, other)

pub read_equal : {V C : Type 0} {image : V → Option Tree} {contents : V → C} {reads : Tree → Option C} {plain : V → Type 0} {eq : V → V → Bool}
    → RoundTrip image contents reads plain → EqualByContents eq contents → (v w : V) (t : Tree) → image v ≡ Some t → plain v → reads t ≡ Some (contents w) → eq v w ≡ true
read_equal {contents = contents} {reads = reads} law equal v w t is plainly read =
    let b = law.back v t is in
    (equal.decides v w).1 (b.same plainly ∙ same_reading (reads t) b.reading (contents w) b.read read)

pub written_equal : {V C : Type 0} {image : V → Option Tree} {contents : V → C} {reads : Tree → Option C} {plain : V → Type 0} {eq : V → V → Bool}
    → RoundTrip image contents reads plain → EqualByContents eq contents → (v w : V) (t : Tree) → image v ≡ Some t → image w ≡ Some t → plain v → plain w → eq v w ≡ true
written_equal {contents = contents} {reads = reads} law equal v w t is also plain_v plain_w =
    let b = law.back w t also in
    read_equal law equal v w t is plain_v (b.read ∙ (λ i. Some (sym (b.same plain_w) i)))
