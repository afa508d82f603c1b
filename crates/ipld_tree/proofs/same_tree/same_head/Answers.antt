use Rattle.std.proofs.Common.{◌≡◌, ap, ◌∙◌, arith, length, vec_len}
use Rattle.ipld_tree.specs.TreeOf.{tree_of}
use Rattle.ipld_tree.proofs.Trees.{tree_of-List}
use Rattle.ipld_tree.proofs.SameHeads.{same_length}
use Rattle.ipld_tree.proofs.same_tree.same_head.Goals as goal

pub returns-in-List-List : goal.returns-in-List-List
returns-in-List-List c =
    let a = c.in-List-List.a in
    let b = c.in-List-List.b in
    let ours : vec_len a ≡ length a.items = omega arith in
    let theirs : vec_len b ≡ length b.items = omega arith in
    rw (ap tree_of c.in-List-List.is-0 ∙ tree_of-List a, ap tree_of c.in-List-List.is-1 ∙ tree_of-List b, c.len.ensures, c.len-in-List-List.ensures)
    (rw (ours, theirs) (same_length a.items b.items))
