use Rattle.std.proofs.Common.{[], ◌∷◌, refl, ap, sym, ◌∙◌, subst}
use Rattle.std.proofs.lemmas.Bool.{true≢false}
use Rattle.ipld_tree.proofs.Trees.{tree_of-Link}
use Rattle.std.specs.Set.{IsUnion}
use Rattle.ipld_tree.specs.TreeOf.{tree_of}
use Rattle.ipld_tree.specs.Walk.{own_link}
use Rattle.ipld_tree.proofs.Linking.{same_cid, union_none, union_one}
use Rattle.ipld_tree.proofs.references.insert_link.Goals as goal

pub returns-in-Err : goal.returns-in-Err
returns-in-Err c = record {
  added = [];
  left_out = own_link (tree_of c.args.value.now);
  inserted = subst (λ keys. IsUnion same_cid c.args.set.now.keys [] keys) (sym c.in-Err.ensures.err) (union_none c.args.set.now.keys);
  beginning = refl;
  whole = λ done. absurd (true≢false (sym done));
}

pub returns-in-Ok : goal.returns-in-Ok
returns-in-Ok c = record {
  added = c.in-Link.cid ∷ [];
  left_out = [];
  inserted = union_one c.args.set.now.keys c.insert.new.self.keys c.in-Link.cid c.in-Ok.ensures.updates.0;
  beginning = ap (λ v. own_link (tree_of v)) c.in-Link.is ∙ ap own_link (tree_of-Link c.in-Link.cid);
  whole = λ done. refl;
}
