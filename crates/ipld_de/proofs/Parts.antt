-- A tuple's first part and the parts after it.
use Rattle.std.proofs.Common.{◌≡◌, Option, Some, refl, ap, sym, ◌∙◌}
use Rattle.ipld_tree.specs.Tree.{Tree, Items, no_items, item}
use Rattle.ipld_ser.specs.Image.{both}
use Rattle.ipld_de.specs.Cursors.{read_first, after_item}

both_read : {C D E : Type 0} (join : C → D → E) (o : Option C) (p : Option D) (c : C) (d : D) → o ≡ Some c → p ≡ Some d → both join o p ≡ Some (join c d)
both_read join o p c d is also = rw (is, also) refl
