use Rattle.std.proofs.Common.{ap, ◌∙◌, sym}
use Rattle.std.proofs.lemmas.Cmp.{tied_itself}
use Rattle.ipld_cid.specs.Cid.{Link}
use Rattle.ipld_cid.specs.Order.{link_cmp}
use Rattle.ipld_cid.specs.Lemmas.OrderLaws.{link_decides, link_total, link_exact}
use Rattle.ipld_cid.proofs.laws.cid_order_law.Goals as goal

pub returns : goal.returns
returns c = record {
  equal_parts = link_decides;
  total = link_total;
  ties = λ a b. (link_exact a b, λ e. ap (λ (l : Link). link_cmp a l) (sym e) ∙ tied_itself link_total a);
}
