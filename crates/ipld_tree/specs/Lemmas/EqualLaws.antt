-- Equality of trees of the IPLD data model decides whether two trees are the same.
use Rattle.std.specs.Prelude.{◌≡◌, ◌&&◌}
use Rattle.std.proofs.Common.{refl, ap, bytes_eq}
use Rattle.std.specs.Bool.{Decides}
use Rattle.std.specs.Ordering.{int_eq}
use Rattle.std.specs.Cmp.{IsEquivalence, decided, booleans_Decides, signed_Decides}
use Rattle.std.proofs.lemmas.Bool.Decides.{Decides-and, Decides-like}
use Rattle.std.proofs.lemmas.Slice.Eq.{bytes_eq-Decides}
use Rattle.ipld_cid.specs.Order.{link_eq}
use Rattle.ipld_cid.specs.Lemmas.OrderLaws.{link_decides}
use Rattle.ipld_tree.specs.Tree.{Tree, null, boolean, integer, text, bytes, list, entries, link, Items, no_items, item, Members, no_members, member}
use Rattle.ipld_tree.specs.Equal.{tree_eq, items_eq, members_eq}

mutual
  pub tree_decides : (a b : Tree) → Decides (tree_eq a b) (a ≡ b)
  tree_decides null null = (λ e. refl, λ e. refl)
  tree_decides (boolean a) (boolean b) = Decides-like (tree_eq (boolean a) (boolean b)) (ap boolean) (λ e. cc) (booleans_Decides a b)
  tree_decides (integer m) (integer n) = Decides-like (int_eq m n) (ap integer) (λ e. cc) (signed_Decides m n)
  tree_decides (text s) (text t) = Decides-like (bytes_eq s t) (ap text) (λ e. cc) (bytes_eq-Decides s t)
  tree_decides (bytes a) (bytes b) = Decides-like (bytes_eq a b) (ap bytes) (λ e. cc) (bytes_eq-Decides a b)
  tree_decides (list ts) (list us) = Decides-like (items_eq ts us) (ap list) (λ e. cc) (items_decide ts us)
  tree_decides (entries ms) (entries ns) = Decides-like (members_eq ms ns) (ap entries) (λ e. cc) (members_decide ms ns)
  tree_decides (link k) (link l) = Decides-like (link_eq k l) (ap link) (λ e. cc) (link_decides k l)
  tree_decides _ _ = (λ e. absurd cc, λ e. absurd cc)

  pub items_decide : (a b : Items) → Decides (items_eq a b) (a ≡ b)
  items_decide no_items no_items = (λ e. refl, λ e. refl)
  items_decide (item t ts) (item u us) =
      Decides-like (tree_eq t u && items_eq ts us) (λ p. cc) (λ e. (cc, cc)) (Decides-and (tree_eq t u) (items_eq ts us) (tree_decides t u) (items_decide ts us))
  items_decide _ _ = (λ e. absurd cc, λ e. absurd cc)

  pub members_decide : (a b : Members) → Decides (members_eq a b) (a ≡ b)
  members_decide no_members no_members = (λ e. refl, λ e. refl)
  members_decide (member j t ms) (member k u ns) =
      Decides-like (bytes_eq j k && (tree_eq t u && members_eq ms ns)) (λ p. cc) (λ e. (cc, (cc, cc)))
      (Decides-and (bytes_eq j k) (tree_eq t u && members_eq ms ns) (bytes_eq-Decides j k) (Decides-and (tree_eq t u) (members_eq ms ns) (tree_decides t u) (members_decide ms ns)))
  members_decide _ _ = (λ e. absurd cc, λ e. absurd cc)

pub tree_equiv : IsEquivalence tree_eq
tree_equiv = decided tree_eq tree_decides
