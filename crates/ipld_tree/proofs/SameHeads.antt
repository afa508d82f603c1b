-- Two trees are equal where each value of the one's walk is of one kind with the other's, and holds as much.
use Rattle.std.proofs.Common.{◌≡◌, ◌&&◌, ◌==◌, Bool, true, false, List, [], ◌∷◌, ◌++◌, length, refl, sym, ◌∙◌, append_assoc}
use Rattle.std.proofs.Math.Dec.{eqb-zero-suc, eqb-suc-zero, eqb-suc-suc}
use Rattle.std.specs.Str.{bytes_eq}
use Rattle.ipld_tree.specs.Tree.{Tree, null, boolean, integer, text, bytes, list, entries, link, Items, no_items, item, Members, no_members, member}
use Rattle.ipld_tree.specs.TreeOf.{items_of}
use Rattle.ipld_tree.specs.Equal.{tree_eq, items_eq, members_eq}
use Rattle.ipld_tree.specs.Heads.{count_eq, keys_eq, heads_eq}
use Rattle.ipld_tree.specs.Walk.{preorder, items_preorder, members_preorder}
use Rattle.ipld_tree.specs.declared.ipld.Ipld.{Ipld}

regrouped : (c e h i k : Bool) → (c && h) ≡ (i && k) → (c && (e && h)) ≡ ((e && i) && k)
regrouped c true h i k same = same
regrouped true false h i k same = refl
regrouped false false h i k same = refl

regrouped_key : (b c e h i k : Bool) → (c && h) ≡ (i && k) → ((b && c) && (e && h)) ≡ ((b && (e && i)) && k)
regrouped_key true c e h i k same = regrouped c e h i k same
regrouped_key false c e h i k same = refl

mutual
  pub same_heads : (t u : Tree) (r s : List Tree) → heads_eq (preorder t ++ r) (preorder u ++ s) ≡ (tree_eq t u && heads_eq r s)
  same_heads null null r s = refl
  same_heads (boolean a) (boolean b) r s = refl
  same_heads (integer m) (integer n) r s = refl
  same_heads (text a) (text b) r s = refl
  same_heads (bytes a) (bytes b) r s = refl
  same_heads (link k) (link l) r s = refl
  same_heads (list ts) (list us) r s = same_items ts us r s
  same_heads (entries ms) (entries ns) r s = same_entries ms ns r s
  same_heads _ _ r s = refl

  same_items : (ts us : Items) (r s : List Tree) → (count_eq ts us && heads_eq (items_preorder ts ++ r) (items_preorder us ++ s)) ≡ (items_eq ts us && heads_eq r s)
  same_items no_items no_items r s = refl
  same_items (item t ts) (item u us) r s =
      rw (append_assoc (preorder t) (items_preorder ts) r, append_assoc (preorder u) (items_preorder us) s, same_heads t u (items_preorder ts ++ r) (items_preorder us ++ s))
      (regrouped (count_eq ts us) (tree_eq t u) (heads_eq (items_preorder ts ++ r) (items_preorder us ++ s)) (items_eq ts us) (heads_eq r s) (same_items ts us r s))
  same_items _ _ r s = refl

  same_entries : (ms ns : Members) (r s : List Tree) → (keys_eq ms ns && heads_eq (members_preorder ms ++ r) (members_preorder ns ++ s)) ≡ (members_eq ms ns && heads_eq r s)
  same_entries no_members no_members r s = refl
  same_entries (member j t ms) (member k u ns) r s =
      rw (append_assoc (preorder t) (members_preorder ms) r, append_assoc (preorder u) (members_preorder ns) s, same_heads t u (members_preorder ms ++ r) (members_preorder ns ++ s))
      (regrouped_key (bytes_eq j k) (keys_eq ms ns) (tree_eq t u) (heads_eq (members_preorder ms ++ r) (members_preorder ns ++ s)) (members_eq ms ns) (heads_eq r s) (same_entries ms ns r s))
  same_entries _ _ r s = refl

and_true : (b : Bool) → (b && true) ≡ b
and_true true = refl
and_true false = refl

-- where both walks begin
pub at_start : (t u : Tree) → tree_eq t u ≡ heads_eq (preorder t ++ []) (preorder u ++ [])
at_start t u = sym (same_heads t u [] [] ∙ and_true (tree_eq t u))

pub same_length : (xs ys : List Ipld) → (length xs == length ys) ≡ count_eq (items_of xs) (items_of ys)
same_length [] [] = refl
same_length [] (y ∷ ys) = eqb-zero-suc (length ys)
same_length (x ∷ xs) [] = eqb-suc-zero (length xs)
same_length (x ∷ xs) (y ∷ ys) = eqb-suc-suc (length xs) (length ys) ∙ same_length xs ys
