-- The links of an item are those of its tree, each as often.
use Rattle.std.proofs.Common.{◌≡◌, ℕ, ◌+◌, ◌^◌, Bool, true, false, ◌||◌, List, [], ◌∷◌, ◌++◌, Option, Some, None, option_map, Ordering, Less, Equal, Greater, nat_cmp, refl, sym, ap, ◌∙◌, append_assoc, bytes_eq, arith}
use Rattle.std.specs.Prelude.{if◌then◌else◌, ℤ, pos, nat_lt}
use Rattle.std.specs.Ordering.{is_eq, match_ordering}
use Rattle.std.proofs.lemmas.Map.Text.{is_eq-slice_cmp}
use Rattle.std.specs.Cmp.Lexicographic.{slice_cmp}
use Rattle.ipld_cid.specs.Cid.{Link}
use Rattle.ipld_cid.specs.Order.{link_eq}
use Rattle.ipld_tree.specs.Tree.{Tree, Items, no_items, item, Members, no_members, member}
use Rattle.ipld_tree.specs.Tree as tree
use Rattle.ipld_tree.specs.Put.{put}
use Rattle.ipld_tree.specs.Walk.{preorder, items_preorder, members_preorder, own_link, links_among, links_of}
use Rattle.ipld_tokens.specs.Token as token
use Rattle.ipld_tokens.specs.Item.{Item, atom_item, bytes_item, some_item, variant_item, list_item, map_item, link_item, Parts, no_parts, part, Pairs, no_pairs, pair, links_in, parts_links, pairs_links}
use Rattle.ipld_tokens.specs.ItemTree.{key_text, has_key, item_before, put_new, tree_of_atom, tree_of_item, items_of_parts, members_of_pairs}
use Rattle.ipld_tree.specs.LinkTimes.{one_if, times}
use Rattle.ipld_tokens.specs.LinkTimes.{SameLinks}

times-append : (cid : Link) (a b : List Link) → times cid (a ++ b) ≡ times cid a + times cid b
times-append cid [] b = omega arith
times-append cid (l ∷ a) b = let h = times-append cid a b in omega arith

pub among-append : (a b : List Tree) → links_among (a ++ b) ≡ links_among a ++ links_among b
among-append [] b = refl
among-append (t ∷ a) b = ap (λ ls. own_link t ++ ls) (among-append a b) ∙ sym (append_assoc (own_link t) (links_among a) (links_among b))

among-times : (cid : Link) (a b : List Tree) → times cid (links_among (a ++ b)) ≡ times cid (links_among a) + times cid (links_among b)
among-times cid a b = ap (times cid) (among-append a b) ∙ times-append cid (links_among a) (links_among b)

abbrev in_members : Link → Members → ℕ
in_members cid ms = times cid (links_among (members_preorder ms))

abbrev in_items : Link → Items → ℕ
in_items cid ts = times cid (links_among (items_preorder ts))

abbrev in_tree : Link → Tree → ℕ
in_tree cid t = times cid (links_of t)

first_member : (cid : Link) (key : List ℕ) (t : Tree) (ms : Members) → in_members cid (member key t ms) ≡ in_tree cid t + in_members cid ms
first_member cid key t ms = among-times cid (preorder t) (members_preorder ms)

pub same_key : (key k : List ℕ) → slice_cmp nat_cmp key k ≡ Equal → bytes_eq key k ≡ true
same_key key k e = sym (is_eq-slice_cmp key k) ∙ ap is_eq e

pub or_no : (a b : Bool) → (a || b) ≡ false → (a ≡ false) × (b ≡ false)
or_no true b e = absurd cc
or_no false b e = (refl, e)

put_step : (cid : Link) (key k : List ℕ) (t u : Tree) (ms : Members) (o : Ordering) → slice_cmp nat_cmp key k ≡ o → bytes_eq key k ≡ false
    → in_members cid (put key t ms) ≡ in_tree cid t + in_members cid ms
    → in_members cid (match_ordering o (member key t (member k u ms)) (member k t ms) (member k u (put key t ms))) ≡ in_tree cid t + in_members cid (member k u ms)
put_step cid key k t u ms Less e new h = first_member cid key t (member k u ms)
put_step cid key k t u ms Equal e new h = absurd (let same = same_key key k e in cc)
put_step cid key k t u ms Greater e new h =
    let a = first_member cid k u (put key t ms) in
    let b = first_member cid k u ms in
    omega arith

put_times : (cid : Link) (key : List ℕ) (t : Tree) (ms : Members) → has_key key ms ≡ false → in_members cid (put key t ms) ≡ in_tree cid t + in_members cid ms
put_times cid key t no_members e = first_member cid key t no_members
put_times cid key t (member k u ms) e =
    let parts = or_no (bytes_eq key k) (has_key key ms) e in
    put_step cid key k t u ms (slice_cmp nat_cmp key k) refl parts.0 (put_times cid key t ms parts.1)

-- ---- what has a tree

pub some_tree : (v t : Tree) → Some v ≡ Some t → v ≡ t
some_tree v t e = cc

pub some_items : (v t : Items) → Some v ≡ Some t → v ≡ t
some_items v t e = cc

pub some_members : (v t : Members) → Some v ≡ Some t → v ≡ t
some_members v t e = cc

abbrev no_tree : Option Tree
no_tree = None

pub none_tree : (t : Tree) → no_tree ≡ Some t → ⊥
none_tree t e = cc

abbrev no_list : Option Items
no_list = None

none_items : (t : Items) → no_list ≡ Some t → ⊥
none_items t e = cc

abbrev no_map : Option Members
no_map = None

pub none_members : (t : Members) → no_map ≡ Some t → ⊥
none_members t e = cc

same_times : (cid : Link) (v t : Tree) (n : ℕ) → Some v ≡ Some t → n ≡ in_tree cid v → n ≡ in_tree cid t
same_times cid v t n e h = h ∙ ap (in_tree cid) (some_tree v t e)

no_links : (v t : Tree) → links_of v ≡ [] → Some v ≡ Some t → links_of t ≡ []
no_links v t h e = sym (ap links_of (some_tree v t e)) ∙ h

unsigned_tree : (b : Bool) (n : ℤ) (t : Tree) → (if b then Some (tree.integer n) else None) ≡ Some t → links_of t ≡ []
unsigned_tree true n t e = no_links (tree.integer n) t refl e
unsigned_tree false n t e = absurd (none_tree t e)

-- the tree of a scalar has no links
pub atom_tree : (a : token.Atom) (t : Tree) → tree_of_atom a ≡ Some t → links_of t ≡ []
atom_tree token.none t e = no_links tree.null t refl e
atom_tree token.unit t e = no_links tree.null t refl e
atom_tree token.unit_struct t e = no_links tree.null t refl e
atom_tree (token.boolean b) t e = no_links (tree.boolean b) t refl e
atom_tree (token.integer n) t e = no_links (tree.integer n) t refl e
atom_tree (token.unsigned n) t e = unsigned_tree (nat_lt n (2 ^ 127)) (pos n) t e
atom_tree (token.character c) t e = no_links (tree.text _) t refl e
atom_tree (token.text s) t e = no_links (tree.text s) t refl e
atom_tree (token.unit_variant s) t e = absurd (none_tree t e)

pub list_has : (o : Option Items) (t : Tree) → option_map tree.list o ≡ Some t → (ts : Items) × (o ≡ Some ts) × (tree.list ts ≡ t)
list_has None t e = absurd (none_tree t e)
list_has (Some ts) t e = (ts, refl, some_tree (tree.list ts) t e)

pub map_has : (o : Option Members) (t : Tree) → option_map tree.entries o ≡ Some t → (ms : Members) × (o ≡ Some ms) × (tree.entries ms ≡ t)
map_has None t e = absurd (none_tree t e)
map_has (Some ms) t e = (ms, refl, some_tree (tree.entries ms) t e)

pub part_has : (o : Option Tree) (p : Option Items) (ts : Items) → item_before o p ≡ Some ts → (t : Tree) × (us : Items) × (o ≡ Some t) × (p ≡ Some us) × (item t us ≡ ts)
part_has None p ts e = absurd (none_items ts e)
part_has (Some t) None ts e = absurd (none_items ts e)
part_has (Some t) (Some us) ts e = (t, us, refl, refl, some_items (item t us) ts e)

new_has : (b : Bool) (us ms : Members) → (if b then None else Some us) ≡ Some ms → (b ≡ false) × (us ≡ ms)
new_has true us ms e = absurd (none_members ms e)
new_has false us ms e = (refl, some_members us ms e)

pub record Entered (k : Option (List ℕ)) (o : Option Tree) (m : Option Members) (ms : Members) : Type 0 where
  pub key : List ℕ
  pub value : Tree
  pub others : Members
  pub is_text : k ≡ Some key
  pub has_value : o ≡ Some value
  pub has_others : m ≡ Some others
  pub new : has_key key others ≡ false
  pub is : put key value others ≡ ms

pub pair_has : (k : Option (List ℕ)) (o : Option Tree) (m : Option Members) (ms : Members) → put_new k o m ≡ Some ms → Entered k o m ms
pair_has None o m ms e = absurd (none_members ms e)
pair_has (Some key) None m ms e = absurd (none_members ms e)
pair_has (Some key) (Some t) None ms e = absurd (none_members ms e)
pair_has (Some key) (Some t) (Some us) ms e =
    let h = new_has (has_key key us) (put key t us) ms e in
    record { key = key; value = t; others = us; is_text = refl; has_value = refl; has_others = refl; new = h.0; is = h.1 }

mutual
  item_times : (cid : Link) (i : Item 64) (t : Tree) → tree_of_item i ≡ Some t → times cid (links_in i) ≡ in_tree cid t
  item_times cid (atom_item a) t e = ap (times cid) (sym (atom_tree a t e))
  item_times cid (bytes_item b) t e = same_times cid (tree.bytes b) t 0 e refl
  item_times cid (some_item i) t e = item_times cid i t e
  item_times cid (variant_item name i) t e = absurd (none_tree t e)
  item_times cid (list_item is) t e =
      let h = list_has (items_of_parts is) t e in
      parts_times cid is h.0 h.1 ∙ ap (in_tree cid) h.2
  item_times cid (map_item ps) t e =
      let h = map_has (members_of_pairs ps) t e in
      pairs_times cid ps h.0 h.1 ∙ ap (in_tree cid) h.2
  item_times cid (link_item b l is) t e = same_times cid (tree.link l) t (one_if (link_eq cid l) + 0) e refl

  parts_times : (cid : Link) (is : Parts 64) (ts : Items) → items_of_parts is ≡ Some ts → times cid (parts_links is) ≡ in_items cid ts
  parts_times cid no_parts ts e = ap (in_items cid) (some_items no_items ts e)
  parts_times cid (part i is) ts e =
      let h = part_has (tree_of_item i) (items_of_parts is) ts e in
      let a = item_times cid i h.0 h.2 in
      let b = parts_times cid is h.1 h.3 in
      let whole : times cid (links_in i ++ parts_links is) ≡ in_items cid (item h.0 h.1) =
      omega (arith, times-append cid (links_in i) (parts_links is), among-times cid (preorder h.0) (items_preorder h.1), a, b) in
      whole ∙ ap (in_items cid) h.4

  pairs_times : (cid : Link) (ps : Pairs 64) (ms : Members) → members_of_pairs ps ≡ Some ms → times cid (pairs_links ps) ≡ in_members cid ms
  pairs_times cid no_pairs ms e = ap (in_members cid) (some_members no_members ms e)
  pairs_times cid (pair k v ps) ms e =
      let h = pair_has (key_text k) (tree_of_item v) (members_of_pairs ps) ms e in
      let a = item_times cid v h.value h.has_value in
      let b = pairs_times cid ps h.others h.has_others in
      let whole : times cid (links_in v ++ pairs_links ps) ≡ in_members cid (put h.key h.value h.others) =
      omega (arith, times-append cid (links_in v) (pairs_links ps), put_times cid h.key h.value h.others h.new, a, b) in
      whole ∙ ap (in_members cid) h.is

-- each link stands in the item as often as in its tree
pub same_links : (i : Item 64) (t : Tree) → tree_of_item i ≡ Some t → SameLinks i t
same_links i t e = λ cid. item_times cid i t e
