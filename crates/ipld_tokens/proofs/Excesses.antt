-- Where the tokens of a tree go beyond limits, by how deep it nests and how many values it has.
use Rattle.std.proofs.Common.{◌≡◌, ℕ, suc, ◌+◌, ◌≤◌, max, Bool, true, false, List, [], ◌∷◌, ◌++◌, length, Option, Some, None, Ordering, Less, Equal, Greater, nat_cmp, refl, sym, ap, subst, ◌∙◌, bytes_eq, arith}
use Rattle.std.specs.Prelude.{if◌then◌else◌, ℤ, pos, ◌^◌, nat_lt, encode_utf8}
use Rattle.std.specs.Ordering.{match_ordering}
use Rattle.std.specs.Cmp.Lexicographic.{slice_cmp}
use Rattle.std.proofs.lemmas.Bool.{ltb-true, ltb-false}
use Rattle.std.proofs.lemmas.List.{length-append}
use Rattle.ipld_cid.specs.Cid.{Link}
use Rattle.ipld_tree.specs.Tree.{Tree, Items, no_items, item, Members, no_members, member}
use Rattle.ipld_tree.specs.Tree as tree
use Rattle.ipld_tree.specs.Put.{put}
use Rattle.ipld_tree.specs.Walk.{preorder, items_preorder, members_preorder, nest, items_nest, members_nest}
use Rattle.ipld_tree.specs.Limits.{Within}
use Rattle.ipld_tree.specs.declared.limits.Limits.{Limits}
use Rattle.ipld_tokens.specs.Token as token
use Rattle.ipld_tokens.specs.Token.{TokenModel, seq_end, map_end}
use Rattle.ipld_tokens.specs.Item.{Item, atom_item, bytes_item, some_item, variant_item, list_item, map_item, link_item, Parts, no_parts, part, Pairs, no_pairs, pair, tokens_of, parts_tokens, pairs_tokens}
use Rattle.ipld_tokens.specs.ItemTree.{key_text, has_key, tree_of_atom, tree_of_item, items_of_parts, members_of_pairs}
use Rattle.ipld_tokens.specs.ConsumerMachine.{run}
use Rattle.ipld_tokens.specs.Excess.{Excess, too_deep, too_many, OpenKind, in_list, in_key, in_value, Position, open_at, wanted, start, completed, after, excess_of_value, excess_of_container, or_later, excess}
use Rattle.ipld_tokens.proofs.Consuming.{run_append}
use Rattle.ipld_tokens.proofs.ItemLinks.{some_tree, some_items, some_members, none_tree, list_has, map_has, part_has, pair_has, same_key, or_no}
use Rattle.ipld_tokens.proofs.TreeReading.{none_text}

-- ---- how many values a tree has

abbrev pub count : Tree → ℕ
count t = length (preorder t)

abbrev items_count : Items → ℕ
items_count ts = length (items_preorder ts)

abbrev members_count : Members → ℕ
members_count ms = length (members_preorder ms)

first_item : (t : Tree) (ts : Items) → items_count (item t ts) ≡ count t + items_count ts
first_item t ts = length-append (preorder t) (items_preorder ts)

first_member : (key : List ℕ) (t : Tree) (ms : Members) → members_count (member key t ms) ≡ count t + members_count ms
first_member key t ms = length-append (preorder t) (members_preorder ms)

-- a map with one more key
record Measures (t : Tree) (ms ns : Members) : Type 0 where
  pub values : members_count ns ≡ count t + members_count ms
  pub nested : members_nest ns ≡ max (nest t) (members_nest ms)

put_step : (key k : List ℕ) (t u : Tree) (ms : Members) (o : Ordering) → slice_cmp nat_cmp key k ≡ o → bytes_eq key k ≡ false → Measures t ms (put key t ms)
    → Measures t (member k u ms) (match_ordering o (member key t (member k u ms)) (member k t ms) (member k u (put key t ms)))
put_step key k t u ms Less e new h = record { values = first_member key t (member k u ms); nested = refl }
put_step key k t u ms Equal e new h = absurd (let same = same_key key k e in cc)
put_step key k t u ms Greater e new h =
    let a = first_member k u (put key t ms) in
    let b = first_member k u ms in
    record { values = omega (arith, a, b, h.values); nested = omega (arith, h.nested) }

measures : (key : List ℕ) (t : Tree) (ms : Members) → has_key key ms ≡ false → Measures t ms (put key t ms)
measures key t no_members e = record { values = first_member key t no_members; nested = refl }
measures key t (member k u ms) e =
    let parts = or_no (bytes_eq key k) (has_key key ms) e in
    put_step key k t u ms (slice_cmp nat_cmp key k) refl parts.0 (measures key t ms parts.1)

-- ---- positions

abbrev pub over : Position → List TokenModel → Position
over = run after

or_later-assoc : (a b c : Option Excess) → or_later a (or_later b c) ≡ or_later (or_later a b) c
or_later-assoc None b c = refl
or_later-assoc (Some e) b c = refl

pub none_first : (a b : Option Excess) → or_later a b ≡ None → (a ≡ None) × (b ≡ None)
none_first None b e = (refl, e)
none_first (Some x) b e = absurd cc

-- ---- where the tokens of an item lead

-- a tree that holds no other
record Leaf (t : Tree) : Type 0 where
  pub values : count t ≡ 1
  pub nested : nest t ≡ 0

leaf_is : (v t : Tree) → Leaf v → Some v ≡ Some t → Leaf t
leaf_is v t h e = subst Leaf (some_tree v t e) h

unsigned_leaf : (b : Bool) (n : ℤ) (t : Tree) → (if b then Some (tree.integer n) else None) ≡ Some t → Leaf t
unsigned_leaf true n t e = leaf_is (tree.integer n) t (record { values = refl; nested = refl }) e
unsigned_leaf false n t e = absurd (none_tree t e)

atom_leaf : (a : token.Atom) (t : Tree) → tree_of_atom a ≡ Some t → Leaf t
atom_leaf token.none t e = leaf_is tree.null t (record { values = refl; nested = refl }) e
atom_leaf token.unit t e = leaf_is tree.null t (record { values = refl; nested = refl }) e
atom_leaf token.unit_struct t e = leaf_is tree.null t (record { values = refl; nested = refl }) e
atom_leaf (token.boolean b) t e = leaf_is (tree.boolean b) t (record { values = refl; nested = refl }) e
atom_leaf (token.integer n) t e = leaf_is (tree.integer n) t (record { values = refl; nested = refl }) e
atom_leaf (token.unsigned n) t e = unsigned_leaf (nat_lt n (2 ^ 127)) (pos n) t e
atom_leaf (token.character c) t e = leaf_is (tree.text (encode_utf8 c)) t (record { values = refl; nested = refl }) e
atom_leaf (token.text s) t e = leaf_is (tree.text s) t (record { values = refl; nested = refl }) e
atom_leaf (token.unit_variant s) t e = absurd (none_tree t e)

bytes_leaf : (b : List ℕ) (t : Tree) → Some (tree.bytes b) ≡ Some t → Leaf t
bytes_leaf b t e = leaf_is (tree.bytes b) t (record { values = refl; nested = refl }) e

link_leaf : (cid : Link) (t : Tree) → Some (tree.link cid) ≡ Some t → Leaf t
link_leaf cid t e = leaf_is (tree.link cid) t (record { values = refl; nested = refl }) e

one_more : (os : List OpenKind) (n : ℕ) (t : Tree) → Leaf t → open_at (completed os) (suc n) ≡ open_at (completed os) (n + count t)
one_more os n t leaf = ap (open_at (completed os)) (omega (arith, leaf.values))

over_key : (k : Item 64) (key : List ℕ) (os : List OpenKind) (n : ℕ) → key_text k ≡ Some key → over (open_at (in_key ∷ os) n) (tokens_of k) ≡ open_at (in_value ∷ os) n
over_key (atom_item (token.text s)) key os n e = refl
over_key (atom_item (token.character c)) key os n e = refl
over_key k key os n e = absurd (none_text key e)

-- where a value may come, it comes as where it has to
over_part : (i : Item 64) (os : List OpenKind) (n : ℕ) → over (open_at (in_list ∷ os) n) (tokens_of i) ≡ over (wanted (in_list ∷ os) n) (tokens_of i)
over_part (atom_item a) os n = refl
over_part (bytes_item b) os n = refl
over_part (some_item i) os n = refl
over_part (variant_item name i) os n = refl
over_part (list_item is) os n = refl
over_part (map_item ps) os n = refl
over_part (link_item b cid is) os n = refl

over_value : (i : Item 64) (os : List OpenKind) (n : ℕ) → over (open_at (in_value ∷ os) n) (tokens_of i) ≡ over (wanted (in_value ∷ os) n) (tokens_of i)
over_value (atom_item a) os n = refl
over_value (bytes_item b) os n = refl
over_value (some_item i) os n = refl
over_value (variant_item name i) os n = refl
over_value (list_item is) os n = refl
over_value (map_item ps) os n = refl
over_value (link_item b cid is) os n = refl

mutual
  -- after an item its tree is complete, and all its values have begun
  pub over_item : (i : Item 64) (t : Tree) → tree_of_item i ≡ Some t → (os : List OpenKind) (n : ℕ) → over (wanted os n) (tokens_of i) ≡ open_at (completed os) (n + count t)
  over_item (atom_item a) t e os n = one_more os n t (atom_leaf a t e)
  over_item (bytes_item b) t e os n = one_more os n t (bytes_leaf b t e)
  over_item (some_item i) t e os n = over_item i t e os n
  over_item (variant_item name i) t e os n = absurd (none_tree t e)
  over_item (list_item is) t e os n =
      let h = list_has (items_of_parts is) t e in
      run_append after (open_at (in_list ∷ os) (suc n)) (parts_tokens is) (seq_end ∷ [])
      ∙ ap (λ p. over p (seq_end ∷ [])) (over_parts is h.0 h.1 os (suc n))
      ∙ ap (open_at (completed os)) (let c : suc (items_count h.0) ≡ count t = ap count h.2 in omega (arith, c))
  over_item (map_item ps) t e os n =
      let h = map_has (members_of_pairs ps) t e in
      run_append after (open_at (in_key ∷ os) (suc n)) (pairs_tokens ps) (map_end ∷ [])
      ∙ ap (λ p. over p (map_end ∷ [])) (over_pairs ps h.0 h.1 os (suc n))
      ∙ ap (open_at (completed os)) (let c : suc (members_count h.0) ≡ count t = ap count h.2 in omega (arith, c))
  over_item (link_item b cid is) t e os n = one_more os n t (link_leaf cid t e)

  over_parts : (is : Parts 64) (ts : Items) → items_of_parts is ≡ Some ts → (os : List OpenKind) (n : ℕ)
      → over (open_at (in_list ∷ os) n) (parts_tokens is) ≡ open_at (in_list ∷ os) (n + items_count ts)
  over_parts no_parts ts e os n = ap (open_at (in_list ∷ os)) (let c : 0 ≡ items_count ts = ap items_count (some_items no_items ts e) in omega (arith, c))
  over_parts (part i is) ts e os n =
      let h = part_has (tree_of_item i) (items_of_parts is) ts e in
      run_append after (open_at (in_list ∷ os) n) (tokens_of i) (parts_tokens is)
      ∙ ap (λ p. over p (parts_tokens is)) (over_part i os n ∙ over_item i h.0 h.2 (in_list ∷ os) n)
      ∙ over_parts is h.1 h.3 os (n + count h.0)
      ∙ ap (open_at (in_list ∷ os)) (let c : items_count (item h.0 h.1) ≡ items_count ts = ap items_count h.4 in omega (arith, c, first_item h.0 h.1))

  over_pairs : (ps : Pairs 64) (ms : Members) → members_of_pairs ps ≡ Some ms → (os : List OpenKind) (n : ℕ)
      → over (open_at (in_key ∷ os) n) (pairs_tokens ps) ≡ open_at (in_key ∷ os) (n + members_count ms)
  over_pairs no_pairs ms e os n = ap (open_at (in_key ∷ os)) (let c : 0 ≡ members_count ms = ap members_count (some_members no_members ms e) in omega (arith, c))
  over_pairs (pair k v ps) ms e os n =
      let h = pair_has (key_text k) (tree_of_item v) (members_of_pairs ps) ms e in
      run_append after (open_at (in_key ∷ os) n) (tokens_of k) (tokens_of v ++ pairs_tokens ps)
      ∙ ap (λ p. over p (tokens_of v ++ pairs_tokens ps)) (over_key k h.key os n h.is_text)
      ∙ run_append after (open_at (in_value ∷ os) n) (tokens_of v) (pairs_tokens ps)
      ∙ ap (λ p. over p (pairs_tokens ps)) (over_value v os n ∙ over_item v h.value h.has_value (in_value ∷ os) n)
      ∙ over_pairs ps h.others h.has_others os (n + count h.value)
      ∙ ap (open_at (in_key ∷ os))
      (let c : members_count (put h.key h.value h.others) ≡ members_count ms = ap members_count h.is in
      let m = measures h.key h.value h.others h.new in
      omega (arith, c, m.values))

module _ (limits : Limits) where
  pub excess-append : (p : Position) (a b : List TokenModel) → excess limits p (a ++ b) ≡ or_later (excess limits p a) (excess limits (over p a) b)
  excess-append p [] b = refl
  excess-append p (t ∷ a) b = ap (or_later _) (excess-append (after p t) a b) ∙ or_later-assoc _ (excess limits (after p t) a) (excess limits (over (after p t) a) b)

  -- none in two parts
  pub none_both : (p : Position) (a b : List TokenModel) → excess limits p (a ++ b) ≡ None → (excess limits p a ≡ None) × (excess limits (over p a) b ≡ None)
  none_both p a b e = none_first (excess limits p a) (excess limits (over p a) b) (sym (excess-append p a b) ∙ e)

  pub none_of_both : (p : Position) (a b : List TokenModel) → excess limits p a ≡ None → excess limits (over p a) b ≡ None → excess limits p (a ++ b) ≡ None
  none_of_both p a b e f = excess-append p a b ∙ ap (λ o. or_later o (excess limits (over p a) b)) e ∙ f

  -- ---- one value

  value_fits_if : (n : ℕ) (b : Bool) → nat_lt n limits.values ≡ b → suc n ≤ limits.values → (if b then None else Some too_many) ≡ None
  value_fits_if n true e h = refl
  value_fits_if n false e h = absurd (omega (arith, ltb-false n limits.values e, h))

  value_fits : (n : ℕ) → suc n ≤ limits.values → excess_of_value limits n ≡ None
  value_fits n h = value_fits_if n (nat_lt n limits.values) refl h

  fits_value_if : (n : ℕ) (b : Bool) → nat_lt n limits.values ≡ b → (if b then None else Some too_many) ≡ None → suc n ≤ limits.values
  fits_value_if n true e h = omega (arith, ltb-true n limits.values e)
  fits_value_if n false e h = absurd cc

  fits_value : (n : ℕ) → excess_of_value limits n ≡ None → suc n ≤ limits.values
  fits_value n h = fits_value_if n (nat_lt n limits.values) refl h

  container_fits_if : (os : List OpenKind) (n : ℕ) (b : Bool) → nat_lt (length os) limits.levels ≡ b → suc (length os) ≤ limits.levels → suc n ≤ limits.values
      → (if b then excess_of_value limits n else Some too_deep) ≡ None
  container_fits_if os n true e d h = value_fits n h
  container_fits_if os n false e d h = absurd (omega (arith, ltb-false (length os) limits.levels e, d))

  container_fits : (os : List OpenKind) (n : ℕ) → suc (length os) ≤ limits.levels → suc n ≤ limits.values → excess_of_container limits os n ≡ None
  container_fits os n d h = container_fits_if os n (nat_lt (length os) limits.levels) refl d h

  fits_container_if : (os : List OpenKind) (n : ℕ) (b : Bool) → nat_lt (length os) limits.levels ≡ b → (if b then excess_of_value limits n else Some too_deep) ≡ None
      → (suc (length os) ≤ limits.levels) × (suc n ≤ limits.values)
  fits_container_if os n true e h = (omega (arith, ltb-true (length os) limits.levels e), fits_value n h)
  fits_container_if os n false e h = absurd cc

  fits_container : (os : List OpenKind) (n : ℕ) → excess_of_container limits os n ≡ None → (suc (length os) ≤ limits.levels) × (suc n ≤ limits.values)
  fits_container os n h = fits_container_if os n (nat_lt (length os) limits.levels) refl h

  -- ---- items

  both_none : (a b : Option Excess) → a ≡ None → b ≡ None → or_later a b ≡ None
  both_none None b e f = f
  both_none (Some x) b e f = absurd cc

  key_excess : (k : Item 64) (key : List ℕ) (os : List OpenKind) (n : ℕ) → key_text k ≡ Some key → excess limits (open_at (in_key ∷ os) n) (tokens_of k) ≡ None
  key_excess (atom_item (token.text s)) key os n e = refl
  key_excess (atom_item (token.character c)) key os n e = refl
  key_excess k key os n e = absurd (none_text key e)

  part_excess : (i : Item 64) (os : List OpenKind) (n : ℕ) → excess limits (open_at (in_list ∷ os) n) (tokens_of i) ≡ excess limits (wanted (in_list ∷ os) n) (tokens_of i)
  part_excess (atom_item a) os n = refl
  part_excess (bytes_item b) os n = refl
  part_excess (some_item i) os n = refl
  part_excess (variant_item name i) os n = refl
  part_excess (list_item is) os n = refl
  part_excess (map_item ps) os n = refl
  part_excess (link_item b cid is) os n = refl

  value_excess : (i : Item 64) (os : List OpenKind) (n : ℕ) → excess limits (open_at (in_value ∷ os) n) (tokens_of i) ≡ excess limits (wanted (in_value ∷ os) n) (tokens_of i)
  value_excess (atom_item a) os n = refl
  value_excess (bytes_item b) os n = refl
  value_excess (some_item i) os n = refl
  value_excess (variant_item name i) os n = refl
  value_excess (list_item is) os n = refl
  value_excess (map_item ps) os n = refl
  value_excess (link_item b cid is) os n = refl

  -- ---- within the limits no token goes beyond them

  leaf_within : (n : ℕ) (t : Tree) → Leaf t → n + count t ≤ limits.values → or_later (excess_of_value limits n) None ≡ None
  leaf_within n t leaf h = both_none (excess_of_value limits n) None (value_fits n (omega (arith, leaf.values, h))) refl

  mutual
    within_item : (i : Item 64) (t : Tree) → tree_of_item i ≡ Some t → (os : List OpenKind) (n : ℕ) → nest t + length os ≤ limits.levels → n + count t ≤ limits.values
        → excess limits (wanted os n) (tokens_of i) ≡ None
    within_item (atom_item a) t e os n d h = leaf_within n t (atom_leaf a t e) h
    within_item (bytes_item b) t e os n d h = leaf_within n t (bytes_leaf b t e) h
    within_item (some_item i) t e os n d h = within_item i t e os n d h
    within_item (variant_item name i) t e os n d h = absurd (none_tree t e)
    within_item (list_item is) t e os n d h =
        let l = list_has (items_of_parts is) t e in
        let c : suc (items_count l.0) ≡ count t = ap count l.2 in
        let k : suc (items_nest l.0) ≡ nest t = ap nest l.2 in
        both_none (excess_of_container limits os n) (excess limits (open_at (in_list ∷ os) (suc n)) (parts_tokens is ++ seq_end ∷ []))
        (container_fits os n (omega (arith, k, d)) (omega (arith, c, h)))
        (none_of_both (open_at (in_list ∷ os) (suc n)) (parts_tokens is) (seq_end ∷ [])
        (within_parts is l.0 l.1 os (suc n) (omega (arith, k, d)) (omega (arith, c, h)))
        (ap (λ p. excess limits p (seq_end ∷ [])) (over_parts is l.0 l.1 os (suc n))))
    within_item (map_item ps) t e os n d h =
        let l = map_has (members_of_pairs ps) t e in
        let c : suc (members_count l.0) ≡ count t = ap count l.2 in
        let k : suc (members_nest l.0) ≡ nest t = ap nest l.2 in
        both_none (excess_of_container limits os n) (excess limits (open_at (in_key ∷ os) (suc n)) (pairs_tokens ps ++ map_end ∷ []))
        (container_fits os n (omega (arith, k, d)) (omega (arith, c, h)))
        (none_of_both (open_at (in_key ∷ os) (suc n)) (pairs_tokens ps) (map_end ∷ [])
        (within_pairs ps l.0 l.1 os (suc n) (omega (arith, k, d)) (omega (arith, c, h)))
        (ap (λ p. excess limits p (map_end ∷ [])) (over_pairs ps l.0 l.1 os (suc n))))
    within_item (link_item b cid is) t e os n d h = leaf_within n t (link_leaf cid t e) h

    within_parts : (is : Parts 64) (ts : Items) → items_of_parts is ≡ Some ts → (os : List OpenKind) (n : ℕ) → items_nest ts + suc (length os) ≤ limits.levels
        → n + items_count ts ≤ limits.values → excess limits (open_at (in_list ∷ os) n) (parts_tokens is) ≡ None
    within_parts no_parts ts e os n d h = refl
    within_parts (part i is) ts e os n d h =
        let l = part_has (tree_of_item i) (items_of_parts is) ts e in
        let c : items_count (item l.0 l.1) ≡ items_count ts = ap items_count l.4 in
        let k : max (nest l.0) (items_nest l.1) ≡ items_nest ts = ap items_nest l.4 in
        let f = first_item l.0 l.1 in
        none_of_both (open_at (in_list ∷ os) n) (tokens_of i) (parts_tokens is)
        (part_excess i os n ∙ within_item i l.0 l.2 (in_list ∷ os) n (omega (arith, k, d)) (omega (arith, c, f, h)))
        (ap (λ p. excess limits p (parts_tokens is)) (over_part i os n ∙ over_item i l.0 l.2 (in_list ∷ os) n)
        ∙ within_parts is l.1 l.3 os (n + count l.0) (omega (arith, k, d)) (omega (arith, c, f, h)))

    within_pairs : (ps : Pairs 64) (ms : Members) → members_of_pairs ps ≡ Some ms → (os : List OpenKind) (n : ℕ) → members_nest ms + suc (length os) ≤ limits.levels
        → n + members_count ms ≤ limits.values → excess limits (open_at (in_key ∷ os) n) (pairs_tokens ps) ≡ None
    within_pairs no_pairs ms e os n d h = refl
    within_pairs (pair key v ps) ms e os n d h =
        let l = pair_has (key_text key) (tree_of_item v) (members_of_pairs ps) ms e in
        let m = measures l.key l.value l.others l.new in
        let c : members_count (put l.key l.value l.others) ≡ members_count ms = ap members_count l.is in
        let k : members_nest (put l.key l.value l.others) ≡ members_nest ms = ap members_nest l.is in
        none_of_both (open_at (in_key ∷ os) n) (tokens_of key) (tokens_of v ++ pairs_tokens ps) (key_excess key l.key os n l.is_text)
        (ap (λ p. excess limits p (tokens_of v ++ pairs_tokens ps)) (over_key key l.key os n l.is_text)
        ∙ none_of_both (open_at (in_value ∷ os) n) (tokens_of v) (pairs_tokens ps)
        (value_excess v os n ∙ within_item v l.value l.has_value (in_value ∷ os) n (omega (arith, k, m.nested, d)) (omega (arith, c, m.values, h)))
        (ap (λ p. excess limits p (pairs_tokens ps)) (over_value v os n ∙ over_item v l.value l.has_value (in_value ∷ os) n)
        ∙ within_pairs ps l.others l.has_others os (n + count l.value) (omega (arith, k, m.nested, d)) (omega (arith, c, m.values, h))))

  -- ---- where no token goes beyond the limits, the tree is within them

  leaf_only : (os : List OpenKind) (n : ℕ) (t : Tree) → Leaf t → length os ≤ limits.levels → or_later (excess_of_value limits n) None ≡ None
      → (nest t + length os ≤ limits.levels) × (n + count t ≤ limits.values)
  leaf_only os n t leaf d h =
      let f = fits_value n (none_first (excess_of_value limits n) None h).0 in
      (omega (arith, leaf.nested, d), omega (arith, leaf.values, f))

  mutual
    only_item : (i : Item 64) (t : Tree) → tree_of_item i ≡ Some t → (os : List OpenKind) (n : ℕ) → length os ≤ limits.levels
        → excess limits (wanted os n) (tokens_of i) ≡ None → (nest t + length os ≤ limits.levels) × (n + count t ≤ limits.values)
    only_item (atom_item a) t e os n d h = leaf_only os n t (atom_leaf a t e) d h
    only_item (bytes_item b) t e os n d h = leaf_only os n t (bytes_leaf b t e) d h
    only_item (some_item i) t e os n d h = only_item i t e os n d h
    only_item (variant_item name i) t e os n d h = absurd (none_tree t e)
    only_item (list_item is) t e os n d h =
        let l = list_has (items_of_parts is) t e in
        let c : suc (items_count l.0) ≡ count t = ap count l.2 in
        let k : suc (items_nest l.0) ≡ nest t = ap nest l.2 in
        let p = none_first (excess_of_container limits os n) (excess limits (open_at (in_list ∷ os) (suc n)) (parts_tokens is ++ seq_end ∷ [])) h in
        let f = fits_container os n p.0 in
        let q = none_both (open_at (in_list ∷ os) (suc n)) (parts_tokens is) (seq_end ∷ []) p.1 in
        let r = only_parts is l.0 l.1 os (suc n) f.0 f.1 q.0 in
        (omega (arith, k, r.0), omega (arith, c, r.1))
    only_item (map_item ps) t e os n d h =
        let l = map_has (members_of_pairs ps) t e in
        let c : suc (members_count l.0) ≡ count t = ap count l.2 in
        let k : suc (members_nest l.0) ≡ nest t = ap nest l.2 in
        let p = none_first (excess_of_container limits os n) (excess limits (open_at (in_key ∷ os) (suc n)) (pairs_tokens ps ++ map_end ∷ [])) h in
        let f = fits_container os n p.0 in
        let q = none_both (open_at (in_key ∷ os) (suc n)) (pairs_tokens ps) (map_end ∷ []) p.1 in
        let r = only_pairs ps l.0 l.1 os (suc n) f.0 f.1 q.0 in
        (omega (arith, k, r.0), omega (arith, c, r.1))
    only_item (link_item b cid is) t e os n d h = leaf_only os n t (link_leaf cid t e) d h

    only_parts : (is : Parts 64) (ts : Items) → items_of_parts is ≡ Some ts → (os : List OpenKind) (n : ℕ) → suc (length os) ≤ limits.levels → n ≤ limits.values
        → excess limits (open_at (in_list ∷ os) n) (parts_tokens is) ≡ None → (items_nest ts + suc (length os) ≤ limits.levels) × (n + items_count ts ≤ limits.values)
    only_parts no_parts ts e os n d v h =
        let c : 0 ≡ items_count ts = ap items_count (some_items no_items ts e) in
        let k : 0 ≡ items_nest ts = ap items_nest (some_items no_items ts e) in
        (omega (arith, k, d), omega (arith, c, v))
    only_parts (part i is) ts e os n d v h =
        let l = part_has (tree_of_item i) (items_of_parts is) ts e in
        let c : items_count (item l.0 l.1) ≡ items_count ts = ap items_count l.4 in
        let k : max (nest l.0) (items_nest l.1) ≡ items_nest ts = ap items_nest l.4 in
        let f = first_item l.0 l.1 in
        let q = none_both (open_at (in_list ∷ os) n) (tokens_of i) (parts_tokens is) h in
        let a = only_item i l.0 l.2 (in_list ∷ os) n d (sym (part_excess i os n) ∙ q.0) in
        let b = only_parts is l.1 l.3 os (n + count l.0) d a.1
        (sym (ap (λ p. excess limits p (parts_tokens is)) (over_part i os n ∙ over_item i l.0 l.2 (in_list ∷ os) n)) ∙ q.1) in
        let x : nest l.0 + suc (length os) ≤ limits.levels = a.0 in
        (omega (arith, k, x, b.0), omega (arith, c, f, b.1))

    only_pairs : (ps : Pairs 64) (ms : Members) → members_of_pairs ps ≡ Some ms → (os : List OpenKind) (n : ℕ) → suc (length os) ≤ limits.levels → n ≤ limits.values
        → excess limits (open_at (in_key ∷ os) n) (pairs_tokens ps) ≡ None → (members_nest ms + suc (length os) ≤ limits.levels) × (n + members_count ms ≤ limits.values)
    only_pairs no_pairs ms e os n d v h =
        let c : 0 ≡ members_count ms = ap members_count (some_members no_members ms e) in
        let k : 0 ≡ members_nest ms = ap members_nest (some_members no_members ms e) in
        (omega (arith, k, d), omega (arith, c, v))
    only_pairs (pair key value ps) ms e os n d v h =
        let l = pair_has (key_text key) (tree_of_item value) (members_of_pairs ps) ms e in
        let m = measures l.key l.value l.others l.new in
        let c : members_count (put l.key l.value l.others) ≡ members_count ms = ap members_count l.is in
        let k : members_nest (put l.key l.value l.others) ≡ members_nest ms = ap members_nest l.is in
        let p = none_both (open_at (in_key ∷ os) n) (tokens_of key) (tokens_of value ++ pairs_tokens ps) h in
        let q = none_both (open_at (in_value ∷ os) n) (tokens_of value) (pairs_tokens ps)
        (sym (ap (λ p. excess limits p (tokens_of value ++ pairs_tokens ps)) (over_key key l.key os n l.is_text)) ∙ p.1) in
        let a = only_item value l.value l.has_value (in_value ∷ os) n d (sym (value_excess value os n) ∙ q.0) in
        let b = only_pairs ps l.others l.has_others os (n + count l.value) d a.1
        (sym (ap (λ p. excess limits p (pairs_tokens ps)) (over_value value os n ∙ over_item value l.value l.has_value (in_value ∷ os) n)) ∙ q.1) in
        let x : nest l.value + suc (length os) ≤ limits.levels = a.0 in
        (omega (arith, k, m.nested, x, b.0), omega (arith, c, m.values, b.1))

  -- ---- a whole item

  pub none_within : (i : Item 64) (t : Tree) → tree_of_item i ≡ Some t → Within limits t → excess limits start (tokens_of i) ≡ None
  none_within i t e w = within_item i t e [] 0 (omega (arith, w.levels)) (omega (arith, w.values))

  pub within_none : (i : Item 64) (t : Tree) → tree_of_item i ≡ Some t → excess limits start (tokens_of i) ≡ None → Within limits t
  within_none i t e h = let r = only_item i t e [] 0 (omega arith) h in record { levels = omega (arith, r.0); values = omega (arith, r.1) }
