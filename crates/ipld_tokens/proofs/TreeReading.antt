-- What the machine reads: the tree of the item that the tokens begin with.
use Rattle.std.proofs.Common.{◌≡◌, ℕ, Bool, true, false, List, [], ◌∷◌, ◌++◌, Option, Some, None, refl, sym, ap, ◌∙◌}
use Rattle.std.specs.Prelude.{if◌then◌else◌, encode_utf8}
use Rattle.ipld_cid.specs.Cid.{Link}
use Rattle.ipld_cid.specs.Bytes.{IsCid, read_cid}
use Rattle.ipld_tree.specs.Tree.{Tree, Items, no_items, item, Members, no_members}
use Rattle.ipld_tree.specs.Tree as tree
use Rattle.ipld_tree.specs.Put.{put}
use Rattle.ipld_tokens.specs.LinkBytes.{read_link}
use Rattle.ipld_tokens.specs.Token.{TokenModel, character, text, seq_end, map_end}
use Rattle.ipld_tokens.specs.Item.{Item, atom_item, bytes_item, some_item, variant_item, list_item, map_item, link_item, Parts, no_parts, part, Pairs, no_pairs, pair, tokens_of, parts_tokens, pairs_tokens}
use Rattle.ipld_tokens.specs.ItemTree.{key_text, has_key, put_new, tree_of_item, items_of_parts, members_of_pairs}
use Rattle.ipld_tokens.specs.ReadMachine.{Container, in_list, in_key, in_value, ReadState, open_at, wanted, and_item, if_new, completed, completed_if, after_link, step, run}
use Rattle.ipld_tokens.proofs.Consuming as consuming
use Rattle.ipld_tokens.proofs.Putting.{put_new_either}
use Rattle.ipld_tokens.proofs.ItemLinks.{some_tree, some_items, some_members, none_tree, none_members, list_has, map_has, part_has}

pub run_append : (s : ReadState) (p q : List TokenModel) → run s (p ++ q) ≡ run (run s p) q
run_append = consuming.run_append step

-- ---- lists

abbrev join : Items → Items → Items
join no_items ts = ts
join (item u us) ts = item u (join us ts)

join_none : (us : Items) → join us no_items ≡ us
join_none no_items = refl
join_none (item u us) = ap (item u) (join_none us)

join_more : (us : Items) (t : Tree) (ts : Items) → join (and_item us t) ts ≡ join us (item t ts)
join_more no_items t ts = refl
join_more (item u us) t ts = ap (item u) (join_more us t ts)

-- ---- maps

-- the members, when the pairs are put into them one after another
abbrev pub onto : Option Members → Pairs 64 → Option Members
onto m no_pairs = m
onto m (pair key value ps) = onto (put_new (key_text key) (tree_of_item value) m) ps

onto_put : (ps : Pairs 64) (a : Option (List ℕ)) (t : Option Tree) (m : Option Members) → onto (put_new a t m) ps ≡ put_new a t (onto m ps)
onto_put no_pairs a t m = refl
onto_put (pair key value ps) a t m =
    ap (λ x. onto x ps) (put_new_either (key_text key) a (tree_of_item value) t m) ∙ onto_put ps a t (put_new (key_text key) (tree_of_item value) m)

pub onto_all : (ps : Pairs 64) → onto (Some no_members) ps ≡ members_of_pairs ps
onto_all no_pairs = refl
onto_all (pair key value ps) =
    onto_put ps (key_text key) (tree_of_item value) (Some no_members) ∙ ap (put_new (key_text key) (tree_of_item value)) (onto_all ps)

no_put : (a : Option (List ℕ)) (t : Option Tree) → put_new a t None ≡ None
no_put None t = refl
no_put (Some a) None = refl
no_put (Some a) (Some t) = refl

onto_none : (ps : Pairs 64) (ns : Members) → onto None ps ≡ Some ns → ⊥
onto_none no_pairs ns e = none_members ns e
onto_none (pair key value ps) ns e = onto_none ps ns (ap (λ x. onto x ps) (sym (no_put (key_text key) (tree_of_item value))) ∙ e)

-- a pair is put first
record PutFirst (k : Option (List ℕ)) (o : Option Tree) (ms : Members) (ps : Pairs 64) (ns : Members) : Type 0 where
  pub key : List ℕ
  pub value : Tree
  pub is_text : k ≡ Some key
  pub has_value : o ≡ Some value
  pub new : has_key key ms ≡ false
  pub goes : onto (Some (put key value ms)) ps ≡ Some ns

put_if : (b : Bool) (key : List ℕ) (t : Tree) (ms : Members) (ps : Pairs 64) (ns : Members) → has_key key ms ≡ b
    → onto (if b then None else Some (put key t ms)) ps ≡ Some ns → PutFirst (Some key) (Some t) ms ps ns
put_if true key t ms ps ns is e = absurd (onto_none ps ns e)
put_if false key t ms ps ns is e = record { key = key; value = t; is_text = refl; has_value = refl; new = is; goes = e }

put_first : (k : Option (List ℕ)) (o : Option Tree) (ms : Members) (ps : Pairs 64) (ns : Members) → onto (put_new k o (Some ms)) ps ≡ Some ns → PutFirst k o ms ps ns
put_first None o ms ps ns e = absurd (onto_none ps ns e)
put_first (Some key) None ms ps ns e = absurd (onto_none ps ns e)
put_first (Some key) (Some t) ms ps ns e = put_if (has_key key ms) key t ms ps ns refl e

abbrev pub no_text : Option (List ℕ)
no_text = None

pub none_text : (key : List ℕ) → no_text ≡ Some key → ⊥
none_text key e = cc

some_text : (k key : List ℕ) → Some k ≡ Some key → k ≡ key
some_text k key e = cc

pub over_key : (k : Item 64) (key : List ℕ) (ms : Members) (ls : List Container) → key_text k ≡ Some key
    → run (open_at (in_key ms ∷ ls)) (tokens_of k) ≡ open_at (in_value ms key ∷ ls)
over_key (atom_item (text s)) key ms ls e = ap (λ x. open_at (in_value ms x ∷ ls)) (some_text s key e)
over_key (atom_item (character c)) key ms ls e = ap (λ x. open_at (in_value ms x ∷ ls)) (some_text (encode_utf8 c) key e)
over_key k key ms ls e = absurd (none_text key e)

-- ---- where a value may come, it comes as where it has to

begins_part : (i : Item 64) (us : Items) (ls : List Container) → run (open_at (in_list us ∷ ls)) (tokens_of i) ≡ run (wanted (in_list us ∷ ls)) (tokens_of i)
begins_part (atom_item a) us ls = refl
begins_part (bytes_item b) us ls = refl
begins_part (some_item i) us ls = refl
begins_part (variant_item name i) us ls = refl
begins_part (list_item is) us ls = refl
begins_part (map_item ps) us ls = refl
begins_part (link_item b cid is) us ls = refl

pub begins_value : (i : Item 64) (ms : Members) (key : List ℕ) (ls : List Container)
    → run (open_at (in_value ms key ∷ ls)) (tokens_of i) ≡ run (wanted (in_value ms key ∷ ls)) (tokens_of i)
begins_value (atom_item a) ms key ls = refl
begins_value (bytes_item b) ms key ls = refl
begins_value (some_item i) ms key ls = refl
begins_value (variant_item name i) ms key ls = refl
begins_value (list_item is) ms key ls = refl
begins_value (map_item ps) ms key ls = refl
begins_value (link_item b cid is) ms key ls = refl

-- ---- items

module _ (reads : (b : List ℕ) (cid : Link) → IsCid 64 b cid → read_link 64 b ≡ Some cid) where
  mutual
    -- an item is read as its tree
    pub over_item : (i : Item 64) (t : Tree) → tree_of_item i ≡ Some t → (ls : List Container) → run (wanted ls) (tokens_of i) ≡ completed t ls
    over_item (atom_item a) t e ls = ap (λ o. completed_if o ls) e
    over_item (bytes_item b) t e ls = ap (λ v. completed v ls) (some_tree (tree.bytes b) t e)
    over_item (some_item i) t e ls = over_item i t e ls
    over_item (variant_item name i) t e ls = absurd (none_tree t e)
    over_item (list_item is) t e ls =
        let h = list_has (items_of_parts is) t e in
        run_append (open_at (in_list no_items ∷ ls)) (parts_tokens is) (seq_end ∷ [])
        ∙ ap (λ s. run s (seq_end ∷ [])) (more_parts is h.0 h.1 no_items ls) ∙ ap (λ v. completed v ls) h.2
    over_item (map_item ps) t e ls =
        let h = map_has (members_of_pairs ps) t e in
        run_append (open_at (in_key no_members ∷ ls)) (pairs_tokens ps) (map_end ∷ [])
        ∙ ap (λ s. run s (map_end ∷ [])) (more_pairs ps no_members h.0 (onto_all ps ∙ h.1) ls) ∙ ap (λ v. completed v ls) h.2
    over_item (link_item b cid is) t e ls = ap (λ o. after_link o (read_cid 64 b) ls) (reads b cid is) ∙ ap (λ v. completed v ls) (some_tree (tree.link cid) t e)

    more_parts : (is : Parts 64) (ts : Items) → items_of_parts is ≡ Some ts → (us : Items) (ls : List Container)
        → run (open_at (in_list us ∷ ls)) (parts_tokens is) ≡ open_at (in_list (join us ts) ∷ ls)
    more_parts no_parts ts e us ls = ap (λ vs. open_at (in_list vs ∷ ls)) (sym (join_none us) ∙ ap (join us) (some_items no_items ts e))
    more_parts (part i is) ts e us ls =
        let h = part_has (tree_of_item i) (items_of_parts is) ts e in
        run_append (open_at (in_list us ∷ ls)) (tokens_of i) (parts_tokens is)
        ∙ ap (λ s. run s (parts_tokens is)) (begins_part i us ls ∙ over_item i h.0 h.2 (in_list us ∷ ls))
        ∙ more_parts is h.1 h.3 (and_item us h.0) ls
        ∙ ap (λ vs. open_at (in_list vs ∷ ls)) (join_more us h.0 h.1 ∙ ap (join us) h.4)

    more_pairs : (ps : Pairs 64) (ms ns : Members) → onto (Some ms) ps ≡ Some ns → (ls : List Container)
        → run (open_at (in_key ms ∷ ls)) (pairs_tokens ps) ≡ open_at (in_key ns ∷ ls)
    more_pairs no_pairs ms ns e ls = ap (λ us. open_at (in_key us ∷ ls)) (some_members ms ns e)
    more_pairs (pair k v ps) ms ns e ls =
        let h = put_first (key_text k) (tree_of_item v) ms ps ns e in
        run_append (open_at (in_key ms ∷ ls)) (tokens_of k) (tokens_of v ++ pairs_tokens ps)
        ∙ ap (λ s. run s (tokens_of v ++ pairs_tokens ps)) (over_key k h.key ms ls h.is_text)
        ∙ run_append (open_at (in_value ms h.key ∷ ls)) (tokens_of v) (pairs_tokens ps)
        ∙ ap (λ s. run s (pairs_tokens ps))
        (begins_value v ms h.key ls ∙ over_item v h.value h.has_value (in_value ms h.key ∷ ls) ∙ ap (λ b. if_new b (open_at (in_key (put h.key h.value ms) ∷ ls))) h.new)
        ∙ more_pairs ps (put h.key h.value ms) ns h.goes ls

  pub over_parts : (is : Parts 64) (ts : Items) → items_of_parts is ≡ Some ts → (ls : List Container)
      → run (open_at (in_list no_items ∷ ls)) (parts_tokens is) ≡ open_at (in_list ts ∷ ls)
  over_parts is ts e ls = more_parts is ts e no_items ls

  pub over_pairs : (ps : Pairs 64) (ms : Members) → members_of_pairs ps ≡ Some ms → (ls : List Container)
      → run (open_at (in_key no_members ∷ ls)) (pairs_tokens ps) ≡ open_at (in_key ms ∷ ls)
  over_pairs ps ms e ls = more_pairs ps no_members ms (onto_all ps ∙ e) ls
