-- Where the tokens of an item end, and that they determine its links and its tree.
use Rattle.std.proofs.Common.{◌≡◌, ℕ, List, [], ◌∷◌, ◌++◌, Some, option_map, refl, sym, ap, subst, ◌∙◌, append_assoc}
use Rattle.std.proofs.lemmas.List.{append-nil, append_cancel_right}
use Rattle.ipld_cid.specs.Cid.{Link}
use Rattle.ipld_cid.specs.Bytes.{IsCid}
use Rattle.ipld_tree.specs.Tree as tree
use Rattle.ipld_tokens.specs.Token.{TokenModel, atom, bytes, some, variant, link, seq, seq_end, map, map_end}
use Rattle.ipld_tokens.specs.Item.{Item, atom_item, bytes_item, some_item, variant_item, list_item, map_item, link_item, Parts, no_parts, part, Pairs, no_pairs, pair, tokens_of, parts_tokens, pairs_tokens, links_in}
use Rattle.ipld_tokens.specs.ItemTree.{tree_of_atom, key_text, item_before, put_new, tree_of_item, items_of_parts, members_of_pairs}
use Rattle.ipld_cid.specs.Cid.{IsValid}
use Rattle.ipld_cid.specs.Bytes.{bytes_of}
use Rattle.ipld_tree.specs.IsTree.{IsTree}
use Rattle.ipld_tree.specs.IsWhole.{IsWhole}
use Rattle.ipld_tree.specs.Tree.{Tree}
use Rattle.ipld_tokens.specs.TreeTokens.{tokens_of_tree}
use Rattle.ipld_tokens.proofs.TreeItems.{is_item}
use Rattle.ipld_tokens.proofs.Verdicts.{LinkLaws, whole, done_done}

-- ---- ends and links

module _ (S : ℕ) (laws : LinkLaws S) where
  same_end : (i j : Item S) (rest other : List TokenModel) → tokens_of i ++ rest ≡ tokens_of j ++ other → (links_in i ≡ links_in j) × (rest ≡ other)
  same_end i j rest other e = done_done S (links_in i) (links_in j) (tokens_of i) (tokens_of j) rest other e (whole S laws i) (whole S laws j)

  pub no_front : (i j : Item S) (next : TokenModel) (rest : List TokenModel) → tokens_of i ≡ tokens_of j ++ next ∷ rest → ⊥
  no_front i j next rest e =
      let none : [] ≡ next ∷ rest = (same_end i j [] (next ∷ rest) (append-nil (tokens_of i) ∙ e)).1 in absurd cc

  pub one_end : (i j : Item S) (rest other : List TokenModel) → tokens_of i ++ rest ≡ tokens_of j ++ other → (tokens_of i ≡ tokens_of j) × (rest ≡ other)
  one_end i j rest other e =
      let same = (same_end i j rest other e).1 in
      (append_cancel_right (tokens_of i) (tokens_of j) other (ap (λ ts. tokens_of i ++ ts) (sym same) ∙ e), same)

  pub same_links : (i j : Item S) → tokens_of i ≡ tokens_of j → links_in i ≡ links_in j
  same_links i j e = (same_end i j [] [] (ap (λ ts. ts ++ []) e)).0

-- ---- trees

-- an item begins with the token
abbrev Starts : TokenModel → Type 0
Starts seq_end = ⊥
Starts map_end = ⊥
Starts t = Unit {0}

starts : (j : Item 64) → (t : TokenModel) × (more : List TokenModel) × (tokens_of j ≡ t ∷ more) × Starts t
starts (atom_item a) = (atom a, [], refl, tt)
starts (bytes_item b) = (bytes b, [], refl, tt)
starts (some_item i) = (some, tokens_of i, refl, tt)
starts (variant_item name i) = (variant name, tokens_of i, refl, tt)
starts (list_item is) = (seq, parts_tokens is ++ seq_end ∷ [], refl, tt)
starts (map_item ps) = (map, pairs_tokens ps ++ map_end ∷ [], refl, tt)
starts (link_item b cid is) = (link, bytes b ∷ [], refl, tt)

no_start : (j : Item 64) (end : TokenModel) (r xs : List TokenModel) → (Starts end → ⊥) → end ∷ r ≡ tokens_of j ++ xs → ⊥
no_start j end r xs ends e =
    let s = starts j in
    let all : end ∷ r ≡ s.0 ∷ (s.1 ++ xs) = e ∙ ap (λ ts. ts ++ xs) s.2 in
    let first : s.0 ≡ end = cc in
    ends (subst Starts first s.3)

split : (k v : Item 64) (ps : Pairs 64) (r : List TokenModel)
    → (tokens_of k ++ (tokens_of v ++ pairs_tokens ps)) ++ map_end ∷ r ≡ tokens_of k ++ (tokens_of v ++ (pairs_tokens ps ++ map_end ∷ r))
split k v ps r =
    append_assoc (tokens_of k) (tokens_of v ++ pairs_tokens ps) (map_end ∷ r)
    ∙ ap (λ ts. tokens_of k ++ ts) (append_assoc (tokens_of v) (pairs_tokens ps) (map_end ∷ r))

abbrev Same : Item 64 → Item 64 → List TokenModel → List TokenModel → Type 0
Same i j r u = (tree_of_item i ≡ tree_of_item j) × (key_text i ≡ key_text j) × (r ≡ u)

module _ (one : (b : List ℕ) (c d : Link) → IsCid 64 b c → IsCid 64 b d → c ≡ d) where
  mutual
    same : (i j : Item 64) (r u : List TokenModel) → tokens_of i ++ r ≡ tokens_of j ++ u → Same i j r u
    same (atom_item a) (atom_item b) r u e =
        let first : a ≡ b = cc in (ap tree_of_atom first, ap (λ x. key_text (atom_item x)) first, cc)
    same (bytes_item a) (bytes_item b) r u e = let first : a ≡ b = cc in (ap (λ x. tree_of_item (bytes_item x)) first, refl, cc)
    same (some_item i) (some_item j) r u e =
        let tail : tokens_of i ++ r ≡ tokens_of j ++ u = cc in let h = same i j r u tail in (h.0, refl, h.2)
    same (variant_item m i) (variant_item n j) r u e =
        let tail : tokens_of i ++ r ≡ tokens_of j ++ u = cc in (refl, refl, (same i j r u tail).2)
    same (list_item is) (list_item js) r u e =
        let tail : (parts_tokens is ++ seq_end ∷ []) ++ r ≡ (parts_tokens js ++ seq_end ∷ []) ++ u = cc in
        let h = same_parts is js r u (sym (append_assoc (parts_tokens is) (seq_end ∷ []) r) ∙ tail ∙ append_assoc (parts_tokens js) (seq_end ∷ []) u) in
        (ap (option_map tree.list) h.0, refl, h.1)
    same (map_item ps) (map_item qs) r u e =
        let tail : (pairs_tokens ps ++ map_end ∷ []) ++ r ≡ (pairs_tokens qs ++ map_end ∷ []) ++ u = cc in
        let h = same_pairs ps qs r u (sym (append_assoc (pairs_tokens ps) (map_end ∷ []) r) ∙ tail ∙ append_assoc (pairs_tokens qs) (map_end ∷ []) u) in
        (ap (option_map tree.entries) h.0, refl, h.1)
    same (link_item a c is) (link_item b d ks) r u e =
        let first : a ≡ b = cc in
        let cid = one b c d (subst (λ x. IsCid 64 x c) first is) ks in
        (ap (λ x. Some (tree.link x)) cid, refl, cc)
    same (atom_item a) j r u e = absurd cc
    same (bytes_item a) j r u e = absurd cc
    same (some_item i) j r u e = absurd cc
    same (variant_item m i) j r u e = absurd cc
    same (list_item is) j r u e = absurd cc
    same (map_item ps) j r u e = absurd cc
    same (link_item a c is) j r u e = absurd cc

    same_parts : (is js : Parts 64) (r u : List TokenModel) → parts_tokens is ++ seq_end ∷ r ≡ parts_tokens js ++ seq_end ∷ u
        → (items_of_parts is ≡ items_of_parts js) × (r ≡ u)
    same_parts no_parts no_parts r u e = (refl, cc)
    same_parts no_parts (part j js) r u e =
        absurd (no_start j seq_end r (parts_tokens js ++ seq_end ∷ u) (λ h. h) (e ∙ append_assoc (tokens_of j) (parts_tokens js) (seq_end ∷ u)))
    same_parts (part i is) no_parts r u e =
        absurd (no_start i seq_end u (parts_tokens is ++ seq_end ∷ r) (λ h. h) (sym e ∙ append_assoc (tokens_of i) (parts_tokens is) (seq_end ∷ r)))
    same_parts (part i is) (part j js) r u e =
        let h = same i j (parts_tokens is ++ seq_end ∷ r) (parts_tokens js ++ seq_end ∷ u)
        (sym (append_assoc (tokens_of i) (parts_tokens is) (seq_end ∷ r)) ∙ e ∙ append_assoc (tokens_of j) (parts_tokens js) (seq_end ∷ u)) in
        let more = same_parts is js r u h.2 in
        (ap (λ o. item_before o (items_of_parts is)) h.0 ∙ ap (item_before (tree_of_item j)) more.0, more.1)

    same_pairs : (ps qs : Pairs 64) (r u : List TokenModel) → pairs_tokens ps ++ map_end ∷ r ≡ pairs_tokens qs ++ map_end ∷ u
        → (members_of_pairs ps ≡ members_of_pairs qs) × (r ≡ u)
    same_pairs no_pairs no_pairs r u e = (refl, cc)
    same_pairs no_pairs (pair k v qs) r u e = absurd (no_start k map_end r ((tokens_of v ++ pairs_tokens qs) ++ map_end ∷ u) (λ h. h) (e ∙ append_assoc (tokens_of k) (tokens_of v ++ pairs_tokens qs) (map_end ∷ u)))
    same_pairs (pair k v ps) no_pairs r u e = absurd (no_start k map_end u ((tokens_of v ++ pairs_tokens ps) ++ map_end ∷ r) (λ h. h) (sym e ∙ append_assoc (tokens_of k) (tokens_of v ++ pairs_tokens ps) (map_end ∷ r)))
    same_pairs (pair k v ps) (pair l w qs) r u e =
        let key = same k l (tokens_of v ++ (pairs_tokens ps ++ map_end ∷ r)) (tokens_of w ++ (pairs_tokens qs ++ map_end ∷ u)) (sym (split k v ps r) ∙ e ∙ split l w qs u) in
        let value = same v w (pairs_tokens ps ++ map_end ∷ r) (pairs_tokens qs ++ map_end ∷ u) key.2 in
        let more = same_pairs ps qs r u value.2 in (
          ap (λ o. put_new o (tree_of_item v) (members_of_pairs ps)) key.1 ∙ ap (λ o. put_new (key_text l) o (members_of_pairs ps)) value.0
              ∙ ap (put_new (key_text l) (tree_of_item w)) more.0,
          more.1,
        )

  pub same_tree : (i j : Item 64) → tokens_of i ≡ tokens_of j → tree_of_item i ≡ tree_of_item j
  same_tree i j e = (same i j [] [] (ap (λ ts. ts ++ []) e)).0

  pub one_tree : ((cid : Link) → IsValid 64 cid → IsCid 64 (bytes_of cid) cid) → (t u : Tree) → IsTree t → IsWhole t → IsTree u → IsWhole u
      → tokens_of_tree t ≡ tokens_of_tree u → t ≡ u
  one_tree each t u a b c d e =
      let i = is_item each t a b in
      let j = is_item each u c d in
      let both : Some t ≡ Some u = sym i.2 ∙ same_tree i.0 j.0 (i.1 ∙ e ∙ sym j.1) ∙ j.2 in
      cc
