-- Values read off the front of bytes, and the lists and maps that they fill.
use Rattle.std.proofs.Common.{◌≡◌, ◌≤◌, ℕ, ℤ, pos, negsuc, suc, max, Bool, cond, true, false, List, [], ◌∷◌, ◌++◌, length, map, Some, None, option_map, Result, Ok, Err, IfOk, Bor, Vec, BTreeMap, String, string_bytes, Global, refl, sym, ap, ap₂, subst, ◌∙◌, append_assoc, arith, rules}
use Rattle.std.proofs.lemmas.List.{append-nil, map-append}
use Rattle.ipld_cid.specs.declared.cid.CidGeneric.{CidGeneric}
use Rattle.ipld_cid.specs.Bytes.{IsCid}
use Rattle.ipld_cid.specs.LinkOf.{link_of}
use Rattle.ipld_tree.specs.Put.{put}
use Rattle.ipld_tree.specs.Tree.{Tree, Items, no_items, Members, no_members}
use Rattle.ipld_tree.specs.Tree as tree
use Rattle.ipld_tree.specs.TreeOf.{tree_of, as_items, items_of, members_of}
use Rattle.ipld_tree.specs.Walk.{nest, items_nest, members_nest}
use Rattle.ipld_tree.specs.declared.ipld.Ipld.{Ipld, Null, Bool as Ipld-Bool, Integer, String as Ipld-String, Bytes as Ipld-Bytes, List as Ipld-List, Map as Ipld-Map, Link as Ipld-Link, the_lemmas}
use Rattle.ipld_tree.proofs.Trees.{tree_of-Integer, tree_of-Link, tree_of-List, tree_of-Map, tree_of-Bytes}
use Rattle.ipld_tokens.specs.Token.{none, boolean, integer, text}
use Rattle.ipld_tokens.specs.Item.{Item, atom_item, bytes_item, list_item, map_item, link_item, Parts, no_parts, part, Pairs, no_pairs, pair}
use Rattle.ipld_tokens.specs.ItemTree.{has_key, put_new, tree_of_item, item_before, items_of_parts, members_of_pairs}
use Rattle.ipld_tokens.proofs.ItemLinks.{some_members}
use Rattle.ipld_tokens.proofs.TreeReading.{onto, onto_all}
use Rattle.dag_cbor_format.specs.declared.major.Major.TheVariants.{Unsigned, Negative, Bytes, Text, List as Array, Map, Tag, Simple}
use Rattle.dag_cbor_format.specs.declared.major.Major.{Major}
use Rattle.dag_cbor_format.specs.Head.{head, IsArgument}
use Rattle.dag_cbor_format.specs.HeadReading.{head_at}
use Rattle.dag_cbor_format.specs.ItemHeader.{front, if_text, key_at}
use Rattle.dag_cbor_format.specs.Encoding.{part_count, pair_count, encoding, parts_encoding, pairs_encoding, HasEncoding, HaveEncodings, PairsHaveEncodings, EncodesTree}
use Rattle.dag_cbor_format.proofs.HeadLaws.{head_encoded}
use Rattle.dag_cbor_format.proofs.ItemHeaders.{key_is}
use Rattle.dag_cbor_format.proofs.Keys.{put_new_is}
use Rattle.dag_cbor_format.specs.ItemHeads.{BeginsWithKey}
use Rattle.dag_cbor_format.specs.LinkBytes.{link_bytes_at}
use Rattle.dag_cbor_blocks.specs.declared.shallow.Stop.{Stop}
use Rattle.dag_cbor.specs.Shallow.{Begins, Continues, Adds, Enters, entry_of, all_new, AddsEntry}
use Rattle.dag_cbor_blocks.proofs.Counting.{put_added}
use Rattle.dag_cbor_format.proofs.ItemHeads.{bytes_begin, text_begins, link_begins}

-- ---- scalars and links

tree_of-String : (v : String Global) → tree_of (Ipld-String v) ≡ tree.text (string_bytes v)
tree_of-String v = search (rules, the_lemmas)

tree_of-Bool : (b : Bool) → tree_of (Ipld-Bool b) ≡ tree.boolean b
tree_of-Bool b = search (rules, the_lemmas)

tree_of-Null : tree_of Null ≡ tree.null
tree_of-Null = search (rules, the_lemmas)

module _ (levels : ℕ) (i : Item 64) (bytes rest : List ℕ) (has : HasEncoding i) (is : bytes ≡ encoding i ++ rest) where
  flat_begins : (t u : Tree) → tree_of_item i ≡ Some u → nest u ≡ 0 → t ≡ u → Begins levels t bytes rest
  flat_begins t u reads flat same = (i, has, reads ∙ ap Some (sym same), is, omega (arith, ap nest same, flat))

module _ (levels n : ℕ) (more : List ℕ) where
  pub unsigned_read : (z : ℤ) → pos n ≡ z → Continues levels Unsigned n more (tree_of (Integer z)) more
  unsigned_read z e = λ fits.
      flat_begins levels (atom_item (integer (pos n))) (head Unsigned n ++ more) more fits refl (tree_of (Integer z)) (tree.integer (pos n)) refl refl (tree_of-Integer z ∙ ap tree.integer (sym e))

  pub negative_read : (z : ℤ) → negsuc n ≡ z → Continues levels Negative n more (tree_of (Integer z)) more
  negative_read z e = λ fits.
      flat_begins levels (atom_item (integer (negsuc n))) (head Negative n ++ more) more fits refl (tree_of (Integer z)) (tree.integer (negsuc n)) refl refl (tree_of-Integer z ∙ ap tree.integer (sym e))

  pub bytes_read : (b rest : List ℕ) (v : Vec ℕ Global) → front n more ≡ Some (b, rest) → v.items ≡ b → Continues levels Bytes n more (tree_of (Ipld-Bytes v)) rest
  bytes_read b rest v f same = λ fits.
      let p = bytes_begin n more b rest (head Bytes n ++ more) f fits refl in
      flat_begins levels (bytes_item b) (head Bytes n ++ more) rest p.0 (p.1 ∙ sym (append_assoc (head Bytes (length b)) b rest)) (tree_of (Ipld-Bytes v)) (tree.bytes b) refl refl
      (tree_of-Bytes v ∙ ap tree.bytes same)

  pub text_read : (s rest : List ℕ) (v : String Global) → if_text (front n more) ≡ Some (s, rest) → string_bytes v ≡ s → Continues levels Text n more (tree_of (Ipld-String v)) rest
  text_read s rest v f same = λ fits.
      let p = text_begins n more s rest (head Text n ++ more) f fits refl in
      flat_begins levels (atom_item (text s)) (head Text n ++ more) rest (p.0, p.1) (p.2 ∙ sym (append_assoc (head Text (length s)) s rest)) (tree_of (Ipld-String v)) (tree.text s) refl refl
      (tree_of-String v ∙ ap tree.text same)

  pub link_read : (encoded rest : List ℕ) (c : CidGeneric 64) → n ≡ 42 → link_bytes_at more ≡ Some (encoded, rest) → IsCid 64 encoded (link_of c) → Continues levels Tag n more (tree_of (Ipld-Link c)) rest
  link_read encoded rest c tagged f is = λ fits.
      let p = link_begins n more encoded rest (head Tag n ++ more) tagged f refl in
      flat_begins levels (link_item encoded (link_of c) is) (head Tag n ++ more) rest p.0
      (p.1 ∙ sym (append_assoc (head Tag 42) (head Bytes (suc (length encoded)) ++ 0 ∷ encoded) rest ∙ ap (λ xs. head Tag 42 ++ xs) (append_assoc (head Bytes (suc (length encoded))) (0 ∷ encoded) rest)))
      (tree_of (Ipld-Link c)) (tree.link (link_of c)) refl refl (tree_of-Link c)

  pub false_read : n ≡ 20 → Continues levels Simple n more (tree_of (Ipld-Bool false)) more
  false_read e = λ fits.
      flat_begins levels (atom_item (boolean false)) (head Simple n ++ more) more tt (ap (λ k. head Simple k ++ more) e) (tree_of (Ipld-Bool false)) (tree.boolean false) refl refl (tree_of-Bool false)

  pub true_read : n ≡ 21 → Continues levels Simple n more (tree_of (Ipld-Bool true)) more
  true_read e = λ fits.
      flat_begins levels (atom_item (boolean true)) (head Simple n ++ more) more tt (ap (λ k. head Simple k ++ more) e) (tree_of (Ipld-Bool true)) (tree.boolean true) refl refl (tree_of-Bool true)

  pub null_read : n ≡ 22 → Continues levels Simple n more (tree_of Null) more
  null_read e = λ fits.
      flat_begins levels (atom_item none) (head Simple n ++ more) more tt (ap (λ k. head Simple k ++ more) e) (tree_of Null) tree.null refl refl tree_of-Null

-- what is read behind a head begins where the head does
pub behind_head : (levels : ℕ) (bytes : List ℕ) (m : Major) (n : ℕ) (more : List ℕ) (t : Tree) (rest : List ℕ) → head_at bytes ≡ Some (m, n, more) → Continues levels m n more t rest → Begins levels t bytes rest
behind_head levels bytes m n more t rest e h =
    let p = head_encoded bytes m n more e in
    subst (λ xs. Begins levels t xs rest) (sym p.1) (h p.0)

-- ---- lists

-- so many items stand at the front of the bytes, which are these trees
abbrev ItemsFollow : ℕ → ℕ → List Tree → List ℕ → List ℕ → Type 0
ItemsFollow levels n ts bytes rest =
    (is : Parts 64) × HaveEncodings is × (items_of_parts is ≡ Some (as_items ts)) × (part_count is ≡ n) × (bytes ≡ parts_encoding is ++ rest) × (items_nest (as_items ts) ≤ levels)

one_more : (levels n : ℕ) (t : Tree) (ts : List Tree) (bytes after rest : List ℕ) → Begins levels t bytes after → ItemsFollow levels n ts after rest → ItemsFollow levels (suc n) (t ∷ ts) bytes rest
one_more levels n t ts bytes after rest (i, has, is_t, f, flat) (is, have, are, count, e, deep) = (
  part i is,
  (has, have),
  ap₂ item_before is_t are,
  ap suc count,
  f ∙ ap (λ xs. encoding i ++ xs) e ∙ sym (append_assoc (encoding i) (parts_encoding is) rest),
  omega (arith, flat, deep),
)

-- a list holds these values where so many are to come: those make it the list of all
abbrev pub ListLeft : ℕ → ℕ → List ℕ → List Ipld → ℕ → List ℕ → Type 0
ListLeft levels count bytes items left rest = (ts : List Tree) (end : List ℕ) → ItemsFollow levels left ts rest end → ItemsFollow levels count (map tree_of items ++ ts) bytes end

pub list_begun : (levels count : ℕ) (bytes : List ℕ) (items : List Ipld) → items ≡ [] → ListLeft levels count bytes items count bytes
list_begun levels count bytes items empty = λ ts end h. subst (λ xs. ItemsFollow levels count (map tree_of xs ++ ts) bytes end) (sym empty) h

trees_pushed : (old : List Ipld) (v : Ipld) (ts : List Tree) → map tree_of (old ++ v ∷ []) ++ ts ≡ map tree_of old ++ tree_of v ∷ ts
trees_pushed [] v ts = refl
trees_pushed (x ∷ old) v ts = ap (λ us. tree_of x ∷ us) (trees_pushed old v ts)

pub list_goes_on : (levels count : ℕ) (bytes : List ℕ) (old new : List Ipld) (left more : ℕ) (rest after : List ℕ) → left ≡ suc more → Adds levels old new rest after
    → ListLeft levels count bytes old left rest → ListLeft levels count bytes new more after
list_goes_on levels count bytes old new left more rest after one (v, is, begins) h = λ ts end follow.
    subst (λ us. ItemsFollow levels count us bytes end) (sym (trees_pushed old v ts) ∙ ap (λ xs. map tree_of xs ++ ts) (sym is))
    (h (tree_of v ∷ ts) end (subst (λ k. ItemsFollow levels k (tree_of v ∷ ts) rest end) (sym one) (one_more levels more (tree_of v) ts rest after end begins follow)))

list_whole : (levels inner count : ℕ) (bytes rest : List ℕ) (v : Vec Ipld Global) → suc inner ≤ levels → ItemsFollow inner count (map tree_of v.items ++ []) bytes rest → Continues levels Array count bytes (tree_of (Ipld-List v)) rest
list_whole levels inner count bytes rest v fits (is, have, are, n, e, deep) = λ argument.
    let all : map tree_of v.items ++ [] ≡ map tree_of v.items = append-nil (map tree_of v.items) in
    let same : tree_of (Ipld-List v) ≡ tree.list (items_of v.items) = tree_of-List v in (
      list_item is,
      (omega (arith, argument, n), have),
      ap (option_map tree.list) (are ∙ ap (λ ts. Some (as_items ts)) all) ∙ ap Some (sym same),
      ap (λ xs. head Array count ++ xs) e ∙ sym (append_assoc (head Array count) (parts_encoding is) rest) ∙ ap (λ k. (head Array k ++ parts_encoding is) ++ rest) (sym n),
      omega (arith, fits, deep, ap nest same, ap (λ ts. items_nest (as_items ts)) all),
    )

pub list_done : (levels inner count : ℕ) (bytes rest : List ℕ) (v : Vec Ipld Global) (left : ℕ) → left ≡ 0 → suc inner ≤ levels → ListLeft inner count bytes v.items left rest
    → Continues levels Array count bytes (tree_of (Ipld-List v)) rest
list_done levels inner count bytes rest v left none_left fits h =
    list_whole levels inner count bytes rest v fits (h [] rest (no_parts, tt, refl, sym none_left, refl, omega arith))

-- a value was put behind those of a list

pub unsigned_added : (levels n : ℕ) (bytes more : List ℕ) (z : ℤ) (old new : List Ipld) → head_at bytes ≡ Some (Unsigned, n, more) → new ≡ old ++ Integer z ∷ [] → pos n ≡ z → Adds levels old new bytes more
unsigned_added levels n bytes more z old new e is same = (Integer z, is, behind_head levels bytes Unsigned n more (tree_of (Integer z)) more e (unsigned_read levels n more z same))

pub negative_added : (levels n : ℕ) (bytes more : List ℕ) (z : ℤ) (old new : List Ipld) → head_at bytes ≡ Some (Negative, n, more) → new ≡ old ++ Integer z ∷ [] → negsuc n ≡ z → Adds levels old new bytes more
negative_added levels n bytes more z old new e is same = (Integer z, is, behind_head levels bytes Negative n more (tree_of (Integer z)) more e (negative_read levels n more z same))

pub content_added : (levels : ℕ) (bytes : List ℕ) (m : Major) (n : ℕ) (more : List ℕ) (old new : List Ipld) (r : Result (Bor (List ℕ)) Stop) → head_at bytes ≡ Some (m, n, more)
    → IfOk r (λ rest. IsArgument m n → Adds levels old new (head m n ++ more) rest.now) → IfOk r (λ rest. Adds levels old new bytes rest.now)
content_added levels bytes m n more old new (Ok rest) e h = let p = head_encoded bytes m n more e in subst (λ xs. Adds levels old new xs rest.now) (sym p.1) (h p.0)
content_added levels bytes m n more old new (Err stop) e h = tt

-- ---- maps

-- so many pairs stand at the front of the bytes, which make these members of those
abbrev PairsFollow : ℕ → Members → Members → List ℕ → List ℕ → Type 0
PairsFollow n from to bytes rest =
    (ps : Pairs 64) × PairsHaveEncodings ps × (onto (Some from) ps ≡ Some to) × (pair_count ps ≡ n) × (bytes ≡ pairs_encoding ps ++ rest)

pair_more : (levels n : ℕ) (key : List ℕ) (t : Tree) (from to : Members) (bytes behind after rest : List ℕ) → BeginsWithKey key bytes behind → Begins levels t behind after → has_key key from ≡ false
    → PairsFollow n (put key t from) to after rest → PairsFollow (suc n) from to bytes rest
pair_more levels n key t from to bytes behind after rest begins (i, has, is_t, f, flat) new (ps, have, goes, count, e) = (
  pair (atom_item (text key)) i ps,
  ((begins.0, begins.1), has, have),
  ap (λ o. onto o ps) (ap (λ o. put_new (Some key) o (Some from)) is_t ∙ ap (λ b. cond b None (Some (put key t from))) new) ∙ goes,
  ap suc count,
  begins.2 ∙ sym (append_assoc (head Text (length key)) key behind)
      ∙ ap (λ xs. (head Text (length key) ++ key) ++ xs) (f ∙ ap (λ xs. encoding i ++ xs) e ∙ sym (append_assoc (encoding i) (pairs_encoding ps) rest))
      ∙ sym (append_assoc (head Text (length key) ++ key) (encoding i ++ pairs_encoding ps) rest),
)

-- a map has these members where so many pairs are to come: those make it the map of all
abbrev pub MapLeft : ℕ → List ℕ → Members → ℕ → List ℕ → Type 0
MapLeft count bytes members left rest = (to : Members) (end : List ℕ) → PairsFollow left members to rest end → PairsFollow count no_members to bytes end

pub map_begun : (count : ℕ) (bytes : List ℕ) (es : List (String Global × Ipld)) → es ≡ [] → MapLeft count bytes (members_of es) count bytes
map_begun count bytes es empty = λ to end h. subst (λ xs. PairsFollow count (members_of xs) to bytes end) empty h

pub map_flat : (levels : ℕ) (es : List (String Global × Ipld)) → es ≡ [] → members_nest (members_of es) ≤ levels
map_flat levels es empty = omega (arith, ap (λ xs. members_nest (members_of xs)) empty)

pub map_goes_on : (levels count : ℕ) (bytes : List ℕ) (old new : List (String Global × Ipld)) (left more : ℕ) (rest after : List ℕ) → left ≡ suc more → Enters levels old new rest after
    → MapLeft count bytes (members_of old) left rest → MapLeft count bytes (members_of new) more after
map_goes_on levels count bytes old new left more rest after one (key, behind, t, begins, value, absent, is) h = λ to end follow.
    h to end (subst (λ k. PairsFollow k (members_of old) to rest end) (sym one)
    (pair_more levels more key t (members_of old) to rest behind after end begins value absent (subst (λ ms. PairsFollow more ms to after end) is follow)))

pub map_stays_flat : (levels : ℕ) (old new : List (String Global × Ipld)) (rest after : List ℕ) → Enters levels old new rest after → members_nest (members_of old) ≤ levels → members_nest (members_of new) ≤ levels
map_stays_flat levels old new rest after (key, behind, t, begins, (i, has, is_t, f, flat), absent, is) deep =
    let a = put_added key t (members_of old) absent in
    omega (arith, ap members_nest is, a.levels, flat, deep)

map_whole : (levels inner count : ℕ) (bytes rest : List ℕ) (m : BTreeMap (String Global) Ipld) → suc inner ≤ levels → members_nest (members_of m.entries) ≤ inner
    → PairsFollow count no_members (members_of m.entries) bytes rest → Continues levels Map count bytes (tree_of (Ipld-Map m)) rest
map_whole levels inner count bytes rest m fits deep (ps, have, goes, n, e) = λ argument.
    let same : tree_of (Ipld-Map m) ≡ tree.entries (members_of m.entries) = tree_of-Map m in (
      map_item ps,
      (omega (arith, argument, n), have),
      ap (option_map tree.entries) (sym (onto_all ps) ∙ goes) ∙ ap Some (sym same),
      ap (λ xs. head Map count ++ xs) e ∙ sym (append_assoc (head Map count) (pairs_encoding ps) rest) ∙ ap (λ k. (head Map k ++ pairs_encoding ps) ++ rest) (sym n),
      omega (arith, fits, deep, ap nest same),
    )

pub map_done : (levels inner count : ℕ) (bytes rest : List ℕ) (m : BTreeMap (String Global) Ipld) (left : ℕ) → left ≡ 0 → suc inner ≤ levels → members_nest (members_of m.entries) ≤ inner
    → MapLeft count bytes (members_of m.entries) left rest → Continues levels Map count bytes (tree_of (Ipld-Map m)) rest
map_done levels inner count bytes rest m left none_left fits deep h =
    map_whole levels inner count bytes rest m fits deep (h (members_of m.entries) rest (no_pairs, tt, refl, sym none_left, refl))

-- an entry was put under a key that wasn't there
pub entered : (levels : ℕ) (es new : List (String Global × Ipld)) (k : String Global) (v : Ipld) (bytes name behind more : List ℕ) (m : Major) (n : ℕ) (rest : List ℕ) → key_at bytes ≡ Some (name, behind) → string_bytes k ≡ name
    → head_at behind ≡ Some (m, n, more) → Continues levels m n more (tree_of v) rest
    → has_key (string_bytes k) (members_of es) ≡ false → members_of new ≡ put (string_bytes k) (tree_of v) (members_of es)
    → Enters levels es new bytes rest
entered levels es new k v bytes name behind more m n rest keyed same e h absent put_is =
    let p = key_is bytes name behind keyed in (
      string_bytes k,
      behind,
      tree_of v,
      subst (λ s. BeginsWithKey s bytes behind) (sym same) (p.1, p.2, p.3 ∙ append_assoc (head Text (length name)) name behind),
      behind_head levels behind m n more (tree_of v) rest e h,
      absent,
      put_is,
    )

-- ---- maps by their entries

abbrev deepest : List (List ℕ × Tree) → ℕ
deepest [] = 0
deepest (e ∷ es) = max (nest e.1) (deepest es)

made_deep : (es : List (List ℕ × Tree)) (ms : Members) → all_new es ≡ Some ms → members_nest ms ≡ deepest es
made_deep [] ms e = sym (ap members_nest (some_members no_members ms e))
made_deep ((k, t) ∷ es) ms e =
    let p = put_new_is k (Some t) (all_new es) ms e in
    let same : t ≡ p.0 = cc p.2 in
    omega (arith, ap members_nest p.5, (put_added k p.0 p.1 p.4).levels, ap nest same, made_deep es p.1 p.3)

-- so many pairs stand at the front of the bytes, which are these entries
abbrev EntriesFollow : ℕ → ℕ → List (List ℕ × Tree) → List ℕ → List ℕ → Type 0
EntriesFollow levels n es bytes rest =
    (ps : Pairs 64) × PairsHaveEncodings ps × (members_of_pairs ps ≡ all_new es) × (pair_count ps ≡ n) × (bytes ≡ pairs_encoding ps ++ rest) × (deepest es ≤ levels)

-- these entries were read where so many pairs are to come: those make the map of all
abbrev pub EntriesLeft : ℕ → ℕ → List ℕ → List (String Global × Ipld) → ℕ → List ℕ → Type 0
EntriesLeft levels count bytes entries left rest = (es : List (List ℕ × Tree)) (end : List ℕ) → EntriesFollow levels left es rest end → EntriesFollow levels count (map entry_of entries ++ es) bytes end

pub entries_begun : (levels count : ℕ) (bytes : List ℕ) (entries : List (String Global × Ipld)) → entries ≡ [] → EntriesLeft levels count bytes entries count bytes
entries_begun levels count bytes entries empty = λ es end h. subst (λ xs. EntriesFollow levels count (map entry_of xs ++ es) bytes end) (sym empty) h

pub entries_go_on : (levels count : ℕ) (bytes : List ℕ) (old new : List (String Global × Ipld)) (left more : ℕ) (rest after : List ℕ) → left ≡ suc more → AddsEntry levels old new rest after
    → EntriesLeft levels count bytes old left rest → EntriesLeft levels count bytes new more after
entries_go_on levels count bytes old new left more rest after one (e, behind, is, begins, (i, has, reads, f, flat)) h = λ es end (ps, have, goes, n, g, deep).
    let key = string_bytes e.0 in
    subst (λ us. EntriesFollow levels count us bytes end)
    (sym (ap (λ xs. map entry_of xs ++ es) is ∙ ap (λ xs. xs ++ es) (map-append entry_of old (e ∷ [])) ∙ append_assoc (map entry_of old) (entry_of e ∷ []) es))
    (h (entry_of e ∷ es) end (
      pair (atom_item (text key)) i ps,
      ((begins.0, begins.1), has, have),
      ap₂ (put_new (Some key)) reads goes,
      ap suc n ∙ sym one,
      begins.2 ∙ sym (append_assoc (head Text (length key)) key behind)
          ∙ ap (λ xs. (head Text (length key) ++ key) ++ xs) (f ∙ ap (λ xs. encoding i ++ xs) g ∙ sym (append_assoc (encoding i) (pairs_encoding ps) end))
          ∙ sym (append_assoc (head Text (length key) ++ key) (encoding i ++ pairs_encoding ps) end),
      omega (arith, flat, deep),
    ))

pub entries_done : (levels inner count : ℕ) (bytes rest : List ℕ) (entries : List (String Global × Ipld)) (m : BTreeMap (String Global) Ipld) (left : ℕ) → left ≡ 0 → suc inner ≤ levels
    → all_new (map entry_of entries) ≡ Some (members_of m.entries) → EntriesLeft inner count bytes entries left rest → Continues levels Map count bytes (tree_of (Ipld-Map m)) rest
entries_done levels inner count bytes rest entries m left none_left fits made h = λ argument.
    let w = h [] rest (no_pairs, tt, refl, sym none_left, refl, omega arith) in
    let all : map entry_of entries ++ [] ≡ map entry_of entries = append-nil (map entry_of entries) in
    let same : tree_of (Ipld-Map m) ≡ tree.entries (members_of m.entries) = tree_of-Map m in (
      map_item w.0,
      (omega (arith, argument, w.3), w.1),
      ap (option_map tree.entries) (w.2 ∙ ap all_new all ∙ made) ∙ ap Some (sym same),
      ap (λ xs. head Map count ++ xs) w.4 ∙ sym (append_assoc (head Map count) (pairs_encoding w.0) rest) ∙ ap (λ k. (head Map k ++ pairs_encoding w.0) ++ rest) (sym w.3),
      omega (arith, fits, w.5, ap nest same, ap deepest all, made_deep (map entry_of entries) (members_of m.entries) made),
    )

-- an entry was put behind the others
pub entry_added : (levels : ℕ) (old new : List (String Global × Ipld)) (k : String Global) (v : Ipld) (bytes name behind more : List ℕ) (m : Major) (n : ℕ) (rest : List ℕ) → key_at bytes ≡ Some (name, behind)
    → string_bytes k ≡ name → head_at behind ≡ Some (m, n, more) → Continues levels m n more (tree_of v) rest → new ≡ old ++ (k, v) ∷ [] → AddsEntry levels old new bytes rest
entry_added levels old new k v bytes name behind more m n rest keyed same e h is =
    let p = key_is bytes name behind keyed in (
      (k, v),
      behind,
      is,
      subst (λ s. BeginsWithKey s bytes behind) (sym same) (p.1, p.2, p.3 ∙ append_assoc (head Text (length name)) name behind),
      behind_head levels behind m n more (tree_of v) rest e h,
    )

-- ---- a whole block

pub whole_read : (levels : ℕ) (bytes : List ℕ) (m : Major) (n : ℕ) (more : List ℕ) (t : Tree) (rest : List ℕ) → head_at bytes ≡ Some (m, n, more) → Continues levels m n more t rest → rest ≡ []
    → EncodesTree t bytes × (nest t ≤ levels)
whole_read levels bytes m n more t rest e h ended = all (behind_head levels bytes m n more t rest e h) where
  all : Begins levels t bytes rest → EncodesTree t bytes × (nest t ≤ levels)
  all (i, has, is_t, f, flat) = ((i, (has, f ∙ ap (λ xs. encoding i ++ xs) ended ∙ append-nil (encoding i)), is_t), flat)
