-- What is measured of a block is what its tree measures.
use Rattle.std.proofs.Common.{◌≡◌, ℕ, ◌+◌, ◌-◌, ◌^◌, max, Bool, true, false, List, [], ◌∷◌, ◌++◌, length, Option, Some, None, option_map, Bor, Result, Ok, Err, refl, sym, ap, subst, ◌∙◌, append_assoc, length-append, arith}
use Rattle.std.specs.Prelude.{pos, nat_lt, if◌then◌else◌}
use Rattle.std.specs.declared.alloc.AllocError.{AllocError}
use Rattle.ipld_cid.specs.Cid.{Link}
use Rattle.ipld_cid.specs.LinkOf.{link_of}
use Rattle.ipld_cid.specs.declared.cid.CidGeneric.{CidGeneric}
use Rattle.ipld_tree.specs.Tree.{Tree, Items, no_items, Members, no_members}
use Rattle.ipld_tree.specs.Tree as tree
use Rattle.ipld_tree.specs.Walk.{preorder, items_preorder, members_preorder, nest, items_nest, members_nest}
use Rattle.ipld_tokens.specs.LinkBytes.{read_link}
use Rattle.ipld_tokens.specs.Token.{Atom, TokenModel, atom, none, unit, unit_struct, boolean, integer, unsigned, character, text, unit_variant, bytes, link, seq, seq_end, map_end}
use Rattle.ipld_tokens.specs.Token as token
use Rattle.ipld_tokens.specs.Item.{Item, atom_item, bytes_item, some_item, variant_item, list_item, map_item, link_item, Parts, no_parts, part, Pairs, no_pairs, pair}
use Rattle.ipld_tokens.specs.ItemTree.{tree_of_atom, key_text, tree_of_item, items_of_parts, members_of_pairs}
use Rattle.ipld_tokens.proofs.ItemLinks.{some_tree, some_items, some_members, list_has, map_has, part_has, pair_has}
use Rattle.dag_cbor_format.proofs.CidLaws.{cid_laws}
use Rattle.dag_cbor_format.proofs.Complete.{over_block_in}
use Rattle.dag_cbor_format.proofs.EventsOf.{EventsOf, PartsEvents, PairsEvents}
use Rattle.dag_cbor_format.proofs.Sound.{encodes_tree_in}
use Rattle.dag_cbor_format.specs.Found.{link_before, links_among}
use Rattle.dag_cbor_format.specs.Trace.{Event, Trace, tokens_in, trace_of, links_read}
use Rattle.dag_cbor_format.specs.WithFloats.{EncodesTreeIn}
use Rattle.dag_cbor_blocks.specs.Measuring.{values_of, values_in, depth_after, depth_at, deepest_in, measured, Counts, Measures}
use Rattle.dag_cbor_blocks.specs.Visit.{events_of, IsRead, Takes}
use Rattle.dag_cbor_blocks.specs.declared.visit.Event as kind
use Rattle.dag_cbor_blocks.specs.declared.visit.Event.TheVariants.{Null, Bool as Truth, Integer, Str, Bytes, Link as Linked, List as ListBegins, EndOfList, Map, Key, EndOfMap}
use Rattle.dag_cbor_blocks.specs.declared.measure.BlockSize.{BlockSize}
use Rattle.dag_cbor_blocks.specs.declared.measure.Measurer.{Measurer}
use Rattle.dag_cbor_blocks.proofs.EventReads.{count_known}
use Rattle.dag_cbor_blocks.proofs.Counting.{size, put_added}

-- ---- an event is counted

abbrev block_size : ℕ → ℕ → ℕ → BlockSize
block_size levels values links = record { levels = levels; values = values; links = links }

same_size : (a b c x y z : ℕ) → a ≡ x → b ≡ y → c ≡ z → block_size a b c ≡ block_size x y z
same_size a b c x y z e f g = rw (e, f, g) refl

-- a value that is neither a list nor a map
pub counts_flat : (old new : Measurer) (t : TokenModel) (left : ℕ) (key : Bool) (r : Result (Unit {0}) AllocError) → ((more : List TokenModel) → links_among (t ∷ more) ≡ links_among more)
    → values_of t key ≡ 1 → depth_after t old.depth ≡ old.depth → depth_at t old.depth ≡ 0 → Counts old.depth old.levels old.links old r new → Takes measured old ((t, left, key) ∷ []) r new
counts_flat old new t left key (Ok u) unlinked one same flat e = λ more.
    let deep : deepest_in new.depth more ≡ deepest_in (depth_after t old.depth) more = ap (λ (m : Measurer). deepest_in m.depth more) e ∙ ap (λ d. deepest_in d more) (sym same) in
    same_size _ _ _ _ _ _
    (omega (arith, deep, flat, ap (λ (m : Measurer). m.levels) e)) (omega (arith, one, ap (λ (m : Measurer). m.values) e)) (omega (arith, ap (λ (m : Measurer). m.links) e, ap length (unlinked (tokens_in more))))
counts_flat old new t left key (Err error) unlinked one same flat e = tt

-- a list or a map begins
pub counts_begun : (old new : Measurer) (t : TokenModel) (left : ℕ) (key : Bool) (r : Result (Unit {0}) AllocError) → ((more : List TokenModel) → links_among (t ∷ more) ≡ links_among more)
    → values_of t key ≡ 1 → Counts (depth_after t old.depth) (max old.levels (depth_at t old.depth)) old.links old r new → Takes measured old ((t, left, key) ∷ []) r new
counts_begun old new t left key (Ok u) unlinked one e = λ more.
    let deep : deepest_in new.depth more ≡ deepest_in (depth_after t old.depth) more = ap (λ (m : Measurer). deepest_in m.depth more) e in
    same_size _ _ _ _ _ _
    (omega (arith, deep, ap (λ (m : Measurer). m.levels) e)) (omega (arith, one, ap (λ (m : Measurer). m.values) e)) (omega (arith, ap (λ (m : Measurer). m.links) e, ap length (unlinked (tokens_in more))))
counts_begun old new t left key (Err error) unlinked one e = tt

-- one ends
pub counts_end : (old new : Measurer) (t : TokenModel) (left : ℕ) (key : Bool) → ((more : List TokenModel) → links_among (t ∷ more) ≡ links_among more)
    → values_of t key ≡ 0 → depth_at t old.depth ≡ 0 → new ≡ record old { depth = depth_after t old.depth } → Takes measured old ((t, left, key) ∷ []) (Ok tt) new
counts_end old new t left key unlinked none_come flat e = λ more.
    let deep : deepest_in new.depth more ≡ deepest_in (depth_after t old.depth) more = ap (λ (m : Measurer). deepest_in m.depth more) e in
    same_size _ _ _ _ _ _
    (omega (arith, deep, flat, ap (λ (m : Measurer). m.levels) e)) (omega (arith, none_come, ap (λ (m : Measurer). m.values) e)) (omega (arith, ap (λ (m : Measurer). m.links) e, ap length (unlinked (tokens_in more))))

counts_key : (old : Measurer) (s : List ℕ) (left : ℕ) → Takes measured old ((atom (text s), left, true) ∷ []) (Ok tt) old
counts_key old s left = λ more. same_size _ _ _ _ _ _ (omega arith) (omega arith) refl

-- a link
counts_link : (old new : Measurer) (encoded : List ℕ) (cid : Link) (left behind : ℕ) (key : Bool) (r : Result (Unit {0}) AllocError) → read_link 64 encoded ≡ Some cid
    → Counts old.depth old.levels (old.links + 1) old r new → Takes measured old ((link, left, false) ∷ (bytes encoded, behind, key) ∷ []) r new
counts_link old new encoded cid left behind key (Ok u) read e = λ more.
    let deep : deepest_in new.depth more ≡ deepest_in old.depth more = ap (λ (m : Measurer). deepest_in m.depth more) e in
    let one : length (link_before (read_link 64 encoded) (links_among (tokens_in more))) ≡ length (links_among (tokens_in more)) + 1 = ap (λ o. length (link_before o (links_among (tokens_in more)))) read ∙ omega arith in
    same_size _ _ _ _ _ _
    (omega (arith, deep, ap (λ (m : Measurer). m.levels) e)) (omega (arith, ap (λ (m : Measurer). m.values) e)) (omega (arith, ap (λ (m : Measurer). m.links) e, one))
counts_link old new encoded cid left behind key (Err error) read e = tt

pub counts_link_part : (e : kind.Event) (cid : CidGeneric 64) (encoded : Bor (List ℕ)) (behind : ℕ) (old new : Measurer) (r : Result (Unit {0}) AllocError) (left : ℕ) (key : Bool) → e ≡ Linked cid encoded behind → IsRead e
    → Counts old.depth old.levels (old.links + 1) old r new → Takes measured old (events_of e left key) r new
counts_link_part e cid encoded behind old new r left key is read h =
    subst (λ x. Takes measured old (events_of x left key) r new) (sym is) (counts_link old new encoded.now (link_of cid) left behind key r (subst IsRead is read) h)

-- a key comes
pub counts_key_part : (e : kind.Event) (string : Bor (List ℕ)) (old : Measurer) (left : ℕ) (key : Bool) → e ≡ Key string → Takes measured old (events_of e left key) (Ok tt) old
counts_key_part e string old left key is = subst (λ x. Takes measured old (events_of x left key) (Ok tt) old) (sym is) (counts_key old string.now left)

-- a scalar that is no link
pub counts_scalar : (e : kind.Event) → ((content : Bor (List ℕ)) → e ≡ Key content → ⊥) → ((cid : CidGeneric 64) (encoded : Bor (List ℕ)) (behind : ℕ) → e ≡ Linked cid encoded behind → ⊥)
    → ((hint : Option ℕ) → e ≡ ListBegins hint → ⊥) → (e ≡ Map → ⊥) → (e ≡ EndOfList → ⊥) → (e ≡ EndOfMap → ⊥)
    → (old new : Measurer) (r : Result (Unit {0}) AllocError) (left : ℕ) (key : Bool) → Counts old.depth old.levels old.links old r new → Takes measured old (events_of e left key) r new
counts_scalar Null no_key no_link list opens ends closes old new r left key h = counts_flat old new (atom none) left key r (λ more. refl) refl refl refl h
counts_scalar (Truth truth) no_key no_link list opens ends closes old new r left key h = counts_flat old new (atom (boolean truth)) left key r (λ more. refl) refl refl refl h
counts_scalar (Integer number) no_key no_link list opens ends closes old new r left key h = counts_flat old new (atom (integer number)) left key r (λ more. refl) refl refl refl h
counts_scalar (Str string) no_key no_link list opens ends closes old new r left key h = counts_flat old new (atom (text string.now)) left false r (λ more. refl) refl refl refl h
counts_scalar (Bytes b) no_key no_link list opens ends closes old new r left key h = counts_flat old new (bytes b.now) left key r (λ more. refl) refl refl refl h
counts_scalar (Key string) no_key no_link list opens ends closes old new r left key h = absurd (no_key string refl)
counts_scalar (Linked cid encoded behind) no_key no_link list opens ends closes old new r left key h = absurd (no_link cid encoded behind refl)
counts_scalar (ListBegins hint) no_key no_link list opens ends closes old new r left key h = absurd (list hint refl)
counts_scalar EndOfList no_key no_link list opens ends closes old new r left key h = absurd (ends refl)
counts_scalar Map no_key no_link list opens ends closes old new r left key h = absurd (opens refl)
counts_scalar EndOfMap no_key no_link list opens ends closes old new r left key h = absurd (closes refl)

-- ---- the events of a tree

-- where so many lists and maps are open, these events add so many values, and lists and maps that nest so deep
record SizeIn (depth deep many : ℕ) (es more : List Event) : Type 0 where
  values : values_in (es ++ more) ≡ many + values_in more
  levels : max depth (deepest_in depth (es ++ more)) ≡ max (depth + deep) (deepest_in depth more)

-- a scalar
flat_size : (t : TokenModel) (u : Tree) (es more : List Event) (depth n : ℕ) → es ≡ (t, n, false) ∷ [] → values_of t false ≡ 1 → depth_at t depth ≡ 0 → depth_after t depth ≡ depth → size u ≡ 1 → nest u ≡ 0
    → SizeIn depth (nest u) (size u) es more
flat_size t u es more depth n is one flat same small level = record {
  values = omega (arith, ap (λ xs. values_in (xs ++ more)) is, one, small);
  levels = omega (arith, ap (λ xs. deepest_in depth (xs ++ more)) is, flat, ap (λ d. deepest_in d more) same, level);
}

atom_values : (a : Atom) → values_of (atom a) false ≡ 1
atom_values none = refl
atom_values unit = refl
atom_values unit_struct = refl
atom_values (boolean b) = refl
atom_values (integer n) = refl
atom_values (unsigned n) = refl
atom_values (character c) = refl
atom_values (text s) = refl
atom_values (unit_variant s) = refl

-- a scalar's tree
record Small (t : Tree) : Type 0 where
  one : size t ≡ 1
  flat : nest t ≡ 0

small : (t u : Tree) → t ≡ u → size t ≡ 1 → nest t ≡ 0 → Small u
small t u is one flat = record { one = sym (ap size is) ∙ one; flat = sym (ap nest is) ∙ flat }

small_number : (n : ℕ) (b : Bool) (t : Tree) → (if b then Some (tree.integer (pos n)) else None) ≡ Some t → Small t
small_number n true t e = small (tree.integer (pos n)) t (some_tree (tree.integer (pos n)) t e) refl refl
small_number n false t e = absurd cc

small_atom : (a : Atom) (t : Tree) → tree_of_atom a ≡ Some t → Small t
small_atom none t e = small tree.null t (some_tree tree.null t e) refl refl
small_atom unit t e = small tree.null t (some_tree tree.null t e) refl refl
small_atom unit_struct t e = small tree.null t (some_tree tree.null t e) refl refl
small_atom (boolean b) t e = small (tree.boolean b) t (some_tree (tree.boolean b) t e) refl refl
small_atom (integer n) t e = small (tree.integer n) t (some_tree (tree.integer n) t e) refl refl
small_atom (unsigned n) t e = small_number n (nat_lt n (2 ^ 127)) t e
small_atom (character c) t e = small (tree.text _) t (some_tree (tree.text _) t e) refl refl
small_atom (text s) t e = small (tree.text s) t (some_tree (tree.text s) t e) refl refl
small_atom (unit_variant s) t e = absurd cc

mutual
  item_size : (i : Item 64) (t : Tree) (es more : List Event) (depth : ℕ) → EventsOf i es → tree_of_item i ≡ Some t → SizeIn depth (nest t) (size t) es more
  item_size (atom_item a) t es more depth h e =
      let s = small_atom a t e in
      flat_size (atom a) t es more depth h.0 h.1 (atom_values a) refl refl s.one s.flat
  item_size (bytes_item b) t es more depth h e =
      let s = small (tree.bytes b) t (some_tree (tree.bytes b) t e) refl refl in
      flat_size (bytes b) t es more depth h.0 h.1 refl refl refl s.one s.flat
  item_size (some_item i) t es more depth h e = absurd h
  item_size (variant_item name i) t es more depth h e = absurd h
  item_size (list_item is) t es more depth h e =
      let l = list_has (items_of_parts is) t e in
      let last = (seq_end, h.1, false) ∷ more in
      let inner = parts_size is l.0 h.2 last (depth + 1) h.3 l.1 in
      let all : es ++ more ≡ (seq, h.0, false) ∷ (h.2 ++ last) = ap (λ xs. xs ++ more) h.4 ∙ ap (λ xs. (seq, h.0, false) ∷ xs) (append_assoc h.2 ((seq_end, h.1, false) ∷ []) more) in
      let back : deepest_in (depth + 1 - 1) more ≡ deepest_in depth more = ap (λ d. deepest_in d more) (omega arith) in
      record {
        values = omega (arith, ap values_in all, inner.values, ap size l.2);
        levels = omega (arith, ap (deepest_in depth) all, inner.levels, back, ap nest l.2);
      }
  item_size (map_item ps) t es more depth h e =
      let m = map_has (members_of_pairs ps) t e in
      let last = (map_end, h.1, false) ∷ more in
      let inner = pairs_size ps m.0 h.2 last (depth + 1) h.3 m.1 in
      let all : es ++ more ≡ (token.map, h.0, false) ∷ (h.2 ++ last) = ap (λ xs. xs ++ more) h.4 ∙ ap (λ xs. (token.map, h.0, false) ∷ xs) (append_assoc h.2 ((map_end, h.1, false) ∷ []) more) in
      let back : deepest_in (depth + 1 - 1) more ≡ deepest_in depth more = ap (λ d. deepest_in d more) (omega arith) in
      record {
        values = omega (arith, ap values_in all, inner.values, ap size m.2);
        levels = omega (arith, ap (deepest_in depth) all, inner.levels, back, ap nest m.2);
      }
  item_size (link_item b cid is) t es more depth h e =
      let s = small (tree.link cid) t (some_tree (tree.link cid) t e) refl refl in
      record {
        values = omega (arith, ap (λ xs. values_in (xs ++ more)) h.2, s.one);
        levels = omega (arith, ap (λ xs. deepest_in depth (xs ++ more)) h.2, s.flat);
      }

  parts_size : (is : Parts 64) (ts : Items) (es more : List Event) (depth : ℕ) → PartsEvents is es → items_of_parts is ≡ Some ts → SizeIn depth (items_nest ts) (length (items_preorder ts)) es more
  parts_size no_parts ts es more depth h e =
      let none_in = some_items no_items ts e in
      record {
        values = omega (arith, ap (λ xs. values_in (xs ++ more)) h, ap (λ us. length (items_preorder us)) none_in);
        levels = omega (arith, ap (λ xs. deepest_in depth (xs ++ more)) h, ap items_nest none_in);
      }
  parts_size (part i is) ts es more depth h e =
      let p = part_has (tree_of_item i) (items_of_parts is) ts e in
      let first = item_size i p.0 h.0 (h.1 ++ more) depth h.2 p.2 in
      let rest = parts_size is p.1 h.1 more depth h.3 p.3 in
      let all : es ++ more ≡ h.0 ++ (h.1 ++ more) = ap (λ xs. xs ++ more) h.4 ∙ append_assoc h.0 h.1 more in
      record {
        values = omega (arith, ap values_in all, first.values, rest.values, ap (λ us. length (items_preorder us)) p.4, length-append (preorder p.0) (items_preorder p.1));
        levels = omega (arith, ap (deepest_in depth) all, first.levels, rest.levels, ap items_nest p.4);
      }

  pairs_size : (ps : Pairs 64) (ms : Members) (es more : List Event) (depth : ℕ) → PairsEvents ps es → members_of_pairs ps ≡ Some ms → SizeIn depth (members_nest ms) (length (members_preorder ms)) es more
  pairs_size no_pairs ms es more depth h e =
      let none_in = some_members no_members ms e in
      record {
        values = omega (arith, ap (λ xs. values_in (xs ++ more)) h, ap (λ us. length (members_preorder us)) none_in);
        levels = omega (arith, ap (λ xs. deepest_in depth (xs ++ more)) h, ap members_nest none_in);
      }
  pairs_size (pair key v ps) ms es more depth h e =
      let p = pair_has (key_text key) (tree_of_item v) (members_of_pairs ps) ms e in
      let a = put_added p.key p.value p.others p.new in
      let first = item_size v p.value h.2 (h.3 ++ more) depth h.5 p.has_value in
      let rest = pairs_size ps p.others h.3 more depth h.6 p.has_others in
      let all : es ++ more ≡ (atom (text h.0), h.1, true) ∷ (h.2 ++ (h.3 ++ more)) = ap (λ xs. xs ++ more) h.7 ∙ ap (λ xs. (atom (text h.0), h.1, true) ∷ xs) (append_assoc h.2 h.3 more) in
      record {
        values = omega (arith, ap values_in all, first.values, rest.values, ap (λ us. length (members_preorder us)) p.is, a.values);
        levels = omega (arith, ap (deepest_in depth) all, first.levels, rest.levels, ap members_nest p.is, a.levels);
      }

-- ---- a block

-- the lists and maps of a block nest as deep as those of its tree
pub nests : (floats : Bool) (block : List ℕ) (t : Tree) → EncodesTreeIn floats t block → deepest_in 0 (trace_of floats block).events ≡ nest t
nests floats block t (i, encodes, is) =
    let over = over_block_in cid_laws floats i t block encodes is in
    let s = item_size i t over.events [] 0 over.of is in
    omega (arith, ap (λ (x : Trace). deepest_in 0 x.events) over.is, s.levels)

module _ (floats : Bool) (block : List ℕ) (old new : Measurer) (fresh : old ≡ record { depth = 0; levels = 0; values = 0; links = 0 })
    (whole : (trace_of floats block).error ≡ None) (same : measured new [] ≡ measured old (trace_of floats block).events) where
  abbrev events : List Event
  events = (trace_of floats block).events

  abbrev result : BlockSize
  result = record { levels = new.levels; values = new.values; links = new.links }

  pub block_measures : (t : Tree) → EncodesTreeIn floats t block → Measures t result
  block_measures t (i, encodes, is) =
      let over = over_block_in cid_laws floats i t block encodes is in
      let all : events ≡ over.events ++ [] = ap (λ (x : Trace). x.events) over.is in
      let s = item_size i t over.events [] 0 over.of is in
      let begun : deepest_in old.depth events ≡ deepest_in 0 events = ap (λ (m : Measurer). deepest_in m.depth events) fresh in
      record {
        levels = omega (arith, ap (λ (x : BlockSize). x.levels) same, ap (λ (m : Measurer). m.levels) fresh, begun, ap (deepest_in 0) all, s.levels);
        values = omega (arith, ap (λ (x : BlockSize). x.values) same, ap (λ (m : Measurer). m.values) fresh, ap values_in all, s.values);
      }

  pub block_tree : (t : Tree) × EncodesTreeIn floats t block × Measures t result
  block_tree = let w = encodes_tree_in cid_laws floats block whole in (w.0, w.1, block_measures w.0 w.1)

  pub block_links : option_map length (links_read floats block) ≡ Some new.links
  block_links = count_known floats block whole new.links (omega (arith, ap (λ (m : Measurer). m.links) fresh, ap (λ (x : BlockSize). x.links) same))
