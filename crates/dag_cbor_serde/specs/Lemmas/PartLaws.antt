-- The laws of a block that is read part by part: a list or a map is its head and the items or
-- entries after it.
use Rattle.std.proofs.Common.{◌≡◌, ◌≤◌, ℕ, suc, Bool, true, false, cond, List, [], ◌∷◌, ◌++◌, length, Option, Some, None, option_map, Ordering, Less, Equal, Greater, nat_cmp, refl, sym, ap, ap₂, subst, ◌∙◌, append_assoc, arith, bytes_eq}
use Rattle.std.proofs.lemmas.Map.Text.{is_eq-slice_cmp}
use Rattle.std.proofs.lemmas.Slice.Eq.{bytes_eq-Decides}
use Rattle.std.specs.Cmp.Lexicographic.{slice_cmp}
use Rattle.std.specs.Ordering.{is_eq, match_ordering}
use Rattle.ipld_tree.specs.Index.{value_at}
use Rattle.ipld_tree.specs.Put.{put}
use Rattle.ipld_tree.specs.Tree.{Tree, list, entries, Items, Members, no_members, member}
use Rattle.ipld_tree.specs.TreeOf.{as_items}
use Rattle.ipld_tree.specs.Walk.{nest, items_nest, members_nest}
use Rattle.ipld_tokens.specs.Item.{Item, atom_item, list_item, map_item, Parts, no_parts, part, Pairs, no_pairs, pair}
use Rattle.ipld_tokens.specs.ItemTree.{has_key, put_new, tree_of_item, item_before, items_of_parts, members_of_pairs}
use Rattle.ipld_tokens.specs.Token.{text}
use Rattle.ipld_tokens.proofs.Putting.{or, has_key-put}
use Rattle.ipld_ser.specs.ImageWriter.{comes_first}
use Rattle.ipld_de.specs.ImageReader.{BeginAll, BeginsEntry, BeginEntries, Follows, KeysAscend, entered, AllPass, ListsBegin, MapsBegin}
use Rattle.ipld_de.specs.Lemmas.StructLaw.{value_at-put, value_at-put_other}
use Rattle.dag_cbor_format.specs.Encoding.{part_count, pair_count, encoding, parts_encoding, pairs_encoding, HasEncoding, HaveEncodings, PairsHaveEncodings}
use Rattle.dag_cbor_format.specs.Head.{head}
use Rattle.dag_cbor_format.specs.ItemHeads.{BeginsWithKey}
use Rattle.dag_cbor_format.specs.declared.major.Major.TheVariants.{Text, List as Array, Map}
use Rattle.dag_cbor_format.proofs.KeyOrder.{first_once, first_trans}
use Rattle.dag_cbor_blocks.proofs.Counting.{put_added}
use Rattle.dag_cbor.specs.Shallow.{Begins}
use Rattle.dag_cbor_serde.specs.Parts.{BeginsWithHead}

-- ---- lists

-- True if the bytes begin with items whose trees are these, and `rest` follows.
abbrev ItemsBegin : ℕ → List Tree → List ℕ → List ℕ → Type 0
ItemsBegin levels ts bytes rest =
    (is : Parts 64) × HaveEncodings is × (items_of_parts is ≡ Some (as_items ts)) × (part_count is ≡ length ts) × (bytes ≡ parts_encoding is ++ rest) × (items_nest (as_items ts) ≤ levels)

items_begin : (levels : ℕ) (ts : List Tree) (bytes rest : List ℕ) → BeginAll (Begins levels) ts bytes rest → ItemsBegin levels ts bytes rest
items_begin levels [] bytes rest same = (no_parts, tt, refl, refl, same, omega arith)
items_begin levels (t ∷ ts) bytes rest (after, (i, has, is_t, f, flat), more) =
    let w = items_begin levels ts after rest more in (
      part i w.0,
      (has, w.1),
      ap₂ item_before is_t w.2,
      ap suc w.3,
      f ∙ ap (λ xs. encoding i ++ xs) w.4 ∙ sym (append_assoc (encoding i) (parts_encoding w.0) rest),
      omega (arith, flat, w.5),
    )

pub front_lists : ListsBegin Begins (BeginsWithHead Array)
front_lists levels ts bytes first rest head_is begun =
    let w = items_begin levels ts first rest begun in (
      list_item w.0,
      (omega (arith, head_is.0, w.3), w.1),
      ap (option_map list) w.2,
      head_is.1 ∙ ap (λ xs. head Array (length ts) ++ xs) w.4 ∙ sym (append_assoc (head Array (length ts)) (parts_encoding w.0) rest)
          ∙ ap (λ k. (head Array k ++ parts_encoding w.0) ++ rest) (sym w.3),
      omega (arith, w.5),
    )

-- ---- keys that ascend

differ_at : (j k : List ℕ) (b : Bool) → bytes_eq j k ≡ b → comes_first j k ≡ true → b ≡ false
differ_at j k false is first = refl
differ_at j k true is first =
    let same = (bytes_eq-Decides j k).0 is in
    let again : comes_first j j ≡ true = subst (λ i. comes_first j i ≡ true) (sym same) first in
    let both : true ≡ false = sym again ∙ first_once j j again in
    absurd cc

differ : (j k : List ℕ) → comes_first j k ≡ true → bytes_eq j k ≡ false
differ j k first = differ_at j k (bytes_eq j k) refl first

ascend_from : (j k : List ℕ) (es : List (List ℕ × Tree)) → comes_first j k ≡ true → KeysAscend (Some k) es → KeysAscend (Some j) es
ascend_from j k [] first ascend = tt
ascend_from j k (e ∷ es) first ascend = (first_trans j k e.0 first ascend.0, ascend.1)

-- ---- maps

put_held : (b : Bool) (name k : List ℕ) (t : Tree) (ms : Members) (held : Option Tree) → bytes_eq name k ≡ b → held ≡ value_at name ms → cond b (Some t) held ≡ value_at name (put k t ms)
put_held true name k t ms held is same =
    let equal = (bytes_eq-Decides name k).0 is in
    sym (ap (λ n. value_at n (put k t ms)) equal ∙ value_at-put k t ms)
put_held false name k t ms held is same = same ∙ sym (value_at-put_other name k t ms is)

put_passes_at : (test : List ℕ → Tree → Bool) (o : Ordering) (k l : List ℕ) (t u : Tree) (ms more : Members) → slice_cmp nat_cmp k l ≡ o → test k t ≡ true → AllPass test (member l u ms)
    → AllPass test more → AllPass test (match_ordering o (member k t (member l u ms)) (member l t ms) (member l u more))
put_passes_at test Less k l t u ms more is one pass deeper = (one, pass)
put_passes_at test Equal k l t u ms more is one pass deeper =
    let same : k ≡ l = (bytes_eq-Decides k l).0 (sym (is_eq-slice_cmp k l) ∙ ap is_eq is) in
    (ap (λ j. test j t) (sym same) ∙ one, pass.1)
put_passes_at test Greater k l t u ms more is one pass deeper = (pass.0, deeper)

put_passes : (test : List ℕ → Tree → Bool) (k : List ℕ) (t : Tree) (ms : Members) → test k t ≡ true → AllPass test ms → AllPass test (put k t ms)
put_passes test k t no_members one pass = (one, tt)
put_passes test k t (member l u ms) one pass = put_passes_at test (slice_cmp nat_cmp k l) k l t u ms (put k t ms) refl one pass (put_passes test k t ms one pass.1)

-- True if the bytes begin with pairs whose entries are these, and `rest` follows.
record EntriesBegin (levels : ℕ) (es : List (List ℕ × Tree)) (bytes rest : List ℕ) : Type 0 where
  pairs : Pairs 64
  members : Members
  have : PairsHaveEncodings pairs
  are : members_of_pairs pairs ≡ Some members
  count : pair_count pairs ≡ length es
  encoded : bytes ≡ pairs_encoding pairs ++ rest
  deep : members_nest members ≤ levels
  absent : (j : List ℕ) → KeysAscend (Some j) es → has_key j members ≡ false
  holds : (name : List ℕ) → value_at name (entered es no_members) ≡ value_at name members
  passes : (test : List ℕ → Tree → Bool) → AllPass test (entered es no_members) → AllPass test members

entry_begins : (levels : ℕ) (k : List ℕ) (t : Tree) (es : List (List ℕ × Tree)) (bytes behind after rest : List ℕ) → BeginsWithKey k bytes behind → Begins levels t behind after → KeysAscend (Some k) es
    → EntriesBegin levels es after rest → EntriesBegin levels ((k, t) ∷ es) bytes rest
entry_begins levels k t es bytes behind after rest key (i, has, is_t, f, flat) ascend w =
    let none = w.absent k ascend in
    let a = put_added k t w.members none in
    record {
      pairs = pair (atom_item (text k)) i w.pairs;
      members = put k t w.members;
      have = ((key.0, key.1), has, w.have);
      are = ap (put_new (Some k) (tree_of_item i)) w.are ∙ ap (λ o. put_new (Some k) o (Some w.members)) is_t ∙ ap (λ b. cond b None (Some (put k t w.members))) none;
      count = ap suc w.count;
      encoded = key.2 ∙ sym (append_assoc (head Text (length k)) k behind)
          ∙ ap (λ xs. (head Text (length k) ++ k) ++ xs) (f ∙ ap (λ xs. encoding i ++ xs) w.encoded ∙ sym (append_assoc (encoding i) (pairs_encoding w.pairs) rest))
          ∙ sym (append_assoc (head Text (length k) ++ k) (encoding i ++ pairs_encoding w.pairs) rest);
      deep = omega (arith, a.levels, flat, w.deep);
      absent = λ j earlier. has_key-put j k t w.members ∙ ap (λ b. or b (has_key j w.members)) (differ j k earlier.0) ∙ w.absent j (ascend_from j k es earlier.0 ascend);
      holds = λ name. put_held (bytes_eq name k) name k t w.members (value_at name (entered es no_members)) refl (w.holds name);
      passes = λ test pass. put_passes test k t w.members pass.0 (w.passes test pass.1);
    }

entries_begin : (levels : ℕ) (last : Option (List ℕ)) (es : List (List ℕ × Tree)) (bytes rest : List ℕ) → BeginEntries BeginsWithKey (Begins levels) es bytes rest → KeysAscend last es
    → EntriesBegin levels es bytes rest
entries_begin levels last [] bytes rest same ascend =
    record { pairs = no_pairs; members = no_members; have = tt; are = refl; count = refl; encoded = same; deep = omega arith; absent = λ j earlier. refl; holds = λ name. refl; passes = λ test pass. pass }
entries_begin levels last (e ∷ es) bytes rest (after, (behind, key, value), more) ascend =
    entry_begins levels e.0 e.1 es bytes behind after rest key value ascend.1 (entries_begin levels (Some e.0) es after rest more ascend.1)

pub front_maps : MapsBegin Begins (BeginsWithHead Map) BeginsWithKey
front_maps levels es bytes first rest head_is begun ascend =
    let w = entries_begin levels None es first rest begun ascend in (
      w.members,
      (
        map_item w.pairs,
        (omega (arith, head_is.0, w.count), w.have),
        ap (option_map entries) w.are,
        head_is.1 ∙ ap (λ xs. head Map (length es) ++ xs) w.encoded ∙ sym (append_assoc (head Map (length es)) (pairs_encoding w.pairs) rest)
            ∙ ap (λ k. (head Map k ++ pairs_encoding w.pairs) ++ rest) (sym w.count),
        omega (arith, w.deep),
      ),
      w.holds,
      w.passes,
    )
