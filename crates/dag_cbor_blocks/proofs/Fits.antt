-- A tree has no more values than its block has bytes.
use Rattle.std.proofs.Common.{◌≡◌, ◌≤◌, ◌<◌, inl, inr, ℕ, pos, negsuc, suc, Bool, true, false, List, [], ◌∷◌, ◌++◌, length, Some, refl, sym, ap, arith}
use Rattle.std.specs.Prelude.{◌==◌}
use Rattle.std.proofs.lemmas.Bool.{eqb-true}
use Rattle.std.proofs.lemmas.List.{length-append}
use Rattle.ipld_tree.specs.Limits.{Within}
use Rattle.ipld_tree.specs.Tree.{Tree, Items, no_items, Members, no_members}
use Rattle.ipld_tree.specs.Tree as tree
use Rattle.ipld_tree.specs.Walk.{preorder, items_preorder, members_preorder, nest}
use Rattle.ipld_tree.specs.declared.limits.Limits.{Limits}
use Rattle.ipld_tokens.specs.Token as token
use Rattle.ipld_tokens.specs.Token.{Atom, none, boolean, integer, text}
use Rattle.ipld_tokens.specs.Item.{Item, atom_item, bytes_item, some_item, variant_item, list_item, map_item, link_item, Parts, no_parts, part, Pairs, no_pairs, pair}
use Rattle.ipld_tokens.specs.ItemTree.{tree_of_atom, key_text, tree_of_item, items_of_parts, members_of_pairs}
use Rattle.ipld_tokens.proofs.ItemLinks.{some_tree, some_items, some_members, list_has, map_has, part_has, pair_has}
use Rattle.dag_cbor_format.specs.declared.major.Major.TheVariants.{Unsigned, Negative, Bytes, Text, List as Array, Map, Tag, Simple}
use Rattle.dag_cbor_format.specs.Head.{head}
use Rattle.dag_cbor_format.specs.Encoding.{part_count, pair_count, atom_encoding, encoding, parts_encoding, pairs_encoding, HasAtom, HasEncoding, HaveEncodings, PairsHaveEncodings, EncodesTree}
use Rattle.dag_cbor_format.specs.WithFloats.{EncodesIn, EncodeParts, EncodePairs}
use Rattle.dag_cbor_format.proofs.FloatLaws.{has_encoding}
use Rattle.dag_cbor_format.proofs.HeadLaws.{head_some}
use Rattle.dag_cbor_blocks.proofs.Counting.{size, put_added}

atom_bytes : (a : Atom) → HasAtom a → 0 < length (atom_encoding a)
atom_bytes none h = head_some Simple 22
atom_bytes token.unit h = absurd h
atom_bytes token.unit_struct h = absurd h
atom_bytes (boolean false) h = head_some Simple 20
atom_bytes (boolean true) h = head_some Simple 21
atom_bytes (integer (pos n)) h = head_some Unsigned n
atom_bytes (integer (negsuc n)) h = head_some Negative n
atom_bytes (token.unsigned n) h = absurd h
atom_bytes (token.character c) h = absurd h
atom_bytes (text s) h = omega (arith, head_some Text (length s), length-append (head Text (length s)) s)
atom_bytes (token.unit_variant s) h = absurd h

atom_size : (a : Atom) (t : Tree) → HasAtom a → tree_of_atom a ≡ Some t → size t ≡ 1
atom_size none t h e = sym (ap size (some_tree tree.null t e))
atom_size token.unit t h e = absurd h
atom_size token.unit_struct t h e = absurd h
atom_size (boolean b) t h e = sym (ap size (some_tree (tree.boolean b) t e))
atom_size (integer n) t h e = sym (ap size (some_tree (tree.integer n) t e))
atom_size (token.unsigned n) t h e = absurd h
atom_size (token.character c) t h e = absurd h
atom_size (text s) t h e = sym (ap size (some_tree (tree.text s) t e))
atom_size (token.unit_variant s) t h e = absurd h

mutual
  item_fits : (i : Item 64) (t : Tree) → HasEncoding i → tree_of_item i ≡ Some t → size t ≤ length (encoding i)
  item_fits (atom_item a) t h e = omega (arith, atom_size a t h e, atom_bytes a h)
  item_fits (bytes_item b) t h e = omega (arith, ap size (some_tree (tree.bytes b) t e), head_some Bytes (length b), length-append (head Bytes (length b)) b)
  item_fits (some_item i) t h e = absurd h
  item_fits (variant_item name i) t h e = absurd h
  item_fits (list_item is) t h e =
      let l = list_has (items_of_parts is) t e in
      omega (arith, ap size l.2, parts_fit is l.0 h.1 l.1, head_some Array (part_count is), length-append (head Array (part_count is)) (parts_encoding is))
  item_fits (map_item ps) t h e =
      let m = map_has (members_of_pairs ps) t e in
      omega (arith, ap size m.2, pairs_fit ps m.0 h.1 m.1, head_some Map (pair_count ps), length-append (head Map (pair_count ps)) (pairs_encoding ps))
  item_fits (link_item encoded cid is) t h e =
      omega (arith, ap size (some_tree (tree.link cid) t e), head_some Tag 42, length-append (head Tag 42) (head Bytes (suc (length encoded)) ++ 0 ∷ encoded))

  parts_fit : (is : Parts 64) (ts : Items) → HaveEncodings is → items_of_parts is ≡ Some ts → length (items_preorder ts) ≤ length (parts_encoding is)
  parts_fit no_parts ts h e = omega (arith, ap (λ us. length (items_preorder us)) (some_items no_items ts e))
  parts_fit (part i is) ts h e =
      let p = part_has (tree_of_item i) (items_of_parts is) ts e in
      omega (
        arith,
        ap (λ us. length (items_preorder us)) p.4,
        item_fits i p.0 h.0 p.2,
        parts_fit is p.1 h.1 p.3,
        length-append (preorder p.0) (items_preorder p.1),
        length-append (encoding i) (parts_encoding is),
      )

  pairs_fit : (ps : Pairs 64) (ms : Members) → PairsHaveEncodings ps → members_of_pairs ps ≡ Some ms → length (members_preorder ms) ≤ length (pairs_encoding ps)
  pairs_fit no_pairs ms h e = omega (arith, ap (λ us. length (members_preorder us)) (some_members no_members ms e))
  pairs_fit (pair key v ps) ms h e =
      let p = pair_has (key_text key) (tree_of_item v) (members_of_pairs ps) ms e in
      let a = put_added p.key p.value p.others p.new in
      omega (
        arith,
        ap (λ us. length (members_preorder us)) p.is,
        a.values,
        item_fits v p.value h.1 p.has_value,
        pairs_fit ps p.others h.2 p.has_others,
        length-append (encoding key) (encoding v ++ pairs_encoding ps),
        length-append (encoding v) (pairs_encoding ps),
      )

pub values_fit : (t : Tree) (bytes : List ℕ) → EncodesTree t bytes → length (preorder t) ≤ length bytes
values_fit t bytes (i, encodes, is) = omega (arith, item_fits i t encodes.0 is, ap length encodes.1)

pub allowed : (limits : Limits) (levels : ℕ) (t : Tree) (bytes : List ℕ) → EncodesTree t bytes → nest t ≤ levels → levels ≤ limits.levels → length bytes ≤ limits.values → Within limits t
allowed limits levels t bytes encodes flat fits enough = record {
  levels = omega (arith, flat, fits);
  values = omega (arith, values_fit t bytes encodes, enough);
}

-- ---- with floats

-- a float has more bytes than null
null_head : length (head Simple 22) ≡ 1
unfolding head
null_head = refl

mutual
  none_shorter : (floats : Bool) (i : Item 64) (bytes : List ℕ) → EncodesIn floats i bytes → length (encoding i) ≤ length bytes
  none_shorter floats (atom_item none) bytes (inl h) = omega (arith, ap length h)
  none_shorter floats (atom_item none) bytes (inr h) = omega (arith, null_head, ap length h.1.is)
  none_shorter floats (atom_item token.unit) bytes h = absurd h.0
  none_shorter floats (atom_item token.unit_struct) bytes h = absurd h.0
  none_shorter floats (atom_item (boolean b)) bytes h = omega (arith, ap length h.1)
  none_shorter floats (atom_item (integer n)) bytes h = omega (arith, ap length h.1)
  none_shorter floats (atom_item (token.unsigned n)) bytes h = absurd h.0
  none_shorter floats (atom_item (token.character c)) bytes h = absurd h.0
  none_shorter floats (atom_item (text s)) bytes h = omega (arith, ap length h.1)
  none_shorter floats (atom_item (token.unit_variant s)) bytes h = absurd h.0
  none_shorter floats (bytes_item b) bytes h = omega (arith, ap length h.1)
  none_shorter floats (some_item i) bytes h = absurd h
  none_shorter floats (variant_item name i) bytes h = absurd h
  none_shorter floats (list_item is) bytes h =
      omega (arith, parts_no_shorter floats is h.1 h.2, ap length h.3, length-append (head Array (part_count is)) (parts_encoding is), length-append (head Array (part_count is)) h.1)
  none_shorter floats (map_item ps) bytes h =
      omega (arith, pairs_no_shorter floats ps h.1 h.2, ap length h.3, length-append (head Map (pair_count ps)) (pairs_encoding ps), length-append (head Map (pair_count ps)) h.1)
  none_shorter floats (link_item encoded cid is) bytes h = omega (arith, ap length h.1)

  parts_no_shorter : (floats : Bool) (is : Parts 64) (bytes : List ℕ) → EncodeParts floats is bytes → length (parts_encoding is) ≤ length bytes
  parts_no_shorter floats no_parts bytes h = omega arith
  parts_no_shorter floats (part i is) bytes h =
      omega (arith, none_shorter floats i h.0 h.2, parts_no_shorter floats is h.1 h.3, ap length h.4, length-append (encoding i) (parts_encoding is), length-append h.0 h.1)

  pairs_no_shorter : (floats : Bool) (ps : Pairs 64) (bytes : List ℕ) → EncodePairs floats ps bytes → length (pairs_encoding ps) ≤ length bytes
  pairs_no_shorter floats no_pairs bytes h = omega arith
  pairs_no_shorter floats (pair key v ps) bytes h =
      omega (
        arith,
        none_shorter floats v h.0 h.3,
        pairs_no_shorter floats ps h.1 h.4,
        ap length h.5,
        length-append (encoding key) (encoding v ++ pairs_encoding ps),
        length-append (encoding v) (pairs_encoding ps),
        length-append (encoding key) (h.0 ++ h.1),
        length-append h.0 h.1,
      )

pub allowed_in : (floats : Bool) (limits : Limits) (levels : ℕ) (i : Item 64) (t : Tree) (bytes : List ℕ) → EncodesIn floats i bytes → tree_of_item i ≡ Some t → nest t ≤ levels → levels ≤ limits.levels
    → length bytes ≤ limits.values → Within limits t
allowed_in floats limits levels i t bytes encodes is flat fits enough = record {
  levels = omega (arith, flat, fits);
  values = omega (arith, item_fits i t (has_encoding floats i bytes encodes) is, none_shorter floats i bytes encodes, enough);
}

-- nothing follows
pub nothing_over : (rest : List ℕ) → (length rest == 0) ≡ true → rest ≡ []
nothing_over [] e = refl
nothing_over (b ∷ bs) e = absurd (cc (eqb-true (length (b ∷ bs)) 0 e))
