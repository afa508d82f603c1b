-- What is written of a tree encodes it.
use Rattle.std.proofs.Common.{◌≡◌, ◌≤◌, ℕ, ℤ, pos, negsuc, suc, Bool, true, false, List, [], ◌∷◌, ◌++◌, drop, get_or, Some, None, Ok, Less, Greater, nat_cmp, neg_ℤ, refl, sym, ap, subst, ◌∙◌, arith, cond, eqb}
use Rattle.std.specs.Prelude.{codes, FitsSigned, if◌then◌else◌}
use Rattle.std.specs.Cmp.Lexicographic.{slice_cmp}
use Rattle.std.specs.Fmt.{signed_decimal, decimal}
use Rattle.std.specs.Int.{w128}
use Rattle.std.specs.List.{AllByRecursion}
use Rattle.std.specs.List.Sorted.{IsStrictlySortedBy}
use Rattle.std.specs.Ordering.{is_eq, ordering_reverse}
use Rattle.std.specs.Result.{result_ok}
use Rattle.std.specs.Str.{IsUtf8}
use Rattle.std.specs.Str.Parse.{IsNumeral, digits_value, signed_digits_value, starts_with_minus, without_leading_sign}
use Rattle.std.proofs.lemmas.Bool.{ne_eqb}
use Rattle.std.proofs.lemmas.Cmp.{nat_list_cmp_total}
use Rattle.std.proofs.lemmas.Fmt.{decimal_is_IsNumeral_wide}
use Rattle.std.proofs.lemmas.Map.Text.{is_eq-slice_cmp}
use Rattle.std.proofs.lemmas.Str.Parse.{digit_at}
use Rattle.base64.specs.GeneralPurpose.{encode_of, decoded_of}
use Rattle.base64.specs.Engines.{standard_no_pad}
use Rattle.base64.proofs.EngineFacts.{decode_of-encode_of}
use Rattle.ipld_cid.specs.Multihash.{IsBytes}
use Rattle.ipld_tokens.specs.ItemTree.{has_key}
use Rattle.ipld_tokens.proofs.ItemLinks.{or_no}
use Rattle.ipld_tree.specs.IsTree.{IsTree, AreTrees, AreEntries}
use Rattle.ipld_tree.specs.IsWhole.{IsWhole, AreWhole, AreWholeEntries, Ascends, keys_in}
use Rattle.ipld_tree.specs.Put.{put}
use Rattle.ipld_tree.specs.Tree.{Tree, null, boolean, integer, text, bytes, list, entries, link, Items, no_items, item, Members, no_members, member}
use Rattle.ipld_tree.specs.Walk.{preorder, items_preorder, members_preorder}
use Rattle.dag_json.specs.Encodes.{EncodesIn, EncodesItemsIn, EncodesMembersIn, EncodesTree, EncodesWithin, IsJson, JsonWithin}
use Rattle.dag_json.specs.Form.{json_of, items_json, members_json, text_of}
use Rattle.ipld_cid_text.specs.UsualText.{usual_text}
use Rattle.dag_json.specs.Numbers.{integer_of, is_integral, number_or_error}
use Rattle.dag_json.specs.Objects.{object_tree, bytes_or_error, link_or_error}
use Rattle.dag_json.specs.Reserved.{is_reserved, any_reserved, has_reserved}
use Rattle.dag_json.specs.Written.{written}
use Rattle.ipld_tree.specs.declared.limits.Limits.{Limits}
use Rattle.dag_json.proofs.Texts.{is_json}
use Rattle.dag_json.proofs.Joining.{any_reserved-append}
use Rattle.dag_json.proofs.LinkReads.{link_read}
use Rattle.dag_json.proofs.Scalars.{integer_is}

-- ---- integers

drop_none : (ds : List ℕ) → drop 0 ds ≡ ds
drop_none [] = refl
drop_none (d ∷ ds) = refl

no_minus : (ds : List ℕ) → 48 ≤ get_or ds 0 0 → starts_with_minus ds ≡ false
no_minus ds h = ne_eqb (get_or ds 0 0) 45 (λ e. omega arith)

no_sign : (ds : List ℕ) → 48 ≤ get_or ds 0 0 → without_leading_sign ds ≡ ds
no_sign ds h =
    ap (λ b. cond b (drop 1 ds) (drop (cond (eqb (get_or ds 0 0) 43) 1 0) ds)) (no_minus ds h)
    ∙ ap (λ b. drop (cond b 1 0) ds) (ne_eqb (get_or ds 0 0) 43 (λ e. omega arith)) ∙ drop_none ds

pub integer_written : (z : ℤ) → FitsSigned w128 z → integer_of (signed_decimal z) ≡ Some z
integer_written (pos n) h =
    let ds = decimal n in
    let numeral = decimal_is_IsNumeral_wide n (omega arith) in
    let first = (digit_at ds 0 numeral.0.1 numeral.0.0).0 in
    let plain = no_sign ds first in
    let value : signed_digits_value 10 ds ≡ pos n =
    ap (λ b. cond b (neg_ℤ (pos (digits_value 10 (without_leading_sign ds)))) (pos (digits_value 10 (without_leading_sign ds)))) (no_minus ds first)
    ∙ ap (λ xs. pos (digits_value 10 xs)) plain ∙ ap pos numeral.1 in
    integer_is ds (subst (IsNumeral 10) (sym plain) numeral.0) (subst (FitsSigned w128) (sym value) h) ∙ ap Some value
integer_written (negsuc n) h =
    let numeral = decimal_is_IsNumeral_wide (suc n) (omega arith) in
    let value : signed_digits_value 10 (signed_decimal (negsuc n)) ≡ negsuc n = ap (λ k. neg_ℤ (pos k)) numeral.1 in
    integer_is (signed_decimal (negsuc n)) numeral.0 (subst (FitsSigned w128) (sym value) h) ∙ ap Some value

-- ---- keys that ascend

abbrev pub Below : Members → List ℕ → Type 0
Below no_members k = Unit {0}
Below (member q t ms) k = (slice_cmp nat_cmp q k ≡ Less) × Below ms k

abbrev pub join : Members → Members → Members
join no_members us = us
join (member k t ms) us = member k t (join ms us)

join-none : (ms : Members) → join ms no_members ≡ ms
join-none no_members = refl
join-none (member k t ms) = ap (member k t) (join-none ms)

join-one : (ms : Members) (k : List ℕ) (t : Tree) (us : Members) → join (join ms (member k t no_members)) us ≡ join ms (member k t us)
join-one no_members k t us = refl
join-one (member q u ms) k t us = ap (member q u) (join-one ms k t us)

above : (k q : List ℕ) → slice_cmp nat_cmp q k ≡ Less → slice_cmp nat_cmp k q ≡ Greater
above k q h = nat_list_cmp_total.antisymm k q ∙ ap ordering_reverse h

put_last : (k : List ℕ) (t : Tree) (ms : Members) → Below ms k → put k t ms ≡ join ms (member k t no_members)
put_last k t no_members h = refl
put_last k t (member q u ms) h = rw (above k q h.0) (ap (member q u) (put_last k t ms h.1))

no_key : (k : List ℕ) (ms : Members) → Below ms k → has_key k ms ≡ false
no_key k no_members h = refl
no_key k (member q u ms) h = rw (sym (is_eq-slice_cmp k q) ∙ ap is_eq (above k q h.0)) (no_key k ms h.1)

below-one : (ms : Members) (k y : List ℕ) (t : Tree) → Below ms y → slice_cmp nat_cmp k y ≡ Less → Below (join ms (member k t no_members)) y
below-one no_members k y t h less = (less, tt)
below-one (member q u ms) k y t h less = (h.0, below-one ms k y t h.1 less)

below-all : (ms : Members) (k : List ℕ) (t : Tree) (ys : List (List ℕ)) → AllByRecursion (λ y. Below ms y) ys → AllByRecursion (λ y. slice_cmp nat_cmp k y ≡ Less) ys
    → AllByRecursion (λ y. Below (join ms (member k t no_members)) y) ys
below-all ms k t [] h less = tt
below-all ms k t (y ∷ ys) h less = (below-one ms k y t h.0 less.0, below-all ms k t ys h.1 less.1)

below-none : (ys : List (List ℕ)) → AllByRecursion (λ y. Below no_members y) ys
below-none [] = tt
below-none (y ∷ ys) = (tt, below-none ys)

ascends_first : (k : List ℕ) (t : Tree) (ms : Members) → Ascends (member k t ms) → AllByRecursion (λ y. slice_cmp nat_cmp k y ≡ Less) (keys_in ms) × Ascends ms
unfolding IsStrictlySortedBy
ascends_first k t ms h = (h.0, h.1)

-- ---- bytes

decodes : (b : List ℕ) → IsBytes b → decoded_of standard_no_pad (encode_of standard_no_pad b) ≡ Some b
unfolding decoded_of
decodes b h = ap result_ok (decode_of-encode_of standard_no_pad b refl h)

-- ---- trees

none_first : (t : Tree) (ts : List Tree) → any_reserved (t ∷ ts) ≡ false → (is_reserved t ≡ false) × (any_reserved ts ≡ false)
none_first t ts h = or_no (is_reserved t) (any_reserved ts) h

none_both : (ts us : List Tree) → any_reserved (ts ++ us) ≡ false → (any_reserved ts ≡ false) × (any_reserved us ≡ false)
none_both ts us h = or_no (any_reserved ts) (any_reserved us) (sym (any_reserved-append ts us) ∙ h)

map_is : (ms : Members) → is_reserved (entries ms) ≡ false → object_tree ms ≡ Ok (entries ms)
map_is ms h = rw h refl

mutual
  pub encodes_written : (t : Tree) → IsTree t → IsWhole t → any_reserved (preorder t) ≡ false → EncodesIn false (json_of t) t
  encodes_written null h w r = refl
  encodes_written (boolean b) h w r = refl
  encodes_written (integer n) h w r = (n, ap (λ o. number_or_error o (is_integral (signed_decimal n))) (integer_written n w), refl)
  encodes_written (text s) h w r = refl
  encodes_written (bytes b) h w r =
      let s = encode_of standard_no_pad b in
      let inner = entries (member (codes "bytes") (text s) no_members) in
      (member (codes "/") inner no_members, (inner, refl, (member (codes "bytes") (text s) no_members, (text s, refl, refl, refl), refl), refl), ap bytes_or_error (decodes b w))
  encodes_written (list ts) h w r = (ts, items_written ts h w (none_first (list ts) (items_preorder ts) r).1, refl)
  encodes_written (entries ms) h w r =
      let parts = none_first (entries ms) (members_preorder ms) r in
      (ms, members_written ms no_members h w.1 w.0 (below-none (keys_in ms)) parts.1, map_is ms parts.0)
  encodes_written (link l) h w r = (member (codes "/") (text (usual_text l)) no_members, (text (usual_text l), refl, refl, refl), ap link_or_error (link_read l h))

  items_written : (ts : Items) → AreTrees ts → AreWhole ts → any_reserved (items_preorder ts) ≡ false → EncodesItemsIn false (items_json ts) ts
  items_written no_items h w r = refl
  items_written (item t ts) h w r =
      let parts = none_both (preorder t) (items_preorder ts) r in
      (t, ts, encodes_written t h.0 w.0 parts.0, items_written ts h.1 w.1 parts.1, refl)

  members_written : (ms first : Members) → AreEntries ms → AreWholeEntries ms → Ascends ms → AllByRecursion (λ y. Below first y) (keys_in ms) → any_reserved (members_preorder ms) ≡ false
      → EncodesMembersIn false (members_json ms) first (join first ms)
  members_written no_members first h w a below r = join-none first
  members_written (member k t ms) first h w a below r =
      let parts = none_both (preorder t) (members_preorder ms) r in
      let order = ascends_first k t ms a in (
        t,
        no_key k first below.0,
        encodes_written t h.1 w.0 parts.0,
        subst (λ us. EncodesMembersIn false (members_json ms) us (join first (member k t ms))) (sym (put_last k t first below.0))
            (subst (EncodesMembersIn false (members_json ms) (join first (member k t no_members))) (join-one first k t ms)
            (members_written ms (join first (member k t no_members)) h.2 w.1 order.1 (below-all first k t (keys_in ms) below.1 order.0) parts.1)),
      )

-- ---- the text that is written

written_parts : (b : Bool) (x s : List ℕ) → (if b then None else Some x) ≡ Some s → (b ≡ false) × (x ≡ s)
written_parts true x s e = absurd cc
written_parts false x s e = (refl, cc)

-- it encodes the tree, by the JSON that stands for it
pub written_encodes : (t : Tree) (s : List ℕ) → IsTree t → IsWhole t → IsUtf8 s → written t ≡ Some s → EncodesTree t s
written_encodes t s h w utf8 e =
    let parts = written_parts (has_reserved t) (text_of t) s e in
    record { utf8 = utf8; json = json_of t; is_json = subst (λ x. IsJson (json_of t) x) parts.1 (is_json t w).tokens; encodes = encodes_written t h w parts.0 }

pub written_within : (limits : Limits) (t : Tree) (s : List ℕ) → IsTree t → IsWhole t → IsUtf8 s → written t ≡ Some s → JsonWithin limits (json_of t) → EncodesWithin limits t s
unfolding written_encodes
written_within limits t s h w utf8 e within = record { tree = written_encodes t s h w utf8 e; within = within }
