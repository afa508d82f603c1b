-- No map of a tree that a text encodes is reserved: so a text is written of it.
use Rattle.std.proofs.Common.{◌≡◌, ℕ, Bool, true, false, List, ◌++◌, Option, Some, None, Result, Ok, Ordering, Less, Equal, Greater, nat_cmp, refl, sym, ap, subst, ◌∙◌}
use Rattle.std.specs.Prelude.{if◌then◌else◌, ◌||◌}
use Rattle.std.specs.Cmp.Lexicographic.{slice_cmp}
use Rattle.std.specs.Ordering.{match_ordering}
use Rattle.base64.specs.GeneralPurpose.{decoded_of}
use Rattle.base64.specs.Engines.{standard_no_pad}
use Rattle.ipld_cid.specs.Cid.{Link}
use Rattle.ipld_tokens.proofs.ItemLinks.{or_no}
use Rattle.ipld_tree.specs.Put.{put}
use Rattle.ipld_tree.specs.Tree.{Tree, null, boolean, integer, text, bytes, list, entries, link, Items, Members, no_members, member}
use Rattle.ipld_tree.specs.Walk.{preorder, items_preorder, members_preorder}
use Rattle.json.specs.Json as json
use Rattle.dag_json.specs.Encodes.{EncodesIn, EncodesItemsIn, EncodesMembersIn}
use Rattle.dag_json.specs.Form.{text_of}
use Rattle.dag_json.specs.LinkRead.{cid_of}
use Rattle.dag_json.specs.Objects.{only_tree, reserved_bytes, reserved_value, bytes_or_error, link_or_error}
use Rattle.dag_json.specs.Reserved.{is_reserved, any_reserved}
use Rattle.dag_json.specs.Written.{written}
use Rattle.dag_json.specs.declared.read_error.ReadErrorKind.{ReadErrorKind}
use Rattle.dag_json.proofs.Joining.{any_reserved-append}

none_of_both : (ts us : List Tree) → any_reserved ts ≡ false → any_reserved us ≡ false → any_reserved (ts ++ us) ≡ false
none_of_both ts us h g = any_reserved-append ts us ∙ ap (λ b. b || any_reserved us) h ∙ g

none_of_each : (ts us : List Tree) → any_reserved (ts ++ us) ≡ false → (any_reserved ts ≡ false) × (any_reserved us ≡ false)
none_of_each ts us h = or_no (any_reserved ts) (any_reserved us) (sym (any_reserved-append ts us) ∙ h)

-- ---- what an object is

link_unreserved : (o : Option Link) (t : Tree) → link_or_error o ≡ Ok t → any_reserved (preorder t) ≡ false
link_unreserved None t e = absurd cc
link_unreserved (Some l) t e = let same : link l ≡ t = cc in subst (λ u. any_reserved (preorder u) ≡ false) same refl

bytes_unreserved : (o : Option (List ℕ)) (t : Tree) → bytes_or_error o ≡ Ok t → any_reserved (preorder t) ≡ false
bytes_unreserved None t e = absurd cc
bytes_unreserved (Some b) t e = let same : bytes b ≡ t = cc in subst (λ u. any_reserved (preorder u) ≡ false) same refl

inner_unreserved : (o : Option Tree) (t : Tree) → reserved_bytes o ≡ Ok t → any_reserved (preorder t) ≡ false
inner_unreserved None t e = absurd cc
inner_unreserved (Some null) t e = absurd cc
inner_unreserved (Some (boolean b)) t e = absurd cc
inner_unreserved (Some (integer n)) t e = absurd cc
inner_unreserved (Some (text s)) t e = bytes_unreserved (decoded_of standard_no_pad s) t e
inner_unreserved (Some (bytes b)) t e = absurd cc
inner_unreserved (Some (list ts)) t e = absurd cc
inner_unreserved (Some (entries ms)) t e = absurd cc
inner_unreserved (Some (link l)) t e = absurd cc

value_unreserved : (o : Option Tree) (t : Tree) → reserved_value o ≡ Ok t → any_reserved (preorder t) ≡ false
value_unreserved None t e = absurd cc
value_unreserved (Some null) t e = absurd cc
value_unreserved (Some (boolean b)) t e = absurd cc
value_unreserved (Some (integer n)) t e = absurd cc
value_unreserved (Some (text s)) t e = link_unreserved (cid_of s) t e
value_unreserved (Some (bytes b)) t e = absurd cc
value_unreserved (Some (list ts)) t e = absurd cc
value_unreserved (Some (entries ms)) t e = inner_unreserved (only_tree ms) t e
value_unreserved (Some (link l)) t e = absurd cc

object_unreserved : (b : Bool) (ms : Members) (t : Tree) → is_reserved (entries ms) ≡ b → any_reserved (members_preorder ms) ≡ false
    → ◌≡◌ {A = Result Tree ReadErrorKind} (if b then reserved_value (only_tree ms) else Ok (entries ms)) (Ok t) → any_reserved (preorder t) ≡ false
object_unreserved true ms t is h e = value_unreserved (only_tree ms) t e
object_unreserved false ms t is h e =
    let same : entries ms ≡ t = cc in
    subst (λ u. any_reserved (preorder u) ≡ false) same (ap (λ b. b || any_reserved (members_preorder ms)) is ∙ h)

-- ---- a map with a value put

put_one : (o : Ordering) (k q : List ℕ) (t u : Tree) (ms : Members) → any_reserved (preorder t) ≡ false → any_reserved (members_preorder (member q u ms)) ≡ false
    → any_reserved (members_preorder (put k t ms)) ≡ false
    → any_reserved (members_preorder (match_ordering o (member k t (member q u ms)) (member q t ms) (member q u (put k t ms)))) ≡ false
put_one Less k q t u ms h g r = none_of_both (preorder t) (members_preorder (member q u ms)) h g
put_one Equal k q t u ms h g r = none_of_both (preorder t) (members_preorder ms) h (none_of_each (preorder u) (members_preorder ms) g).1
put_one Greater k q t u ms h g r = none_of_both (preorder u) (members_preorder (put k t ms)) (none_of_each (preorder u) (members_preorder ms) g).0 r

put_unreserved : (k : List ℕ) (t : Tree) (ms : Members) → any_reserved (preorder t) ≡ false → any_reserved (members_preorder ms) ≡ false → any_reserved (members_preorder (put k t ms)) ≡ false
put_unreserved k t no_members h g = none_of_both (preorder t) (members_preorder no_members) h refl
put_unreserved k t (member q u ms) h g =
    put_one (slice_cmp nat_cmp k q) k q t u ms h g (put_unreserved k t ms h (none_of_each (preorder u) (members_preorder ms) g).1)

-- ---- trees

mutual
  encoded_unreserved : (floats : Bool) (j : json.Json) (t : Tree) → EncodesIn floats j t → any_reserved (preorder t) ≡ false
  encoded_unreserved floats json.null t e = subst (λ u. any_reserved (preorder u) ≡ false) (sym e) refl
  encoded_unreserved floats (json.boolean b) t e = subst (λ u. any_reserved (preorder u) ≡ false) (sym e) refl
  encoded_unreserved floats (json.number s) t e = subst (λ u. any_reserved (preorder u) ≡ false) (sym e.2) refl
  encoded_unreserved floats (json.string s) t e = subst (λ u. any_reserved (preorder u) ≡ false) (sym e) refl
  encoded_unreserved floats (json.array js) t e = subst (λ u. any_reserved (preorder u) ≡ false) (sym e.2) (items_unreserved floats js e.0 e.1)
  encoded_unreserved floats (json.object os) t e =
      object_unreserved (is_reserved (entries e.0)) e.0 t refl (members_unreserved floats os no_members e.0 refl e.1) e.2

  items_unreserved : (floats : Bool) (js : json.Items) (ts : Items) → EncodesItemsIn floats js ts → any_reserved (items_preorder ts) ≡ false
  items_unreserved floats json.no_items ts e = subst (λ us. any_reserved (items_preorder us) ≡ false) (sym e) refl
  items_unreserved floats (json.item j js) ts e =
      subst (λ us. any_reserved (items_preorder us) ≡ false) (sym e.4)
      (none_of_both (preorder e.0) (items_preorder e.1) (encoded_unreserved floats j e.0 e.2) (items_unreserved floats js e.1 e.3))

  members_unreserved : (floats : Bool) (os : json.Members) (ms all : Members) → any_reserved (members_preorder ms) ≡ false → EncodesMembersIn floats os ms all
      → any_reserved (members_preorder all) ≡ false
  members_unreserved floats json.no_members ms all h e = subst (λ us. any_reserved (members_preorder us) ≡ false) (sym e) h
  members_unreserved floats (json.member k j os) ms all h e =
      members_unreserved floats os (put k e.0 ms) all (put_unreserved k e.0 ms (encoded_unreserved floats j e.0 e.2) h) e.3

pub encoded_written : (floats : Bool) (j : json.Json) (t : Tree) → EncodesIn floats j t → written t ≡ Some (text_of t)
encoded_written floats j t e = ap (λ b. if b then None else Some (text_of t)) (encoded_unreserved floats j t e)
