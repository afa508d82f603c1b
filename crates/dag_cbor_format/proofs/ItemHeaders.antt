-- What an item begins with, both ways: what is read is encoded so, and what is encoded so is read.
use Rattle.std.proofs.Common.{◌≡◌, ℕ, pos, negsuc, zero, suc, ◌^◌, ◌<◌, ◌≤◌, true, false, ltb, eqb, List, [], ◌∷◌, ◌++◌, length, take, drop, Option, Some, None, is_some, refl, sym, ap, subst, ◌∙◌, append_assoc, arith, inl, inr}
use Rattle.std.specs.Str.{IsUtf8, is_utf8}
use Rattle.std.proofs.lemmas.Bool.{ltb-false, eqb-true, le-ltb}
use Rattle.std.proofs.lemmas.List.{take_at, drop_at, take-append-drop, length-append, length-take}
use Rattle.std.proofs.lemmas.Str.{IsUtf8-from_is_utf8, is_utf8-from_IsUtf8}
use Rattle.ipld_cid.specs.Cid.{Link}
use Rattle.ipld_cid.specs.Bytes.{IsCid}
use Rattle.ipld_tree.specs.Tree.{Tree}
use Rattle.ipld_tokens.specs.Token.{TokenModel, Atom, atom, none, boolean, integer, text}
use Rattle.ipld_tokens.specs.Item.{Item, atom_item, bytes_item, tokens_of}
use Rattle.ipld_tokens.specs.ItemTree.{tree_of_item}
use Rattle.ipld_tokens.specs.LinkBytes.{read_link}
use Rattle.dag_cbor_format.specs.declared.major.Major.{Major}
use Rattle.dag_cbor_format.specs.declared.major.Major.TheVariants.{Unsigned, Negative, Bytes, Text, List as Array, Map, Tag, Simple}
use Rattle.dag_cbor_format.specs.Head.{head, IsArgument}
use Rattle.dag_cbor_format.specs.HeadReading.{head_at}
use Rattle.dag_cbor_format.specs.Encoding.{encoding, HasEncoding}
use Rattle.dag_cbor_format.specs.ItemHeader.{Beginning, scalar, list, map, link, front, if_text, bytes_scalar, text_scalar, simple_at, item_header_after, item_header_of, item_header_at, text_after, key_of, key_at, if_cid, if_link, link_after, link_of_head, link_at}
use Rattle.dag_cbor_format.proofs.HeadLaws.{chosen, head_at-head, head_encoded, head_some}
use Rattle.dag_cbor_format.proofs.ItemHeaderLaws.{CidLaws, read_link-complete, link_encoded}

-- ---- some bytes, and what follows them

pub front-append : (b rest : List ℕ) (n : ℕ) → length b ≡ n → front n (b ++ rest) ≡ Some (b, rest)
unfolding front
front-append b rest n e =
    let long : ltb (length (b ++ rest)) n ≡ false = le-ltb _ _ (omega (arith, length-append b rest, e)) in
    rw (long, take_at b rest n e, drop_at b rest n e)

pub front_is : (n : ℕ) (bytes b rest : List ℕ) → front n bytes ≡ Some (b, rest) → (length b ≡ n) × (bytes ≡ b ++ rest)
unfolding front
front_is n bytes b rest e =
    elim (chosen (ltb (length bytes) n) _ _ _ e) [
      | inl (t, x) ↦ absurd (cc x)
      | inr (f, x) ↦
          let long : n ≤ length bytes = ltb-false _ _ f in
          let cut : List ℕ × List ℕ = (take n bytes, drop n bytes) in
          let found : List ℕ × List ℕ = (b, rest) in
          let p : cut ≡ found = cc x in
          subst (λ (q : List ℕ × List ℕ). (length q.0 ≡ n) × (bytes ≡ q.0 ++ q.1)) p (omega (arith, length-take n bytes), sym (take-append-drop n bytes))
    ]

pub text_is : (o : Option (List ℕ × List ℕ)) (s rest : List ℕ) → if_text o ≡ Some (s, rest) → (o ≡ Some (s, rest)) × IsUtf8 s
text_is None s rest e = absurd cc
text_is (Some (a, more)) s rest e =
    elim (chosen (is_utf8 a) _ _ _ e) [
      | inl (t, x) ↦
          let cut : List ℕ × List ℕ = (a, more) in
          let found : List ℕ × List ℕ = (s, rest) in
          let p : cut ≡ found = cc x in
          (x, subst (λ (q : List ℕ × List ℕ). IsUtf8 q.0) p (IsUtf8-from_is_utf8 a t))
      | inr (f, x) ↦ absurd (cc x)
    ]

if_text-front : (s rest : List ℕ) → IsUtf8 s → if_text (front (length s) (s ++ rest)) ≡ Some (s, rest)
if_text-front s rest utf8 =
    let test = is_utf8-from_IsUtf8 s utf8 in
    ap if_text (front-append s rest (length s) refl) ∙ rw test

-- ---- what was read

-- the bytes are a whole scalar, or the head of a list, a map or a link
abbrev pub ItemHeaderIs : Beginning → List ℕ → List ℕ → Type 0
ItemHeaderIs (scalar t) bytes rest = (i : Item 64) × (tree : Tree) × HasEncoding i × (tree_of_item i ≡ Some tree) × (bytes ≡ encoding i ++ rest) × (tokens_of i ≡ t ∷ [])
ItemHeaderIs (list n) bytes rest = (n < 2 ^ 64) × (bytes ≡ head Array n ++ rest)
ItemHeaderIs (map n) bytes rest = (n < 2 ^ 64) × (bytes ≡ head Map n ++ rest)
ItemHeaderIs link bytes rest = bytes ≡ head Tag 42 ++ rest

abbrev Found : Major → ℕ → List ℕ → Beginning × List ℕ → Type 0
Found m n more q = (length q.1 ≤ length more) × ((bytes : List ℕ) → bytes ≡ head m n ++ more → ItemHeaderIs q.0 bytes q.1)

abbrev pair : Beginning → List ℕ → Beginning × List ℕ
pair l rest = (l, rest)

abbrev some : Beginning → List ℕ → Option (Beginning × List ℕ)
some l rest = Some (l, rest)

same_found : (m : Major) (n : ℕ) (more : List ℕ) (l k : Beginning) (r rest : List ℕ) → some l r ≡ some k rest → Found m n more (pair l r) → Found m n more (pair k rest)
same_found m n more l k r rest e h =
    let p : pair l r ≡ pair k rest = cc e in
    subst (Found m n more) p h

bytes_found : (n : ℕ) (more : List ℕ) (l : Beginning) (rest : List ℕ) (o : Option (List ℕ × List ℕ)) → front n more ≡ o → n < 2 ^ 64 → bytes_scalar o ≡ some l rest → Found Bytes n more (pair l rest)
bytes_found n more l rest None f lt e = absurd cc
bytes_found n more l rest (Some (b, r)) f lt e =
    let p = front_is n more b r f in
    same_found Bytes n more (scalar (Rattle.ipld_tokens.specs.Token.bytes b)) l r rest e (
      omega (arith, ap length p.1, length-append b r),
      λ bytes is. (
        bytes_item b,
        Rattle.ipld_tree.specs.Tree.bytes b,
        omega (arith, p.0),
        refl,
        is ∙ ap (λ xs. head Bytes n ++ xs) p.1 ∙ sym (append_assoc (head Bytes n) b r) ∙ ap (λ k. (head Bytes k ++ b) ++ r) (sym p.0),
        refl,
      ),
    )

text_found : (n : ℕ) (more : List ℕ) (l : Beginning) (rest : List ℕ) (o : Option (List ℕ × List ℕ)) → if_text (front n more) ≡ o → n < 2 ^ 64 → text_scalar o ≡ some l rest → Found Text n more (pair l rest)
text_found n more l rest None f lt e = absurd cc
text_found n more l rest (Some (s, r)) f lt e =
    let t = text_is (front n more) s r f in
    let p = front_is n more s r t.0 in
    same_found Text n more (scalar (atom (text s))) l r rest e (
      omega (arith, ap length p.1, length-append s r),
      λ bytes is. (
        atom_item (text s),
        Rattle.ipld_tree.specs.Tree.text s,
        (t.1, omega (arith, p.0)),
        refl,
        is ∙ ap (λ xs. head Text n ++ xs) p.1 ∙ sym (append_assoc (head Text n) s r) ∙ ap (λ k. (head Text k ++ s) ++ r) (sym p.0),
        refl,
      ),
    )

simple_is : (n k : ℕ) (more rest : List ℕ) (l : Beginning) (a : Atom) (tree : Tree) → n ≡ k → HasEncoding (atom_item a) → encoding (atom_item a) ≡ head Simple k → tree_of_item (atom_item a) ≡ Some tree
    → some (scalar (atom a)) more ≡ some l rest → Found Simple n more (pair l rest)
simple_is n k more rest l a tree nk has encoded is e =
    same_found Simple n more (scalar (atom a)) l more rest e (
      omega arith,
      λ bytes b. (atom_item a, tree, has, is, b ∙ ap (λ j. head Simple j ++ more) nk ∙ sym (ap (λ xs. xs ++ more) encoded), refl),
    )

simple_found : (n : ℕ) (more : List ℕ) (l : Beginning) (rest : List ℕ) → simple_at n more ≡ some l rest → Found Simple n more (pair l rest)
simple_found n more l rest e =
    elim (chosen (eqb n 20) _ _ _ e) [
      | inl (t, x) ↦ simple_is n 20 more rest l (boolean false) (Rattle.ipld_tree.specs.Tree.boolean false) (eqb-true n 20 t) tt refl refl x
      | inr (f, e1) ↦ elim (chosen (eqb n 21) _ _ _ e1) [
        | inl (t, x) ↦ simple_is n 21 more rest l (boolean true) (Rattle.ipld_tree.specs.Tree.boolean true) (eqb-true n 21 t) tt refl refl x
        | inr (f1, e2) ↦ elim (chosen (eqb n 22) _ _ _ e2) [
          | inl (t, x) ↦ simple_is n 22 more rest l none Rattle.ipld_tree.specs.Tree.null (eqb-true n 22 t) tt refl refl x
          | inr (f2, e3) ↦ absurd (cc e3)
        ]
      ]
    ]

tag_found : (n : ℕ) (more : List ℕ) (l : Beginning) (rest : List ℕ) → item_header_after Tag n more ≡ some l rest → Found Tag n more (pair l rest)
tag_found n more l rest e =
    elim (chosen (eqb n 42) _ _ _ e) [
      | inl (t, x) ↦ same_found Tag n more link l more rest x (omega arith, λ bytes is. is ∙ ap (λ k. head Tag k ++ more) (eqb-true n 42 t))
      | inr (f, x) ↦ absurd (cc x)
    ]

after_is : (m : Major) (n : ℕ) (more : List ℕ) (l : Beginning) (rest : List ℕ) → IsArgument m n → item_header_after m n more ≡ some l rest → Found m n more (pair l rest)
after_is Unsigned n more l rest lt e =
    same_found Unsigned n more (scalar (atom (integer (pos n)))) l more rest e
    (omega arith, λ bytes is. (atom_item (integer (pos n)), Rattle.ipld_tree.specs.Tree.integer (pos n), lt, refl, is, refl))
after_is Negative n more l rest lt e =
    same_found Negative n more (scalar (atom (integer (negsuc n)))) l more rest e
    (omega arith, λ bytes is. (atom_item (integer (negsuc n)), Rattle.ipld_tree.specs.Tree.integer (negsuc n), lt, refl, is, refl))
after_is Bytes n more l rest lt e = bytes_found n more l rest (front n more) refl lt e
after_is Text n more l rest lt e = text_found n more l rest (if_text (front n more)) refl lt e
after_is Array n more l rest lt e = same_found Array n more (list n) l more rest e (omega arith, λ bytes is. (lt, is))
after_is Map n more l rest lt e = same_found Map n more (map n) l more rest e (omega arith, λ bytes is. (lt, is))
after_is Tag n more l rest lt e = tag_found n more l rest e
after_is Simple n more l rest lt e = simple_found n more l rest e

item_header_where : (bytes : List ℕ) (o : Option (Major × ℕ × List ℕ)) → head_at bytes ≡ o → (l : Beginning) (rest : List ℕ) → item_header_of o ≡ some l rest → (length rest < length bytes) × ItemHeaderIs l bytes rest
item_header_where bytes None h l rest e = absurd cc
item_header_where bytes (Some (m, n, more)) h l rest e =
    let s = head_encoded bytes m n more h in
    let f = after_is m n more l rest s.0 e in
    (omega (arith, f.0, ap length s.1, length-append (head m n) more, head_some m n), f.1 bytes s.1)

pub item_header_is : (bytes : List ℕ) (l : Beginning) (rest : List ℕ) → item_header_at bytes ≡ some l rest → (length rest < length bytes) × ItemHeaderIs l bytes rest
unfolding item_header_at
item_header_is bytes l rest e = item_header_where bytes (head_at bytes) refl l rest e

-- ---- keys and links

key_after : (m : Major) (n : ℕ) (more k rest : List ℕ) → IsArgument m n → text_after m n more ≡ Some (k, rest)
    → (length rest ≤ length more) × IsUtf8 k × (length k < 2 ^ 64) × ((bytes : List ℕ) → bytes ≡ head m n ++ more → bytes ≡ (head Text (length k) ++ k) ++ rest)
key_after Unsigned n more k rest lt e = absurd cc
key_after Negative n more k rest lt e = absurd cc
key_after Bytes n more k rest lt e = absurd cc
key_after Text n more k rest lt e =
    let t = text_is (front n more) k rest e in
    let p = front_is n more k rest t.0 in (
      omega (arith, ap length p.1, length-append k rest),
      t.1,
      omega (arith, p.0),
      λ bytes is. is ∙ ap (λ xs. head Text n ++ xs) p.1 ∙ sym (append_assoc (head Text n) k rest) ∙ ap (λ j. (head Text j ++ k) ++ rest) (sym p.0),
    )
key_after Array n more k rest lt e = absurd cc
key_after Map n more k rest lt e = absurd cc
key_after Tag n more k rest lt e = absurd cc
key_after Simple n more k rest lt e = absurd cc

key_where : (bytes : List ℕ) (o : Option (Major × ℕ × List ℕ)) → head_at bytes ≡ o → (k rest : List ℕ) → key_of o ≡ Some (k, rest)
    → (length rest < length bytes) × IsUtf8 k × (length k < 2 ^ 64) × (bytes ≡ (head Text (length k) ++ k) ++ rest)
key_where bytes None h k rest e = absurd cc
key_where bytes (Some (m, n, more)) h k rest e =
    let s = head_encoded bytes m n more h in
    let f = key_after m n more k rest s.0 e in
    (omega (arith, f.0, ap length s.1, length-append (head m n) more, head_some m n), f.1, f.2, f.3 bytes s.1)

pub key_is : (bytes k rest : List ℕ) → key_at bytes ≡ Some (k, rest) → (length rest < length bytes) × IsUtf8 k × (length k < 2 ^ 64) × (bytes ≡ (head Text (length k) ++ k) ++ rest)
unfolding key_at
key_is bytes k rest e = key_where bytes (head_at bytes) refl k rest e

-- the bytes are those of a CID behind a zero byte, as a byte string
pub record LinkIs (bytes b rest : List ℕ) : Type 0 where
  pub cid : Link
  pub is : IsCid 64 b cid
  pub fits : suc (length b) < 2 ^ 64
  pub encoded : bytes ≡ (head Bytes (suc (length b)) ++ 0 ∷ b) ++ rest
  pub shorter : length rest < length bytes

some_link : (o : Option Link) → is_some o ≡ true → (cid : Link) × (o ≡ Some cid)
some_link None e = absurd cc
some_link (Some cid) e = (cid, refl)

cid_where : CidLaws → (b c more rest : List ℕ) → if_cid c more ≡ Some (b, rest) → (cid : Link) × IsCid 64 b cid × (c ≡ b) × (more ≡ rest)
cid_where laws b c more rest e =
    elim (chosen (is_some (read_link 64 c)) _ _ _ e) [
      | inl (t, x) ↦
          let cut : List ℕ × List ℕ = (c, more) in
          let found : List ℕ × List ℕ = (b, rest) in
          let p : cut ≡ found = cc x in
          let same : c ≡ b = ap (λ (q : List ℕ × List ℕ). q.0) p in
          let s = some_link (read_link 64 c) t in
          (s.0, subst (λ bs. IsCid 64 bs s.0) same (link_encoded laws c s.0 s.1), same, ap (λ (q : List ℕ × List ℕ). q.1) p)
      | inr (f, x) ↦ absurd (cc x)
    ]

content_where : CidLaws → (o : Option (List ℕ × List ℕ)) (b rest : List ℕ) → if_link o ≡ Some (b, rest) → (cid : Link) × IsCid 64 b cid × (o ≡ Some (0 ∷ b, rest))
content_where laws None b rest e = absurd cc
content_where laws (Some ([], more)) b rest e = absurd cc
content_where laws (Some (zero ∷ c, more)) b rest e =
    let w = cid_where laws b c more rest e in
    (w.0, w.1, ap (λ xs. Some (0 ∷ xs, more)) w.2 ∙ ap (λ xs. Some (0 ∷ b, xs)) w.3)
content_where laws (Some (suc a ∷ c, more)) b rest e = absurd cc

link_in : CidLaws → (m : Major) (n : ℕ) (bytes more b rest : List ℕ) → IsArgument m n → bytes ≡ head m n ++ more → link_after m n more ≡ Some (b, rest) → LinkIs bytes b rest
link_in laws Unsigned n bytes more b rest lt is e = absurd cc
link_in laws Negative n bytes more b rest lt is e = absurd cc
link_in laws Bytes n bytes more b rest lt is e =
    let w = content_where laws (front n more) b rest e in
    let p = front_is n more (0 ∷ b) rest w.2 in
    record {
      cid = w.0;
      is = w.1;
      fits = omega (arith, p.0);
      encoded = is ∙ ap (λ xs. head Bytes n ++ xs) p.1 ∙ sym (append_assoc (head Bytes n) (0 ∷ b) rest) ∙ ap (λ j. (head Bytes j ++ 0 ∷ b) ++ rest) (sym p.0);
      shorter = omega (arith, ap length p.1, length-append (0 ∷ b) rest, ap length is, length-append (head Bytes n) more);
    }
link_in laws Text n bytes more b rest lt is e = absurd cc
link_in laws Array n bytes more b rest lt is e = absurd cc
link_in laws Map n bytes more b rest lt is e = absurd cc
link_in laws Tag n bytes more b rest lt is e = absurd cc
link_in laws Simple n bytes more b rest lt is e = absurd cc

link_where : CidLaws → (bytes : List ℕ) (o : Option (Major × ℕ × List ℕ)) → head_at bytes ≡ o → (b rest : List ℕ) → link_of_head o ≡ Some (b, rest) → LinkIs bytes b rest
link_where laws bytes None h b rest e = absurd cc
link_where laws bytes (Some (m, n, more)) h b rest e =
    let s = head_encoded bytes m n more h in
    link_in laws m n bytes more b rest s.0 s.1 e

pub link_is : CidLaws → (bytes b rest : List ℕ) → link_at bytes ≡ Some (b, rest) → LinkIs bytes b rest
unfolding link_at
link_is laws bytes b rest e = link_where laws bytes (head_at bytes) refl b rest e

-- ---- what is encoded is read

-- after a head
pub item_header_at-head : (m : Major) (n : ℕ) (more : List ℕ) → IsArgument m n → item_header_at (head m n ++ more) ≡ item_header_after m n more
unfolding item_header_at
item_header_at-head m n more lt = ap item_header_of (head_at-head m n more lt)

pub item_header_at-bytes : (b rest : List ℕ) → length b < 2 ^ 64 → item_header_at ((head Bytes (length b) ++ b) ++ rest) ≡ some (scalar (Rattle.ipld_tokens.specs.Token.bytes b)) rest
item_header_at-bytes b rest lt =
    ap item_header_at (append_assoc (head Bytes (length b)) b rest) ∙ item_header_at-head Bytes (length b) (b ++ rest) lt ∙ ap bytes_scalar (front-append b rest (length b) refl)

pub item_header_at-text : (s rest : List ℕ) → IsUtf8 s → length s < 2 ^ 64 → item_header_at ((head Text (length s) ++ s) ++ rest) ≡ some (scalar (atom (text s))) rest
item_header_at-text s rest utf8 lt =
    ap item_header_at (append_assoc (head Text (length s)) s rest) ∙ item_header_at-head Text (length s) (s ++ rest) lt ∙ ap text_scalar (if_text-front s rest utf8)

pub key_at-text : (s rest : List ℕ) → IsUtf8 s → length s < 2 ^ 64 → key_at ((head Text (length s) ++ s) ++ rest) ≡ Some (s, rest)
unfolding key_at
key_at-text s rest utf8 lt =
    ap (λ bs. key_of (head_at bs)) (append_assoc (head Text (length s)) s rest) ∙ ap key_of (head_at-head Text (length s) (s ++ rest) lt) ∙ if_text-front s rest utf8

pub link_at-bytes : CidLaws → (b rest : List ℕ) (cid : Link) → IsCid 64 b cid → suc (length b) < 2 ^ 64 → link_at ((head Bytes (suc (length b)) ++ 0 ∷ b) ++ rest) ≡ Some (b, rest)
unfolding link_at
link_at-bytes laws b rest cid is lt =
    let found = read_link-complete laws b cid is in
    ap (λ bs. link_of_head (head_at bs)) (append_assoc (head Bytes (suc (length b))) (0 ∷ b) rest)
    ∙ ap link_of_head (head_at-head Bytes (suc (length b)) ((0 ∷ b) ++ rest) lt) ∙ ap if_link (front-append (0 ∷ b) rest (suc (length b)) refl) ∙ rw found
