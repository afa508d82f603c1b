-- Items with floats and without: what an item begins with, and that without floats the encoding is the one there is.
use Rattle.std.proofs.Common.{◌≡◌, inl, inr, ℕ, ◌^◌, ◌<◌, Bool, true, false, cond, eqb, List, [], ◌∷◌, ◌++◌, length, Option, Some, None, refl, sym, ap, subst, ◌∙◌, arith}
use Rattle.std.specs.Prelude.{◌&&◌}
use Rattle.std.proofs.lemmas.Bool.{and_parts, eqb-true}
use Rattle.std.proofs.lemmas.List.{length-append}
use Rattle.ipld_tree.specs.Tree.{Tree}
use Rattle.ipld_tree.specs.Tree as tree
use Rattle.ipld_tokens.specs.Token.{atom, none, unit, unit_struct, boolean, integer, unsigned, character, text, unit_variant}
use Rattle.ipld_tokens.specs.Item.{Item, atom_item, bytes_item, some_item, variant_item, list_item, map_item, link_item, Parts, no_parts, part, Pairs, no_pairs, pair, tokens_of}
use Rattle.ipld_tokens.specs.ItemTree.{tree_of_item}
use Rattle.dag_cbor_format.specs.declared.major.Major.TheVariants.{List as Array, Map, Tag}
use Rattle.dag_cbor_format.specs.Head.{head}
use Rattle.dag_cbor_format.specs.HeadReading.{read_head, head_at}
use Rattle.dag_cbor_format.specs.Encoding.{part_count, pair_count, encoding, parts_encoding, pairs_encoding, HasEncoding, HaveEncodings, PairsHaveEncodings}
use Rattle.dag_cbor_format.specs.ItemHeader.{Beginning, scalar, list, map, link, front, item_header_at}
use Rattle.dag_cbor_format.specs.Floats.{IsFloat, is_finite, has_float_head, if_finite, float_at, beginning_at}
use Rattle.dag_cbor_format.specs.WithFloats.{EncodesIn, EncodeParts, EncodePairs}
use Rattle.dag_cbor_format.proofs.HeadLaws.{chosen}
use Rattle.dag_cbor_format.proofs.ItemHeaders.{front-append, front_is, ItemHeaderIs, item_header_is}

-- ---- an item without floats is encoded as ever

mutual
  -- with floats too
  pub plain_item : (floats : Bool) (i : Item 64) → HasEncoding i → EncodesIn floats i (encoding i)
  plain_item floats (atom_item none) h = inl refl
  plain_item floats (atom_item unit) h = absurd h
  plain_item floats (atom_item unit_struct) h = absurd h
  plain_item floats (atom_item (boolean b)) h = (h, refl)
  plain_item floats (atom_item (integer n)) h = (h, refl)
  plain_item floats (atom_item (unsigned n)) h = absurd h
  plain_item floats (atom_item (character c)) h = absurd h
  plain_item floats (atom_item (text s)) h = (h, refl)
  plain_item floats (atom_item (unit_variant s)) h = absurd h
  plain_item floats (bytes_item b) h = (h, refl)
  plain_item floats (some_item i) h = absurd h
  plain_item floats (variant_item name i) h = absurd h
  plain_item floats (list_item is) h = (h.0, parts_encoding is, plain_parts floats is h.1, refl)
  plain_item floats (map_item ps) h = (h.0, pairs_encoding ps, plain_pairs floats ps h.1, refl)
  plain_item floats (link_item encoded cid is) h = (h, refl)

  plain_parts : (floats : Bool) (is : Parts 64) → HaveEncodings is → EncodeParts floats is (parts_encoding is)
  plain_parts floats no_parts h = refl
  plain_parts floats (part i is) h = (encoding i, parts_encoding is, plain_item floats i h.0, plain_parts floats is h.1, refl)

  plain_pairs : (floats : Bool) (ps : Pairs 64) → PairsHaveEncodings ps → EncodePairs floats ps (pairs_encoding ps)
  plain_pairs floats no_pairs h = refl
  plain_pairs floats (pair key value ps) h = (encoding value, pairs_encoding ps, h.0, plain_item floats value h.1, plain_pairs floats ps h.2, refl)

mutual
  -- an item that is encoded, with floats or without, has an encoding without them
  pub has_encoding : (floats : Bool) (i : Item 64) (bytes : List ℕ) → EncodesIn floats i bytes → HasEncoding i
  has_encoding floats (atom_item none) bytes e = tt
  has_encoding floats (atom_item unit) bytes e = e.0
  has_encoding floats (atom_item unit_struct) bytes e = e.0
  has_encoding floats (atom_item (boolean b)) bytes e = e.0
  has_encoding floats (atom_item (integer n)) bytes e = e.0
  has_encoding floats (atom_item (unsigned n)) bytes e = e.0
  has_encoding floats (atom_item (character c)) bytes e = e.0
  has_encoding floats (atom_item (text s)) bytes e = e.0
  has_encoding floats (atom_item (unit_variant s)) bytes e = e.0
  has_encoding floats (bytes_item b) bytes e = e.0
  has_encoding floats (some_item i) bytes e = e
  has_encoding floats (variant_item name i) bytes e = e
  has_encoding floats (list_item is) bytes e = (e.0, have_encodings floats is e.1 e.2)
  has_encoding floats (map_item ps) bytes e = (e.0, pairs_have_encodings floats ps e.1 e.2)
  has_encoding floats (link_item encoded cid is) bytes e = e.0

  have_encodings : (floats : Bool) (is : Parts 64) (bytes : List ℕ) → EncodeParts floats is bytes → HaveEncodings is
  have_encodings floats no_parts bytes e = tt
  have_encodings floats (part i is) bytes e = (has_encoding floats i e.0 e.2, have_encodings floats is e.1 e.3)

  pairs_have_encodings : (floats : Bool) (ps : Pairs 64) (bytes : List ℕ) → EncodePairs floats ps bytes → PairsHaveEncodings ps
  pairs_have_encodings floats no_pairs bytes e = tt
  pairs_have_encodings floats (pair key value ps) bytes e = (e.2, has_encoding floats value e.0 e.3, pairs_have_encodings floats ps e.1 e.4)

not_both : {A : Type 0} → false ≡ true → A
not_both e = absurd (cc e)

mutual
  -- without floats it is the encoding
  pub item_encoded : (i : Item 64) (bytes : List ℕ) → EncodesIn false i bytes → bytes ≡ encoding i
  item_encoded (atom_item none) bytes (inl e) = e
  item_encoded (atom_item none) bytes (inr e) = not_both e.0
  item_encoded (atom_item unit) bytes e = e.1
  item_encoded (atom_item unit_struct) bytes e = e.1
  item_encoded (atom_item (boolean b)) bytes e = e.1
  item_encoded (atom_item (integer n)) bytes e = e.1
  item_encoded (atom_item (unsigned n)) bytes e = e.1
  item_encoded (atom_item (character c)) bytes e = e.1
  item_encoded (atom_item (text s)) bytes e = e.1
  item_encoded (atom_item (unit_variant s)) bytes e = e.1
  item_encoded (bytes_item b) bytes e = e.1
  item_encoded (some_item i) bytes e = absurd e
  item_encoded (variant_item name i) bytes e = absurd e
  item_encoded (list_item is) bytes e = e.3 ∙ ap (λ xs. head Array (part_count is) ++ xs) (parts_encoded is e.1 e.2)
  item_encoded (map_item ps) bytes e = e.3 ∙ ap (λ xs. head Map (pair_count ps) ++ xs) (pairs_encoded ps e.1 e.2)
  item_encoded (link_item encoded cid is) bytes e = e.1

  parts_encoded : (is : Parts 64) (bytes : List ℕ) → EncodeParts false is bytes → bytes ≡ parts_encoding is
  parts_encoded no_parts bytes e = e
  parts_encoded (part i is) bytes e = e.4 ∙ ap (λ xs. xs ++ e.1) (item_encoded i e.0 e.2) ∙ ap (λ xs. encoding i ++ xs) (parts_encoded is e.1 e.3)

  pairs_encoded : (ps : Pairs 64) (bytes : List ℕ) → EncodePairs false ps bytes → bytes ≡ pairs_encoding ps
  pairs_encoded no_pairs bytes e = e
  pairs_encoded (pair key value ps) bytes e =
      e.5 ∙ ap (λ xs. encoding key ++ (xs ++ e.1)) (item_encoded value e.0 e.3) ∙ ap (λ xs. encoding key ++ (encoding value ++ xs)) (pairs_encoded ps e.1 e.4)

-- ---- what an item begins with

-- the bytes are a whole scalar, or the head of a list, a map or a link
abbrev pub BeginningIs : Bool → Beginning → List ℕ → List ℕ → Type 0
BeginningIs floats (scalar t) bytes rest =
    (i : Item 64) × (v : Tree) × (first : List ℕ) × EncodesIn floats i first × (tree_of_item i ≡ Some v) × (bytes ≡ first ++ rest) × (tokens_of i ≡ t ∷ [])
BeginningIs floats (list n) bytes rest = (n < 2 ^ 64) × (bytes ≡ head Array n ++ rest)
BeginningIs floats (map n) bytes rest = (n < 2 ^ 64) × (bytes ≡ head Map n ++ rest)
BeginningIs floats link bytes rest = bytes ≡ head Tag 42 ++ rest

abbrev Read : Bool → Beginning → List ℕ → List ℕ → Type 0
Read floats l bytes rest = (length rest < length bytes) × BeginningIs floats l bytes rest

of_header : (floats : Bool) (l : Beginning) (bytes rest : List ℕ) → ItemHeaderIs l bytes rest → BeginningIs floats l bytes rest
of_header floats (scalar t) bytes rest h = (h.0, h.1, encoding h.0, plain_item floats h.0 h.2, h.3, h.4, h.5)
of_header floats (list n) bytes rest h = h
of_header floats (map n) bytes rest h = h
of_header floats link bytes rest h = h

finite_is : (floats : Bool) (bytes : List ℕ) (o : Option (List ℕ × List ℕ)) (b : ℕ) (bs : List ℕ) → front 8 bs ≡ o → floats ≡ true → bytes ≡ 251 ∷ bs
    → (l : Beginning) (rest : List ℕ) → if_finite o ≡ Some (l, rest) → Read floats l bytes rest
finite_is floats bytes None b bs f on is l rest e = absurd (cc e)
finite_is floats bytes (Some (content, more)) b bs f on is l rest e =
    elim (chosen (is_finite content) _ _ _ e) [
      | inl (finite, x) ↦
          let cut : Beginning × List ℕ = (scalar (atom none), more) in
          let found : Beginning × List ℕ = (l, rest) in
          let same : cut ≡ found = cc x in
          let p = front_is 8 bs content more f in
          let float : IsFloat (251 ∷ content) = record { content = content; is = refl; wide = p.0; finite = finite } in
          let whole : bytes ≡ (251 ∷ content) ++ more = is ∙ ap (λ xs. 251 ∷ xs) p.1 in
          subst (λ (q : Beginning × List ℕ). Read floats q.0 bytes q.1) same
          (omega (arith, ap length whole, length-append (251 ∷ content) more), (atom_item none, tree.null, 251 ∷ content, inr (on, float), refl, whole, refl))
      | inr (infinite, x) ↦ absurd (cc x)
    ]

float_is : (floats : Bool) (bytes : List ℕ) → floats ≡ true → has_float_head bytes ≡ true → (l : Beginning) (rest : List ℕ) → float_at bytes ≡ Some (l, rest) → Read floats l bytes rest
float_is floats [] on head_is l rest e = absurd (cc head_is)
float_is floats (b ∷ bs) on head_is l rest e = finite_is floats (b ∷ bs) (front 8 bs) b bs refl on (ap (λ x. x ∷ bs) (eqb-true b 251 head_is)) l rest e

pub beginning_is : (floats : Bool) (bytes : List ℕ) (l : Beginning) (rest : List ℕ) → beginning_at floats bytes ≡ Some (l, rest) → Read floats l bytes rest
beginning_is floats bytes l rest e =
    elim (chosen (floats && has_float_head bytes) _ _ _ e) [
      | inl (is_float, x) ↦ let p = and_parts floats (has_float_head bytes) is_float in float_is floats bytes p.0 p.1 l rest x
      | inr (other, x) ↦ let h = item_header_is bytes l rest x in (h.0, of_header floats l bytes rest h.1)
    ]

-- ---- what else begins an item is no float

no_header : (bs : List ℕ) → item_header_at (251 ∷ bs) ≡ None
unfolding item_header_at head_at read_head
no_header bs = refl

and_false : (a b : Bool) → b ≡ false → (a && b) ≡ false
and_false true b e = e
and_false false b e = refl

no_float_head : (bytes : List ℕ) (x : Beginning × List ℕ) → item_header_at bytes ≡ Some x → has_float_head bytes ≡ false
no_float_head [] x e = refl
no_float_head (b ∷ bs) x e =
    elim (eqb b 251) as (λ c. eqb b 251 ≡ c → c ≡ false) [
      | true ↦ λ is. absurd (
          let y : None ≡ Some x = sym (no_header bs) ∙ ap (λ a. item_header_at (a ∷ bs)) (sym (eqb-true b 251 is)) ∙ e in cc y)
      | false ↦ λ is. refl
    ] refl

-- what is read without floats is read so with them
pub plain_beginning : (floats : Bool) (bytes : List ℕ) (l : Beginning) (rest : List ℕ) → item_header_at bytes ≡ Some (l, rest) → beginning_at floats bytes ≡ Some (l, rest)
plain_beginning floats bytes l rest e =
    ap (λ c. cond c (float_at bytes) (item_header_at bytes)) (and_false floats (has_float_head bytes) (no_float_head bytes (l, rest) e)) ∙ e

-- a float is
finite_beginning : (content rest : List ℕ) (o : Option (List ℕ × List ℕ)) → o ≡ Some (content, rest) → is_finite content ≡ true → if_finite o ≡ Some (scalar (atom none), rest)
finite_beginning content rest o e finite = ap if_finite e ∙ rw finite

pub float_beginning : (first rest : List ℕ) → IsFloat first → beginning_at true (first ++ rest) ≡ Some (scalar (atom none), rest)
float_beginning first rest f =
    ap (λ xs. beginning_at true (xs ++ rest)) f.is
    ∙ finite_beginning f.content rest (front 8 (f.content ++ rest)) (front-append f.content rest 8 f.wide) f.finite
