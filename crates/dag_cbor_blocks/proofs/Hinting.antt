-- The hints of a block that encodes a tree are its lengths.
use Rattle.std.proofs.Common.{◌≡◌, ℕ, zero, suc, ◌+◌, ◌<◌, ◌≤◌, true, false, cond, Bool, inl, inr, pos, negsuc, List, [], ◌∷◌, ◌++◌, length, Option, Some, None, Result, Ok, refl, sym, ap, ap₂, subst, ◌∙◌, append_assoc, length-append, arith}
use Rattle.ipld_tree.specs.Tree.{Tree, Items, no_items, item, Members, no_members, member}
use Rattle.ipld_tree.specs.Tree as tree
use Rattle.ipld_tree.specs.IsWhole.{keys_in}
use Rattle.ipld_tokens.specs.Token.{TokenModel, atom, bytes, seq, seq_end, map, map_end, erase, none, unit, unit_struct, boolean, integer, unsigned, character, text, unit_variant}
use Rattle.ipld_tokens.specs.Token as token_model
use Rattle.ipld_tokens.specs.TreeTokens.{tokens_of_tree, items_tokens, members_tokens}
use Rattle.ipld_tokens.specs.Item.{Item, atom_item, bytes_item, some_item, variant_item, list_item, map_item, link_item, Parts, no_parts, part, Pairs, no_pairs, pair, tokens_of, parts_tokens, pairs_tokens}
use Rattle.ipld_tokens.specs.Hints.{hint_of, count_of, CountsFirst, Counted}
use Rattle.ipld_tokens.specs.declared.token.Token.{Token}
use Rattle.ipld_tokens.specs.declared.token.Token.TheVariants as token
use Rattle.dag_cbor_format.specs.declared.major.Major.{Major}
use Rattle.dag_cbor_format.specs.declared.major.Major.TheVariants.{Unsigned, Negative, Bytes, Text, List as Array, Map, Tag, Simple}
use Rattle.dag_cbor_format.specs.Head.{head}
use Rattle.dag_cbor_format.specs.Encoding.{part_count, pair_count, encoding}
use Rattle.dag_cbor_format.specs.WithFloats.{EncodesIn, EncodeParts, EncodePairs}
use Rattle.dag_cbor_format.specs.declared.error.CborError.{CborError}
use Rattle.dag_cbor_format.specs.declared.error.CborError.TheVariants.{DuplicateKey}
use Rattle.dag_cbor_format.specs.Errors.{key_error, link_error}
use Rattle.dag_cbor_format.specs.ItemHeader.{Beginning, scalar, list, map as map_header, link, key_at, link_at}
use Rattle.dag_cbor_format.specs.Floats.{beginning_at, beginning_error}
use Rattle.dag_cbor_format.specs.Reading.{Frame, one, many, pairs, value, mark, Out, rejected, begin, begun, among, after_key, after_link, end_step, step, Ran, outcome, ahead}
use Rattle.dag_cbor_blocks.specs.declared.reader.Reader.{Reader}
use Rattle.dag_cbor_blocks.specs.Hints.{length_inside, announced, HintIs, HintFits, Hinted, pending, Covers, Covered}
use Rattle.dag_cbor_blocks.specs.Reader.{frames_of, next_of, Steps}
use Rattle.dag_cbor_blocks.specs.Tokens.{ran_of}
use Rattle.dag_cbor_format.proofs.HeadLaws.{head_some}
use Rattle.dag_cbor_format.proofs.ItemHeaderLaws.{CidLaws}
use Rattle.dag_cbor_format.proofs.ItemHeaders.{key_is, link_is}
use Rattle.dag_cbor_format.proofs.Complete.{key_text_is}
use Rattle.dag_cbor_format.proofs.FloatLaws.{BeginningIs, beginning_is}
use Rattle.dag_cbor_format.proofs.OpenFrames.{Completes}
use Rattle.dag_cbor_format.proofs.Running.{unwound}
use Rattle.dag_cbor_format.proofs.Sound.{completes}

-- ---- what is read is covered

abbrev IsScalar : TokenModel → Type 0
IsScalar seq = ⊥
IsScalar map = ⊥
IsScalar t = Unit {0}

scalar_is : (i : Item 64) (t : TokenModel) (first : List ℕ) → EncodesIn false i first → tokens_of i ≡ t ∷ [] → IsScalar t
scalar_is (atom_item a) t first h e = subst IsScalar (let same : atom a ≡ t = cc e in same) tt
scalar_is (bytes_item b) t first h e = subst IsScalar (let same : bytes b ≡ t = cc e in same) tt
scalar_is (some_item i) t first h e = absurd h
scalar_is (variant_item name i) t first h e = absurd h
scalar_is (list_item is) t first h e = absurd (omega (arith, ap length e, length-append (parts_tokens is) (seq_end ∷ [])))
scalar_is (map_item ps) t first h e = absurd (omega (arith, ap length e, length-append (pairs_tokens ps) (map_end ∷ [])))
scalar_is (link_item b cid is) t first h e = absurd (omega (arith, ap length e))

scalar_hint : (t : Token) → IsScalar (erase t) → hint_of t ≡ None
scalar_hint (token.Seq hint) h = absurd h
scalar_hint (token.Map hint) h = absurd h
scalar_hint t h = refl

-- a scalar has no hint
pub no_hint : (t : Token) (bs rest : List ℕ) (len u : ℕ) → beginning_at false bs ≡ Some (scalar (erase t), rest) → HintFits len u u (hint_of t)
no_hint t bs rest len u e =
    let i = (beginning_is false bs (scalar (erase t)) rest e).1 in
    subst (HintFits len u u) (sym (scalar_hint t (scalar_is i.0 (erase t) i.2 i.3 i.6))) refl

-- what a step opens has this length
pub hint_of_step : (o p : Out) (u v w : ℕ) (hint : Option ℕ) → o ≡ p → w ≡ v → HintIs (announced p) u v hint → HintIs (announced o) u w hint
hint_of_step o p u v w hint same kept h = subst (λ x. HintIs (announced x) u w hint) (sym same) (subst (λ n. HintIs (announced p) u n hint) (sym kept) h)

pub hinted_as : (o p : Out) (u v w : ℕ) (r : Result (Option Token) CborError) → o ≡ p → u ≡ v → Hinted (announced p) v w r → Hinted (announced o) u w r
hinted_as o p u v w r same kept h = subst (λ x. Hinted (announced x) u w r) (sym same) (subst (λ n. Hinted (announced p) n w r) (sym kept) h)

scalar_covers : (u : ℕ) (rest : List ℕ) (fs : List Frame) (t : TokenModel) → IsScalar t → length rest ≤ u + pending fs → Covers u rest t fs
scalar_covers u rest fs seq h le = absurd h
scalar_covers u rest fs map h le = absurd h
scalar_covers u rest fs t h le = le

begin_covered : (u : ℕ) (fs : List Frame) (l : Beginning) (bs rest : List ℕ) → (length rest < length bs) × BeginningIs false l bs rest → length bs ≤ suc (u + pending fs) → Covered u (begin fs l rest)
begin_covered u fs (scalar t) bs rest h le = let i = h.1 in scalar_covers u rest fs t (scalar_is i.0 t i.2 i.3 i.6) (omega (arith, h.0, le))
begin_covered u fs (list n) bs rest h le = omega (arith, h.0, le)
begin_covered u fs (map_header n) bs rest h le = omega (arith, h.0, le)
begin_covered u fs link bs rest h le = omega (arith, h.0, le)

item_covered : (u : ℕ) (fs : List Frame) (bs : List ℕ) (x : CborError) (o : Option (Beginning × List ℕ)) → beginning_at false bs ≡ o → length bs ≤ suc (u + pending fs) → Covered u (begun fs x o)
item_covered u fs bs x None e le = tt
item_covered u fs bs x (Some (l, rest)) e le = begin_covered u fs l bs rest (beginning_is false bs l rest e) le

unless_rejected : (b : Bool) (u : ℕ) (x : CborError) (o : Out) → Covered u o → Covered u (cond b (rejected x) o)
unless_rejected true u x o h = tt
unless_rejected false u x o h = h

key_covered : (u n : ℕ) (seen : List (List ℕ)) (fs : List Frame) (bs : List ℕ) (x : CborError) (o : Option (List ℕ × List ℕ)) → key_at bs ≡ o → length bs ≤ u + suc (n + pending fs)
    → Covered u (after_key n seen fs x o)
key_covered u n seen fs bs x None e le = tt
key_covered u n seen fs bs x (Some (k, rest)) e le = let h = (key_is bs k rest e).0 in unless_rejected (among k seen) u DuplicateKey _ (omega (arith, h, le))

end_covered : (u : ℕ) (bs : List ℕ) → Covered u (end_step bs)
end_covered u [] = tt
end_covered u (b ∷ bs) = tt

module _ (laws : CidLaws) where
  link_covered : (u : ℕ) (fs : List Frame) (bs : List ℕ) (x : CborError) (o : Option (List ℕ × List ℕ)) → link_at bs ≡ o → length bs ≤ u + pending fs → Covered u (after_link fs x o)
  link_covered u fs bs x None e le = tt
  link_covered u fs bs x (Some (b, rest)) e le = let h = (link_is laws bs b rest e).shorter in omega (arith, h, le)

  pub covered : (u : ℕ) (fs : List Frame) (bs : List ℕ) → length bs ≤ u + pending fs → Covered u (step fs bs)
  covered u [] bs le = end_covered u bs
  covered u (one ∷ fs) bs le = item_covered u fs bs (beginning_error false bs) (beginning_at false bs) refl (omega (arith, le))
  covered u (many zero ∷ fs) bs le = omega (arith, le)
  covered u (many (suc n) ∷ fs) bs le = item_covered u (many n ∷ fs) bs (beginning_error false bs) (beginning_at false bs) refl (omega (arith, le))
  covered u (pairs zero seen ∷ fs) bs le = omega (arith, le)
  covered u (pairs (suc n) seen ∷ fs) bs le = key_covered u n seen fs bs (key_error bs) (key_at bs) refl (omega (arith, le))
  covered u (value n seen ∷ fs) bs le = item_covered u (pairs n seen ∷ fs) bs (beginning_error false bs) (beginning_at false bs) refl (omega (arith, le))
  covered u (mark ∷ fs) bs le = link_covered u fs bs (link_error bs) (link_at bs) refl le

  after_token : (t : Token) (fs : List Frame) (rest : List ℕ) (u v : ℕ) → HintFits (length_inside fs) u v (hint_of t) → Covers u rest (erase t) fs → length rest ≤ v + pending fs
  after_token (token.Seq None) (many n ∷ fs) rest u v h le = omega (arith, h.1, le)
  after_token (token.Seq (Some m)) (many n ∷ fs) rest u v h le = omega (arith, h.0, h.1, le)
  after_token (token.Seq hint) fs rest u v h le = absurd le
  after_token (token.Map None) (pairs n seen ∷ fs) rest u v h le = omega (arith, h.1, le)
  after_token (token.Map (Some m)) (pairs n seen ∷ fs) rest u v h le = omega (arith, h.0, h.1, le)
  after_token (token.Map hint) fs rest u v h le = absurd le
  after_token t fs rest u v h le = omega (arith, h, le)

  pub still_covered : (o : Option Token) (old new : Reader) → Steps old new (Ok o) → Hinted (announced (next_of old)) old.position.uncounted new.position.uncounted (Ok o)
      → Covered old.position.uncounted (next_of old) → Covered new.position.uncounted (next_of new)
  still_covered (Some t) old new (fs, e, same) h le =
      let rest = new.position.rest.now in
      let u = old.position.uncounted in
      let v = new.position.uncounted in
      subst (Covered v) same
      (covered v fs rest (after_token t fs rest u v (subst (λ o. HintFits (announced o) u v (hint_of t)) e h) (subst (Covered u) e le)))
  still_covered None old new (e, same) h le = subst (λ n. Covered n (next_of new)) (sym h) (subst (Covered old.position.uncounted) same le)

-- ---- what is yet to begin takes a byte each

headed : (m : Major) (n : ℕ) (more bs : List ℕ) → bs ≡ head m n ++ more → 0 < length bs
headed m n more bs e = omega (arith, ap length e, length-append (head m n) more, head_some m n)

item_some : (i : Item 64) (bs : List ℕ) → EncodesIn false i bs → 0 < length bs
item_some (atom_item none) bs (inl e) = omega (arith, ap length e, head_some Simple 22)
item_some (atom_item none) bs (inr (on, is)) = absurd (cc on)
item_some (atom_item unit) bs h = absurd h.0
item_some (atom_item unit_struct) bs h = absurd h.0
item_some (atom_item (boolean true)) bs h = omega (arith, ap length h.1, head_some Simple 21)
item_some (atom_item (boolean false)) bs h = omega (arith, ap length h.1, head_some Simple 20)
item_some (atom_item (integer (pos n))) bs h = omega (arith, ap length h.1, head_some Unsigned n)
item_some (atom_item (integer (negsuc n))) bs h = omega (arith, ap length h.1, head_some Negative n)
item_some (atom_item (unsigned n)) bs h = absurd h.0
item_some (atom_item (character c)) bs h = absurd h.0
item_some (atom_item (text s)) bs h = headed Text (length s) s bs h.1
item_some (atom_item (unit_variant s)) bs h = absurd h.0
item_some (bytes_item b) bs h = headed Bytes (length b) b bs h.1
item_some (some_item i) bs h = absurd h
item_some (variant_item name i) bs h = absurd h
item_some (list_item is) bs h = headed Array (part_count is) h.1 bs h.3
item_some (map_item ps) bs h = headed Map (pair_count ps) h.1 bs h.3
item_some (link_item b cid is) bs h = headed Tag 42 _ bs h.1

parts_fit : (is : Parts 64) (bs : List ℕ) → EncodeParts false is bs → part_count is ≤ length bs
parts_fit no_parts bs h = omega arith
parts_fit (part i is) bs h = omega (arith, ap length h.4, length-append h.0 h.1, item_some i h.0 h.2, parts_fit is h.1 h.3)

pairs_fit : (ps : Pairs 64) (bs : List ℕ) → EncodePairs false ps bs → pair_count ps ≤ length bs
pairs_fit no_pairs bs h = omega arith
pairs_fit (pair key v ps) bs h =
    omega (arith, ap length h.5, length-append (encoding key) (h.0 ++ h.1), length-append h.0 h.1, item_some v h.0 h.3, pairs_fit ps h.1 h.4)

all_fit : (fs : List Frame) (bs : List ℕ) (ts : List TokenModel) → Completes false (Unit {0}) fs bs ts → pending fs ≤ length bs
all_fit [] bs ts a = omega arith
all_fit (one ∷ fs) bs ts a =
    omega (arith, ap length (a.encoded tt), length-append a.first a.bytes, item_some a.i a.first (a.encodes tt), all_fit fs a.bytes a.tokens a.after)
all_fit (many n ∷ fs) bs ts a =
    omega (arith, ap length (a.encoded tt), length-append a.content a.bytes, a.count tt, parts_fit a.parts a.content (a.encode tt), all_fit fs a.bytes a.tokens a.after)
all_fit (pairs n seen ∷ fs) bs ts a =
    omega (arith, ap length (a.encoded tt), length-append a.content a.bytes, a.count tt, pairs_fit a.parts a.content (a.encode tt), all_fit fs a.bytes a.tokens a.after)
all_fit (value n seen ∷ fs) bs ts a =
    let p = a.after in
    omega (
      arith,
      ap length (a.encoded tt),
      length-append a.first a.bytes,
      item_some a.i a.first (a.encodes tt),
      ap length (p.encoded tt),
      length-append p.content p.bytes,
      p.count tt,
      pairs_fit p.parts p.content (p.encode tt),
      all_fit fs p.bytes p.tokens p.after,
    )
all_fit (mark ∷ fs) bs ts a =
    omega (arith, ap length (a.encoded tt), length-append (head Bytes (suc (length a.b)) ++ 0 ∷ a.b) a.bytes, all_fit fs a.bytes a.tokens a.after)

-- ---- the tokens of an item are those of a tree, with the keys in the order of the bytes

module _ (laws : CidLaws) where
  mutual
    plain : (i : Item 64) (bs : List ℕ) → EncodesIn false i bs → (t : Tree) × (tokens_of i ≡ tokens_of_tree t)
    plain (atom_item none) bs h = (tree.null, refl)
    plain (atom_item unit) bs h = absurd h.0
    plain (atom_item unit_struct) bs h = absurd h.0
    plain (atom_item (boolean b)) bs h = (tree.boolean b, refl)
    plain (atom_item (integer n)) bs h = (tree.integer n, refl)
    plain (atom_item (unsigned n)) bs h = absurd h.0
    plain (atom_item (character c)) bs h = absurd h.0
    plain (atom_item (text s)) bs h = (tree.text s, refl)
    plain (atom_item (unit_variant s)) bs h = absurd h.0
    plain (bytes_item b) bs h = (tree.bytes b, refl)
    plain (some_item i) bs h = absurd h
    plain (variant_item name i) bs h = absurd h
    plain (list_item is) bs h = let ts = plain_items is h.1 h.2 in (tree.list ts.0, ap (λ xs. seq ∷ (xs ++ seq_end ∷ [])) ts.1)
    plain (map_item ps) bs h = let ms = plain_members ps h.1 h.2 in (tree.entries ms.0, ap (λ xs. map ∷ (xs ++ map_end ∷ [])) ms.1)
    plain (link_item b cid is) bs h = (tree.link cid, ap (λ xs. token_model.link ∷ bytes xs ∷ []) (laws.once b cid is))

    plain_items : (is : Parts 64) (bs : List ℕ) → EncodeParts false is bs → (ts : Items) × (parts_tokens is ≡ items_tokens ts) × (part_count is ≡ count_of ts)
    plain_items no_parts bs h = (no_items, refl, refl)
    plain_items (part i is) bs h =
        let t = plain i h.0 h.2 in
        let ts = plain_items is h.1 h.3 in
        (item t.0 ts.0, ap₂ (λ xs ys. xs ++ ys) t.1 ts.1, ap suc ts.2)

    plain_members : (ps : Pairs 64) (bs : List ℕ) → EncodePairs false ps bs → (ms : Members) × (pairs_tokens ps ≡ members_tokens ms) × (pair_count ps ≡ length (keys_in ms))
    plain_members no_pairs bs h = (no_members, refl, refl)
    plain_members (pair key v ps) bs h =
        let k = key_text_is key h.2 in
        let t = plain v h.0 h.3 in
        let ms = plain_members ps h.1 h.4 in
        (member k.bytes t.0 ms.0, ap (λ i. tokens_of i ++ (tokens_of v ++ pairs_tokens ps)) k.is ∙ ap₂ (λ xs ys. atom (text k.bytes) ∷ (xs ++ ys)) t.1 ms.1, ap suc ms.2)

  -- ---- so a hint is a length

  hint_there : (hint : Option ℕ) (n len u v : ℕ) → HintIs n u v hint → n ≤ u → n ≡ len → hint ≡ Some len
  hint_there None n len u v h fits e = absurd (omega (arith, h.0, fits))
  hint_there (Some m) n len u v h fits e = ap Some (h.0 ∙ e)

  counts_first : (t : Token) (fs : List Frame) (rest : List ℕ) (u v : ℕ) (before ts : List TokenModel) → before ≡ erase t ∷ ts
      → HintFits (length_inside fs) u v (hint_of t) → Covers u rest (erase t) fs → Completes false (Unit {0}) fs rest ts → CountsFirst t before
  counts_first (token.Seq hint) (many n ∷ fs) rest u v before ts e h le a =
      let is = plain_items a.parts a.content (a.encode tt) in (
        is.0,
        a.tokens,
        e ∙ ap (λ xs. seq ∷ xs) (a.tokens_are ∙ ap (λ xs. xs ++ (seq_end ∷ a.tokens)) is.1 ∙ sym (append_assoc (items_tokens is.0) (seq_end ∷ []) a.tokens)),
        hint_there hint n (count_of is.0) u v h (omega (arith, le, all_fit (many n ∷ fs) rest ts a)) (sym (a.count tt) ∙ is.2),
      )
  counts_first (token.Seq hint) fs rest u v before ts e h le a = absurd le
  counts_first (token.Map hint) (pairs n seen ∷ fs) rest u v before ts e h le a =
      let ps = plain_members a.parts a.content (a.encode tt) in (
        ps.0,
        a.tokens,
        e ∙ ap (λ xs. map ∷ xs) (a.tokens_are ∙ ap (λ xs. xs ++ (map_end ∷ a.tokens)) ps.1 ∙ sym (append_assoc (members_tokens ps.0) (map_end ∷ []) a.tokens)),
        hint_there hint n (length (keys_in ps.0)) u v h (omega (arith, le, all_fit (pairs n seen ∷ fs) rest ts a)) (sym (a.count tt) ∙ ps.2),
      )
  counts_first (token.Map hint) fs rest u v before ts e h le a = absurd le
  counts_first t fs rest u v before ts e h le a = tt

  -- where the rest is read to the end
  pub counted : (o : Option Token) (old new : Reader) → (ran_of None old).error ≡ None → Steps old new (Ok o)
      → Hinted (announced (next_of old)) old.position.uncounted new.position.uncounted (Ok o) → Covered old.position.uncounted (next_of old)
      → Counted {F = CborError} (ran_of None old).tokens (Ok o)
  counted None old new whole steps h le = tt
  counted (Some t) old new whole (fs, e, same) h le =
      let rest = new.position.rest.now in
      let u = old.position.uncounted in
      let ran = unwound laws (frames_of old) old.position.rest.now ∙ ap (outcome ahead) e in
      counts_first t fs rest u new.position.uncounted (ran_of None old).tokens (ahead fs rest).tokens (ap (λ (r : Ran). r.tokens) ran)
      (subst (λ o. HintFits (announced o) u new.position.uncounted (hint_of t)) e h) (subst (Covered u) e le)
      (completes laws fs rest (sym (ap (λ (r : Ran). r.error) ran) ∙ whole))
