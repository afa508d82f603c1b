-- What completes the open frames of a reader: the tokens that end them, and the bytes that encode those tokens.
use Rattle.std.proofs.Common.{◌≡◌, ℕ, zero, suc, ◌^◌, ◌<◌, Bool, true, false, cond, List, [], ◌∷◌, ◌++◌, length, Option, Some, None, option_map, refl, sym, ap, ◌∙◌, append_assoc, arith}
use Rattle.ipld_cid.specs.Cid.{Link}
use Rattle.ipld_cid.specs.Bytes.{IsCid}
use Rattle.ipld_tree.specs.Tree.{Tree, Items, no_items, item, Members, no_members}
use Rattle.ipld_tree.specs.Tree as tree
use Rattle.ipld_tree.specs.Put.{put}
use Rattle.ipld_tokens.specs.Token.{TokenModel, atom, text, seq, seq_end, map_end}
use Rattle.ipld_tokens.specs.Token as token
use Rattle.ipld_tokens.specs.Item.{Item, atom_item, list_item, map_item, link_item, Parts, no_parts, part, Pairs, no_pairs, pair, tokens_of, parts_tokens, pairs_tokens}
use Rattle.ipld_tokens.specs.ItemTree.{tree_of_item, items_of_parts, members_of_pairs, item_before, put_new}
use Rattle.dag_cbor_format.specs.declared.major.Major.TheVariants.{Bytes, Text, List as Array, Map, Tag}
use Rattle.dag_cbor_format.specs.Head.{head}
use Rattle.dag_cbor_format.specs.Encoding.{part_count, pair_count}
use Rattle.dag_cbor_format.specs.declared.error.CborError.{CborError}
use Rattle.dag_cbor_format.specs.declared.error.CborError.TheVariants.{DuplicateKey}
use Rattle.dag_cbor_format.specs.Errors.{key_error, link_error}
use Rattle.dag_cbor_format.specs.ItemHeader.{Beginning, scalar, list, map, link, key_at, link_at}
use Rattle.dag_cbor_format.specs.Floats.{beginning_at, beginning_error}
use Rattle.dag_cbor_format.specs.WithFloats.{EncodesIn, EncodeParts, EncodePairs}
use Rattle.dag_cbor_format.specs.Reading.{Frame, one, many, pairs, value, mark, Out, ended, rejected, yields, begin, begun, item_step_in, among, and_key, after_key, after_link, end_step, step_in}
use Rattle.dag_cbor_format.proofs.ItemHeaderLaws.{CidLaws}
use Rattle.dag_cbor_format.proofs.ItemHeaders.{key_is, link_is}
use Rattle.dag_cbor_format.proofs.FloatLaws.{BeginningIs, beginning_is}
use Rattle.dag_cbor_format.proofs.Keys.{AreFresh, fresh_key, fresh_put, put_new_some}

-- Below, floats says whether floats are read, and exact whether the bytes matter: only where it holds they have to encode the tokens.

-- an item, and then a rest
pub record AfterItem (floats : Bool) (exact : Type 0) (rest : List ℕ → List TokenModel → Type 0) (bs : List ℕ) (ts : List TokenModel) : Type 0 where
  pub i : Item 64
  pub tree : Tree
  pub first : List ℕ
  pub bytes : List ℕ
  pub tokens : List TokenModel
  pub is : tree_of_item i ≡ Some tree
  pub tokens_are : ts ≡ tokens_of i ++ tokens
  pub encodes : exact → EncodesIn floats i first
  pub encoded : exact → bs ≡ first ++ bytes
  pub after : rest bytes tokens

-- so many items, the end of a list, and then a rest
pub record AfterParts (floats : Bool) (exact : Type 0) (n : ℕ) (rest : List ℕ → List TokenModel → Type 0) (bs : List ℕ) (ts : List TokenModel) : Type 0 where
  pub parts : Parts 64
  pub items : Items
  pub content : List ℕ
  pub bytes : List ℕ
  pub tokens : List TokenModel
  pub is : items_of_parts parts ≡ Some items
  pub tokens_are : ts ≡ parts_tokens parts ++ (seq_end ∷ tokens)
  pub encode : exact → EncodeParts floats parts content
  pub count : exact → part_count parts ≡ n
  pub encoded : exact → bs ≡ content ++ bytes
  pub after : rest bytes tokens

-- so many pairs with other keys than these, the end of a map, and then a rest
pub record AfterPairs (floats : Bool) (exact : Type 0) (n : ℕ) (seen : List (List ℕ)) (rest : List ℕ → List TokenModel → Type 0) (bs : List ℕ) (ts : List TokenModel) : Type 0 where
  pub parts : Pairs 64
  pub members : Members
  pub content : List ℕ
  pub bytes : List ℕ
  pub tokens : List TokenModel
  pub is : members_of_pairs parts ≡ Some members
  pub fresh : AreFresh seen members
  pub tokens_are : ts ≡ pairs_tokens parts ++ (map_end ∷ tokens)
  pub encode : exact → EncodePairs floats parts content
  pub count : exact → pair_count parts ≡ n
  pub encoded : exact → bs ≡ content ++ bytes
  pub after : rest bytes tokens

-- the bytes of a link, and then a rest
pub record AfterLink (exact : Type 0) (rest : List ℕ → List TokenModel → Type 0) (bs : List ℕ) (ts : List TokenModel) : Type 0 where
  pub b : List ℕ
  pub cid : Link
  pub bytes : List ℕ
  pub tokens : List TokenModel
  pub is : IsCid 64 b cid
  pub tokens_are : ts ≡ token.bytes b ∷ tokens
  pub fits : exact → suc (length b) < 2 ^ 64
  pub encoded : exact → bs ≡ (head Bytes (suc (length b)) ++ 0 ∷ b) ++ bytes
  pub after : rest bytes tokens

-- the tokens complete what is open, and where exact holds the bytes encode them
abbrev pub Completes : Bool → Type 0 → List Frame → List ℕ → List TokenModel → Type 0
Completes floats exact [] bs ts = (exact → bs ≡ []) × (ts ≡ [])
Completes floats exact (one ∷ fs) bs ts = AfterItem floats exact (Completes floats exact fs) bs ts
Completes floats exact (many n ∷ fs) bs ts = AfterParts floats exact n (Completes floats exact fs) bs ts
Completes floats exact (pairs n seen ∷ fs) bs ts = AfterPairs floats exact n seen (Completes floats exact fs) bs ts
Completes floats exact (value n seen ∷ fs) bs ts = AfterItem floats exact (AfterPairs floats exact n seen (Completes floats exact fs)) bs ts
Completes floats exact (mark ∷ fs) bs ts = AfterLink exact (Completes floats exact fs) bs ts

pub no_parts_then : (floats : Bool) (exact : Type 0) (n : ℕ) (rest : List ℕ → List TokenModel → Type 0) (bs : List ℕ) (ts : List TokenModel) → (exact → 0 ≡ n) → rest bs ts
    → AfterParts floats exact n rest bs (seq_end ∷ ts)
no_parts_then floats exact n rest bs ts none after = record {
  parts = no_parts;
  items = no_items;
  content = [];
  bytes = bs;
  tokens = ts;
  is = refl;
  tokens_are = refl;
  encode = λ _. refl;
  count = none;
  encoded = λ _. refl;
  after = after;
}

pub no_pairs_then : (floats : Bool) (exact : Type 0) (n : ℕ) (seen : List (List ℕ)) (rest : List ℕ → List TokenModel → Type 0) (bs : List ℕ) (ts : List TokenModel) → (exact → 0 ≡ n) → rest bs ts
    → AfterPairs floats exact n seen rest bs (map_end ∷ ts)
no_pairs_then floats exact n seen rest bs ts none after = record {
  parts = no_pairs;
  members = no_members;
  content = [];
  bytes = bs;
  tokens = ts;
  is = refl;
  fresh = λ q e. refl;
  tokens_are = refl;
  encode = λ _. refl;
  count = none;
  encoded = λ _. refl;
  after = after;
}

-- what completes the next after the token that is given, completes with it what is wanted
abbrev pub Forward : Bool → Type 0 → (List TokenModel → Type 0) → Out → Type 0
Forward floats exact wanted ended = wanted []
Forward floats exact wanted (rejected x) = Unit {0}
Forward floats exact wanted (yields t fs bs) = (ts : List TokenModel) → Completes floats exact fs bs ts → wanted (t ∷ ts)

-- ---- an item

begin_forward : (floats : Bool) (exact : Type 0) (fs : List Frame) (bs : List ℕ) (l : Beginning) (rest : List ℕ) → BeginningIs floats l bs rest → Forward floats exact (AfterItem floats exact (Completes floats exact fs) bs) (begin fs l rest)
begin_forward floats exact fs bs (scalar t) rest h = λ ts left.
    record {
      i = h.0;
      tree = h.1;
      first = h.2;
      bytes = rest;
      tokens = ts;
      is = h.4;
      tokens_are = ap (λ xs. xs ++ ts) (sym h.6);
      encodes = λ _. h.3;
      encoded = λ _. h.5;
      after = left;
    }
begin_forward floats exact fs bs (list n) rest h = λ ts left.
    record {
      i = list_item left.parts;
      tree = tree.list left.items;
      first = head Array n ++ left.content;
      bytes = left.bytes;
      tokens = left.tokens;
      is = ap (option_map tree.list) left.is;
      tokens_are = ap (λ xs. seq ∷ xs) (left.tokens_are ∙ sym (append_assoc (parts_tokens left.parts) (seq_end ∷ []) left.tokens));
      encodes = λ x. (omega (arith, h.0, left.count x), left.content, left.encode x, ap (λ k. head Array k ++ left.content) (sym (left.count x)));
      encoded = λ x. h.1 ∙ ap (λ xs. head Array n ++ xs) (left.encoded x) ∙ sym (append_assoc (head Array n) left.content left.bytes);
      after = left.after;
    }
begin_forward floats exact fs bs (map n) rest h = λ ts left.
    record {
      i = map_item left.parts;
      tree = tree.entries left.members;
      first = head Map n ++ left.content;
      bytes = left.bytes;
      tokens = left.tokens;
      is = ap (option_map tree.entries) left.is;
      tokens_are = ap (λ xs. token.map ∷ xs) (left.tokens_are ∙ sym (append_assoc (pairs_tokens left.parts) (map_end ∷ []) left.tokens));
      encodes = λ x. (omega (arith, h.0, left.count x), left.content, left.encode x, ap (λ k. head Map k ++ left.content) (sym (left.count x)));
      encoded = λ x. h.1 ∙ ap (λ xs. head Map n ++ xs) (left.encoded x) ∙ sym (append_assoc (head Map n) left.content left.bytes);
      after = left.after;
    }
begin_forward floats exact fs bs link rest h = λ ts left.
    record {
      i = link_item left.b left.cid left.is;
      tree = tree.link left.cid;
      first = head Tag 42 ++ (head Bytes (suc (length left.b)) ++ 0 ∷ left.b);
      bytes = left.bytes;
      tokens = left.tokens;
      is = refl;
      tokens_are = ap (λ xs. token.link ∷ xs) left.tokens_are;
      encodes = λ x. (left.fits x, refl);
      encoded = λ x. h ∙ ap (λ xs. head Tag 42 ++ xs) (left.encoded x) ∙ sym (append_assoc (head Tag 42) (head Bytes (suc (length left.b)) ++ 0 ∷ left.b) left.bytes);
      after = left.after;
    }

begun_forward : (floats : Bool) (exact : Type 0) (fs : List Frame) (bs : List ℕ) (x : CborError) (o : Option (Beginning × List ℕ)) → beginning_at floats bs ≡ o → Forward floats exact (AfterItem floats exact (Completes floats exact fs) bs) (begun fs x o)
begun_forward floats exact fs bs x None e = tt
begun_forward floats exact fs bs x (Some (l, rest)) e = begin_forward floats exact fs bs l rest (beginning_is floats bs l rest e).1

-- ---- what is wanted, by what is open

wider : (floats : Bool) (exact : Type 0) (P Q : List TokenModel → Type 0) (o : Out) → ((ts : List TokenModel) → P ts → Q ts) → Forward floats exact P o → Forward floats exact Q o
wider floats exact P Q ended f h = f [] h
wider floats exact P Q (rejected x) f h = tt
wider floats exact P Q (yields t fs bs) f h = λ ts left. f (t ∷ ts) (h ts left)

more_parts : (floats : Bool) (exact : Type 0) (n : ℕ) (rest : List ℕ → List TokenModel → Type 0) (bs : List ℕ) (ts : List TokenModel) → AfterItem floats exact (AfterParts floats exact n rest) bs ts → AfterParts floats exact (suc n) rest bs ts
more_parts floats exact n rest bs ts a =
    let p = a.after in
    record {
      parts = part a.i p.parts;
      items = item a.tree p.items;
      content = a.first ++ p.content;
      bytes = p.bytes;
      tokens = p.tokens;
      is = ap (λ o. item_before o (items_of_parts p.parts)) a.is ∙ ap (item_before (Some a.tree)) p.is;
      tokens_are = a.tokens_are ∙ ap (λ xs. tokens_of a.i ++ xs) p.tokens_are ∙ sym (append_assoc (tokens_of a.i) (parts_tokens p.parts) (seq_end ∷ p.tokens));
      encode = λ x. (a.first, p.content, a.encodes x, p.encode x, refl);
      count = λ x. ap suc (p.count x);
      encoded = λ x. a.encoded x ∙ ap (λ xs. a.first ++ xs) (p.encoded x) ∙ sym (append_assoc a.first p.content p.bytes);
      after = p.after;
    }

after_key_forward : (floats : Bool) (exact : Type 0) (b : Bool) (wanted : List TokenModel → Type 0) (x : CborError) (o : Out) → (b ≡ false → Forward floats exact wanted o) → Forward floats exact wanted (cond b (rejected x) o)
after_key_forward floats exact true wanted x o f = tt
after_key_forward floats exact false wanted x o f = f refl

more_pairs : (floats : Bool) (exact : Type 0) (n : ℕ) (seen : List (List ℕ)) (rest : List ℕ → List TokenModel → Type 0) (bs k more : List ℕ) (ts : List TokenModel) → key_at bs ≡ Some (k, more) → among k seen ≡ false
    → AfterItem floats exact (AfterPairs floats exact n (and_key k seen) rest) more ts → AfterPairs floats exact (suc n) seen rest bs (atom (text k) ∷ ts)
more_pairs floats exact n seen rest bs k more ts e not_seen a =
    let p = a.after in
    let key = key_is bs k more e in
    record {
      parts = pair (atom_item (text k)) a.i p.parts;
      members = put k a.tree p.members;
      content = (head Text (length k) ++ k) ++ (a.first ++ p.content);
      bytes = p.bytes;
      tokens = p.tokens;
      is = ap (λ o. put_new (Some k) o (members_of_pairs p.parts)) a.is ∙ ap (put_new (Some k) (Some a.tree)) p.is ∙ put_new_some k a.tree p.members (fresh_key k seen p.members p.fresh);
      fresh = fresh_put k a.tree seen p.members not_seen p.fresh;
      tokens_are = ap (λ xs. atom (text k) ∷ xs) (a.tokens_are ∙ ap (λ xs. tokens_of a.i ++ xs) p.tokens_are ∙ sym (append_assoc (tokens_of a.i) (pairs_tokens p.parts) (map_end ∷ p.tokens)));
      encode = λ x. (a.first, p.content, (key.1, key.2), a.encodes x, p.encode x, refl);
      count = λ x. ap suc (p.count x);
      encoded = λ x. key.3 ∙ ap (λ xs. (head Text (length k) ++ k) ++ xs) (a.encoded x ∙ ap (λ xs. a.first ++ xs) (p.encoded x) ∙ sym (append_assoc a.first p.content p.bytes))
          ∙ sym (append_assoc (head Text (length k) ++ k) (a.first ++ p.content) p.bytes);
      after = p.after;
    }

key_forward : (floats : Bool) (exact : Type 0) (n : ℕ) (seen : List (List ℕ)) (fs : List Frame) (bs : List ℕ) (x : CborError) (o : Option (List ℕ × List ℕ)) → key_at bs ≡ o
    → Forward floats exact (AfterPairs floats exact (suc n) seen (Completes floats exact fs) bs) (after_key n seen fs x o)
key_forward floats exact n seen fs bs x None e = tt
key_forward floats exact n seen fs bs x (Some (k, more)) e =
    after_key_forward floats exact (among k seen) (AfterPairs floats exact (suc n) seen (Completes floats exact fs) bs) DuplicateKey (yields (atom (text k)) (value n (and_key k seen) ∷ fs) more)
    (λ not_seen ts a. more_pairs floats exact n seen (Completes floats exact fs) bs k more ts e not_seen a)

link_forward : (floats : Bool) (exact : Type 0) → CidLaws → (fs : List Frame) (bs : List ℕ) (x : CborError) (o : Option (List ℕ × List ℕ)) → link_at bs ≡ o → Forward floats exact (AfterLink exact (Completes floats exact fs) bs) (after_link fs x o)
link_forward floats exact laws fs bs x None e = tt
link_forward floats exact laws fs bs x (Some (b, rest)) e = λ ts left.
    let l = link_is laws bs b rest e in
    record {
      b = b;
      cid = l.cid;
      bytes = rest;
      tokens = ts;
      is = l.is;
      tokens_are = refl;
      fits = λ _. l.fits;
      encoded = λ _. l.encoded;
      after = left;
    }

end_forward : (floats : Bool) (exact : Type 0) (bs : List ℕ) → Forward floats exact (Completes floats exact [] bs) (end_step bs)
end_forward floats exact [] = (λ _. refl, refl)
end_forward floats exact (b ∷ bs) = tt

-- what completes the frames after a step, completes with its token those before it
pub forward : (floats : Bool) (exact : Type 0) → CidLaws → (fs : List Frame) (bs : List ℕ) → Forward floats exact (Completes floats exact fs bs) (step_in floats fs bs)
forward floats exact laws [] bs = end_forward floats exact bs
forward floats exact laws (one ∷ fs) bs = begun_forward floats exact fs bs (beginning_error floats bs) (beginning_at floats bs) refl
forward floats exact laws (many zero ∷ fs) bs = λ ts left. no_parts_then floats exact 0 (Completes floats exact fs) bs ts (λ _. refl) left
forward floats exact laws (many (suc n) ∷ fs) bs =
    wider floats exact (AfterItem floats exact (AfterParts floats exact n (Completes floats exact fs)) bs) (AfterParts floats exact (suc n) (Completes floats exact fs) bs) (item_step_in floats (many n ∷ fs) bs) (λ ts a. more_parts floats exact n (Completes floats exact fs) bs ts a)
    (begun_forward floats exact (many n ∷ fs) bs (beginning_error floats bs) (beginning_at floats bs) refl)
forward floats exact laws (pairs zero seen ∷ fs) bs = λ ts left. no_pairs_then floats exact 0 seen (Completes floats exact fs) bs ts (λ _. refl) left
forward floats exact laws (pairs (suc n) seen ∷ fs) bs = key_forward floats exact n seen fs bs (key_error bs) (key_at bs) refl
forward floats exact laws (value n seen ∷ fs) bs = begun_forward floats exact (pairs n seen ∷ fs) bs (beginning_error floats bs) (beginning_at floats bs) refl
forward floats exact laws (mark ∷ fs) bs = link_forward floats exact laws fs bs (link_error bs) (link_at bs) refl
