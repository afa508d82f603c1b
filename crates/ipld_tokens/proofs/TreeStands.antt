-- What the tokens that led to a state of reading a tree are: an item with this tree, those before a cut of one, or a rejection.
use Rattle.std.proofs.Common.{◌≡◌, ℕ, Bool, true, false, List, [], ◌∷◌, ◌++◌, Option, Some, None, option_map, is_some, Result, Ok, Err, refl, sym, ap, subst, ◌∙◌, append_assoc}
use Rattle.std.proofs.lemmas.List.{append-nil}
use Rattle.std.specs.Prelude.{encode_utf8}
use Rattle.ipld_cid.specs.declared.error.CidError.{CidError}
use Rattle.ipld_cid.specs.Cid.{Link}
use Rattle.ipld_cid.specs.Bytes.{IsCid, read_cid}
use Rattle.ipld_tree.specs.Tree.{Tree, Items, no_items, Members, no_members}
use Rattle.ipld_tree.specs.Tree as tree
use Rattle.ipld_tree.specs.Put.{put}
use Rattle.ipld_tokens.specs.LinkBytes.{read_link}
use Rattle.ipld_tokens.specs.Token as token
use Rattle.ipld_tokens.specs.Token.{TokenModel, atom, bytes, some, variant, link, seq, seq_end, map, map_end}
use Rattle.ipld_tokens.specs.Item.{Item, atom_item, bytes_item, some_item, list_item, map_item, link_item, Parts, no_parts, part, Pairs, no_pairs, pair, tokens_of, parts_tokens, pairs_tokens}
use Rattle.ipld_tokens.specs.ItemTree.{tree_of_atom, key_text, has_key, item_before, put_new, tree_of_item, items_of_parts, members_of_pairs}
use Rattle.ipld_tokens.specs.CutTrees.{CutTree, at_value, at_bytes, inside_option, inside_list, at_key, inside_map, tokens_before, IsRead, IsUnfinished, EndsInLink, EndsInBadCid, EndsWithRepeatedKey}
use Rattle.ipld_tokens.specs.ReadMachine.{Container, in_list, in_key, in_value, Failure, bad_token, bad_cid, repeated_key, never, ReadState, open_at, wanted, marked, done, rejected, and_item, if_new, completed, completed_if, value_step, after_link, step, run, start, IsGoing}
use Rattle.ipld_tokens.proofs.Stands.{parts_push, pairs_push, parts_pushed, pairs_pushed}
use Rattle.ipld_tokens.proofs.TreeReading.{onto, onto_all}

-- ---- lists and maps with one more at their end

abbrev and_last : Option Items → Option Tree → Option Items
and_last (Some us) (Some t) = Some (and_item us t)
and_last _ _ = None

last_before : (o t : Option Tree) (us : Option Items) → item_before o (and_last us t) ≡ and_last (item_before o us) t
last_before None t us = refl
last_before (Some v) None None = refl
last_before (Some v) None (Some us) = refl
last_before (Some v) (Some t) None = refl
last_before (Some v) (Some t) (Some us) = refl

items_pushed : (is : Parts 64) (j : Item 64) → items_of_parts (parts_push is j) ≡ and_last (items_of_parts is) (tree_of_item j)
items_pushed no_parts j = one (tree_of_item j) where
  one : (o : Option Tree) → item_before o (Some no_items) ≡ and_last (Some no_items) o
  one None = refl
  one (Some t) = refl
items_pushed (part i is) j =
    ap (item_before (tree_of_item i)) (items_pushed is j) ∙ last_before (tree_of_item i) (tree_of_item j) (items_of_parts is)

onto_pushed : (ps : Pairs 64) (k v : Item 64) (m : Option Members) → onto m (pairs_push ps k v) ≡ put_new (key_text k) (tree_of_item v) (onto m ps)
onto_pushed no_pairs k v m = refl
onto_pushed (pair i j ps) k v m = onto_pushed ps k v (put_new (key_text i) (tree_of_item j) m)

members_pushed : (ps : Pairs 64) (k v : Item 64) → members_of_pairs (pairs_push ps k v) ≡ put_new (key_text k) (tree_of_item v) (members_of_pairs ps)
members_pushed ps k v =
    sym (onto_all (pairs_push ps k v)) ∙ onto_pushed ps k v (Some no_members) ∙ ap (put_new (key_text k) (tree_of_item v)) (onto_all ps)

put_is : (key : List ℕ) (t : Tree) (ms : Members) (b : Bool) → has_key key ms ≡ b → b ≡ false → put_new (Some key) (Some t) (Some ms) ≡ Some (put key t ms)
put_is key t ms b is new = rw (is, new)

-- ---- what is around a value, innermost last

pub data Around : Type 0 where
  nothing : Around
  option : Around → Around
  list : Around → (is : Parts 64) (us : Items) → items_of_parts is ≡ Some us → Around
  entry : Around → (ps : Pairs 64) (ms : Members) → members_of_pairs ps ≡ Some ms → (k : Item 64) (key : List ℕ) → key_text k ≡ Some key → Around

abbrev pub outside : Around → List TokenModel
outside nothing = []
outside (option o) = outside o ++ some ∷ []
outside (list o is us h) = outside o ++ seq ∷ parts_tokens is
outside (entry o ps ms m k key e) = outside o ++ map ∷ (pairs_tokens ps ++ tokens_of k)

abbrev pub levels : Around → List Container
levels nothing = []
levels (option o) = levels o
levels (list o is us h) = in_list us ∷ levels o
levels (entry o ps ms m k key e) = in_value ms key ∷ levels o

-- a cut in what is around a value
cut_at : (o : Around) (c : CutTree) → IsRead c → (ts : List TokenModel) → ts ≡ outside o ++ tokens_before c → IsUnfinished ts
cut_at nothing c h ts e = (c, h, e)
cut_at (option o) c h ts e = cut_at o (inside_option c) h ts (e ∙ append_assoc (outside o) (some ∷ []) (tokens_before c))
cut_at (list o is us i) c h ts e = cut_at o (inside_list is c) (ap is_some i, h) ts (e ∙ append_assoc (outside o) (seq ∷ parts_tokens is) (tokens_before c))
cut_at (entry o ps ms m k key i) c h ts e =
    cut_at o (inside_map ps k c) (ap is_some m, ap is_some i, h) ts
    (e ∙ append_assoc (outside o) (map ∷ (pairs_tokens ps ++ tokens_of k)) (tokens_before c)
    ∙ ap (λ us. outside o ++ map ∷ us) (append_assoc (pairs_tokens ps) (tokens_of k) (tokens_before c)))

-- ---- where reading goes on

pub data Place : Type 0 where
  before_value : Around → Place
  before_bytes : Around → Place
  before_key : Around → (ps : Pairs 64) (ms : Members) → members_of_pairs ps ≡ Some ms → Place

abbrev pub state_at : Place → ReadState
state_at (before_value nothing) = wanted []
state_at (before_value (option o)) = wanted (levels o)
state_at (before_value o) = open_at (levels o)
state_at (before_bytes o) = marked (levels o)
state_at (before_key o ps ms m) = open_at (in_key ms ∷ levels o)

abbrev pub front_at : Place → List TokenModel
front_at (before_value o) = outside o
front_at (before_bytes o) = outside o ++ link ∷ []
front_at (before_key o ps ms m) = outside o ++ map ∷ pairs_tokens ps

pub place_unfinished : (p : Place) → IsUnfinished (front_at p)
place_unfinished (before_value o) = cut_at o at_value tt (outside o) (sym (append-nil (outside o)))
place_unfinished (before_bytes o) = cut_at o at_bytes tt (outside o ++ link ∷ []) refl
place_unfinished (before_key o ps ms m) = cut_at o (at_key ps) (ap is_some m) (outside o ++ map ∷ pairs_tokens ps) refl

abbrev pub IsAt : ReadState → List TokenModel → Type 0
IsAt s ts = (p : Place) × (s ≡ state_at p) × (ts ≡ front_at p)

-- ---- what led to a state, with what is said of tokens after an end, and of bytes that are no CID's

abbrev pub Rejects : (List TokenModel → Type 0) → Failure → List TokenModel → Type 0
Rejects After bad_token ts = (front : List TokenModel) × (t : TokenModel) × IsUnfinished front × (ts ≡ front ++ t ∷ [])
Rejects After (bad_cid cid_error) ts = EndsInBadCid cid_error ts
Rejects After repeated_key ts = EndsWithRepeatedKey ts
Rejects After never ts = After ts

abbrev pub Stands : (List TokenModel → Type 0) → ReadState → List TokenModel → Type 0
Stands After (done t) ts = (i : Item 64) × (tree_of_item i ≡ Some t) × (ts ≡ tokens_of i)
Stands After (rejected f) ts = Rejects After f ts
Stands After s ts = IsAt s ts

-- where nothing is complete or rejected, reading goes on
pub going_at : (After : List TokenModel → Type 0) (s : ReadState) (ts : List TokenModel) → IsGoing s → Stands After s ts → IsAt s ts
going_at After (done v) ts g h = absurd g
going_at After (rejected f) ts g h = absurd g
going_at After s ts g h = h

module _ (After : List TokenModel → Type 0) (after_mark : (ts : List TokenModel) → EndsInLink (λ b. Unit {0}) ts → After ts) where
  stands_at : (s : ReadState) (ts us : List TokenModel) → ts ≡ us → Stands After s ts → Stands After s us
  stands_at s ts us e h = subst (Stands After s) e h

  new_value : (o : Around) (ps : Pairs 64) (ms : Members) → members_of_pairs ps ≡ Some ms → (k : Item 64) (key : List ℕ) → key_text k ≡ Some key
      → (j : Item 64) (t : Tree) → tree_of_item j ≡ Some t → (b : Bool) → has_key key ms ≡ b
      → Stands After (if_new b (open_at (in_key (put key t ms) ∷ levels o))) ((outside o ++ map ∷ (pairs_tokens ps ++ tokens_of k)) ++ tokens_of j)
  new_value o ps ms m k key i j t e true b =
      (outside o, ps, k, j, cut_at o (at_key no_pairs) refl (outside o ++ map ∷ []) refl, (ms, key, m, i, b), ap is_some e, simp append_assoc)
  new_value o ps ms m k key i j t e false b =
      let is = members_pushed ps k j ∙ ap (λ a. put_new a (tree_of_item j) (members_of_pairs ps)) i ∙ ap (λ a. put_new (Some key) a (members_of_pairs ps)) e
      ∙ ap (put_new (Some key) (Some t)) m ∙ put_is key t ms false b refl in
      (before_key o (pairs_push ps k j) (put key t ms) is, refl, rw (pairs_pushed ps k j) (simp append_assoc))

  complete : (o : Around) (j : Item 64) (t : Tree) → tree_of_item j ≡ Some t → Stands After (completed t (levels o)) (outside o ++ tokens_of j)
  complete nothing j t e = (j, e, refl)
  complete (option o) j t e =
      stands_at (completed t (levels o)) (outside o ++ some ∷ tokens_of j) (outside (option o) ++ tokens_of j)
      (sym (append_assoc (outside o) (some ∷ []) (tokens_of j))) (complete o (some_item j) t e)
  complete (list o is us h) j t e =
      let more = items_pushed is j ∙ ap (λ a. and_last a (tree_of_item j)) h ∙ ap (and_last (Some us)) e in
      (before_value (list o (parts_push is j) (and_item us t) more), refl, rw (parts_pushed is j) (simp append_assoc))
  complete (entry o ps ms m k key i) j t e = new_value o ps ms m k key i j t e (has_key key ms) refl

  take_atom : (o : Around) (a : token.Atom) (m : Option Tree) → tree_of_atom a ≡ m → Stands After (completed_if m (levels o)) (outside o ++ atom a ∷ [])
  take_atom o a None e = (outside o, atom a, place_unfinished (before_value o), refl)
  take_atom o a (Some t) e = complete o (atom_item a) t e

  take_value : (o : Around) (t : TokenModel) → Stands After (value_step (levels o) t) (outside o ++ t ∷ [])
  take_value o (atom a) = take_atom o a (tree_of_atom a) refl
  take_value o (bytes b) = complete o (bytes_item b) (tree.bytes b) refl
  take_value o some = (before_value (option o), refl, refl)
  take_value o link = (before_bytes o, refl, refl)
  take_value o seq = (before_value (list o no_parts no_items refl), refl, refl)
  take_value o map = (before_key o no_pairs no_members refl, refl, refl)
  take_value o t = (outside o, t, place_unfinished (before_value o), refl)

  take_key : (o : Around) (ps : Pairs 64) (ms : Members) (m : members_of_pairs ps ≡ Some ms) (k : Item 64) (key : List ℕ) (t : TokenModel) → key_text k ≡ Some key
      → tokens_of k ≡ t ∷ [] → IsAt (open_at (in_value ms key ∷ levels o)) ((outside o ++ map ∷ pairs_tokens ps) ++ t ∷ [])
  take_key o ps ms m k key t is one = (before_value (entry o ps ms m k key is), refl, rw one (append_assoc (outside o) (map ∷ pairs_tokens ps) (t ∷ [])))

  module _ (encoded : (b : List ℕ) (cid : Link) → read_link 64 b ≡ Some cid → IsCid 64 b cid) where
    take_linked : (o : Around) (b : List ℕ) (l : Option Link) (r : Result Link CidError) → read_link 64 b ≡ l → read_cid 64 b ≡ r
        → Stands After (after_link l r (levels o)) ((outside o ++ link ∷ []) ++ bytes b ∷ [])
    take_linked o b (Some cid) r e f =
        stands_at (completed (tree.link cid) (levels o)) (outside o ++ link ∷ bytes b ∷ []) ((outside o ++ link ∷ []) ++ bytes b ∷ [])
        (sym (append_assoc (outside o) (link ∷ []) (bytes b ∷ []))) (complete o (link_item b cid (encoded b cid e)) (tree.link cid) refl)
    take_linked o b None (Err cid_error) e f = (outside o, b, place_unfinished (before_bytes o), f, append_assoc (outside o) (link ∷ []) (bytes b ∷ []))
    take_linked o b None (Ok cid) e f =
        after_mark ((outside o ++ link ∷ []) ++ bytes b ∷ []) (outside o, b, place_unfinished (before_bytes o), tt, append_assoc (outside o) (link ∷ []) (bytes b ∷ []))

    take_at : (p : Place) (t : TokenModel) → Stands After (step (state_at p) t) (front_at p ++ t ∷ [])
    take_at (before_value nothing) t = take_value nothing t
    take_at (before_value (option o)) t = take_value (option o) t
    take_at (before_value (list o is us h)) seq_end =
        stands_at (completed (tree.list us) (levels o)) (outside o ++ tokens_of (list_item is)) (outside (list o is us h) ++ seq_end ∷ [])
        (sym (append_assoc (outside o) (seq ∷ parts_tokens is) (seq_end ∷ []))) (complete o (list_item is) (tree.list us) (ap (option_map tree.list) h))
    take_at (before_value (list o is us h)) t = take_value (list o is us h) t
    take_at (before_value (entry o ps ms m k key i)) t = take_value (entry o ps ms m k key i) t
    take_at (before_bytes o) (bytes b) = take_linked o b (read_link 64 b) (read_cid 64 b) refl refl
    take_at (before_key o ps ms m) (atom (token.text s)) = take_key o ps ms m (atom_item (token.text s)) s (atom (token.text s)) refl refl
    take_at (before_key o ps ms m) (atom (token.character c)) =
        take_key o ps ms m (atom_item (token.character c)) (encode_utf8 c) (atom (token.character c)) refl refl
    take_at (before_key o ps ms m) map_end =
        stands_at (completed (tree.entries ms) (levels o)) (outside o ++ tokens_of (map_item ps)) (front_at (before_key o ps ms m) ++ map_end ∷ [])
        (sym (append_assoc (outside o) (map ∷ pairs_tokens ps) (map_end ∷ []))) (complete o (map_item ps) (tree.entries ms) (ap (option_map tree.entries) m))
    take_at p t = (front_at p, t, place_unfinished p, refl)

    pub take_one : (s : ReadState) (ts : List TokenModel) (t : TokenModel) → IsAt s ts → Stands After (step s t) (ts ++ t ∷ [])
    take_one s ts t (p, e, f) =
        subst (λ x. Stands After (step x t) (ts ++ t ∷ [])) (sym e) (subst (λ us. Stands After (step (state_at p) t) (us ++ t ∷ [])) (sym f) (take_at p t))

-- ---- all tokens

abbrev pub Anything : List TokenModel → Type 0
Anything ts = Unit {0}

module _ (encoded : (b : List ℕ) (cid : Link) → read_link 64 b ≡ Some cid → IsCid 64 b cid) where
  stands_step : (s : ReadState) (ts : List TokenModel) (t : TokenModel) → Stands Anything s ts → Stands Anything (step s t) (ts ++ t ∷ [])
  stands_step (done v) ts t h = tt
  stands_step (rejected f) ts t h = tt
  stands_step s ts t h = take_one Anything (λ _ _. tt) encoded s ts t h

  stands_run : (s : ReadState) (p q : List TokenModel) → Stands Anything s p → Stands Anything (run s q) (p ++ q)
  stands_run s p [] h = subst (Stands Anything s) (sym (append-nil p)) h
  stands_run s p (t ∷ q) h =
      subst (Stands Anything (run (step s t) q)) (append_assoc p (t ∷ []) q) (stands_run (step s t) (p ++ t ∷ []) q (stands_step s p t h))

  pub stands : (ts : List TokenModel) → Stands Anything (run start ts) ts
  stands ts = stands_run start [] ts (before_value nothing, refl, refl)

  pub unfinished : (ts : List TokenModel) → IsGoing (run start ts) → IsUnfinished ts
  unfinished ts g = let (p, e, f) = going_at Anything (run start ts) ts g (stands ts) in subst IsUnfinished (sym f) (place_unfinished p)
