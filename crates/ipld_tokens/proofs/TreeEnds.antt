-- Where a tree is cut reading goes on; what is rejected there, the machine rejects; and it ends in one way.
use Rattle.std.proofs.Common.{◌≡◌, ℕ, Bool, true, false, List, [], ◌∷◌, ◌++◌, Option, Some, None, is_some, Result, Ok, Err, refl, sym, ap, subst, inl, inr, ◌∙◌}
use Rattle.std.proofs.lemmas.List.{append-nil}
use Rattle.ipld_cid.specs.declared.error.CidError.{CidError}
use Rattle.ipld_cid.specs.Cid.{Link}
use Rattle.ipld_cid.specs.Bytes.{read_cid}
use Rattle.ipld_tree.specs.Tree.{Tree, Items, no_items, Members, no_members}
use Rattle.ipld_tree.specs.Tree as tree
use Rattle.ipld_tree.specs.Put.{put}
use Rattle.ipld_tokens.specs.LinkBytes.{read_link}
use Rattle.ipld_tokens.specs.Token.{TokenModel, bytes, link, map}
use Rattle.ipld_tokens.specs.Item.{Item, Pairs, tokens_of, parts_tokens, pairs_tokens}
use Rattle.ipld_tokens.specs.ItemTree.{key_text, has_key, tree_of_item, items_of_parts, members_of_pairs}
use Rattle.ipld_tokens.specs.CutTrees.{CutTree, at_value, at_bytes, inside_option, inside_list, at_key, inside_map, tokens_before, IsRead, IsUnfinished, IsTreeItem, EndsInLink, EndsInBadCid, EndsWithRepeatedKey, EndsWrong}
use Rattle.ipld_tokens.specs.ReadMachine.{Container, in_list, in_key, in_value, bad_token, bad_cid, repeated_key, never, ReadState, open_at, wanted, marked, done, rejected, if_new, completed, after_link, value_step, key_step, link_step, ends_list, step, run, start, IsGoing}
use Rattle.ipld_tokens.proofs.LinkReading.{read_none}
use Rattle.ipld_tokens.proofs.Verdicts.{LinkLaws, compare}
use Rattle.ipld_tokens.proofs.TreeReading.{run_append, begins_value, over_key, over_item, over_parts, over_pairs}
use Rattle.ipld_tokens.proofs.TreeStands.{Around, nothing, option, list, entry, levels, Place, before_value, before_bytes, before_key, state_at, place_unfinished, Stands, Anything, stands, going_at, take_one}

some_of : {A : Type 0} (o : Option A) → is_some o ≡ true → (x : A) × (o ≡ Some x)
some_of None e = absurd cc
some_of (Some x) e = (x, refl)

pub step_last : (front : List TokenModel) (t : TokenModel) → run start (front ++ t ∷ []) ≡ step (run start front) t
step_last front t = run_append start front (t ∷ [])

-- where a value may come, reading goes on as where it has to
goes_in_list : (c : CutTree) (us : Items) (ls : List Container) → IsGoing (run (wanted (in_list us ∷ ls)) (tokens_before c)) → IsGoing (run (open_at (in_list us ∷ ls)) (tokens_before c))
goes_in_list at_value us ls g = tt
goes_in_list c us ls g = g

goes_in_map : (c : CutTree) (ms : Members) (key : List ℕ) (ls : List Container) → IsGoing (run (wanted (in_value ms key ∷ ls)) (tokens_before c))
    → IsGoing (run (open_at (in_value ms key ∷ ls)) (tokens_before c))
goes_in_map at_value ms key ls g = tt
goes_in_map c ms key ls g = g

-- a token that comes only where a value has to
value_there : (t : TokenModel) → ((ms : Members) (ls : List Container) → IsGoing (key_step ms ls t) → ⊥) → ((ls : List Container) → IsGoing (link_step ls t) → ⊥) → ends_list t ≡ false
    → (s : ReadState) → IsGoing (step s t) → (ls : List Container) × (step s t ≡ value_step ls t)
value_there t no_key no_bytes no_end (open_at []) g = ([], refl)
value_there t no_key no_bytes no_end (open_at (in_list us ∷ ls)) g = (in_list us ∷ ls, rw no_end refl)
value_there t no_key no_bytes no_end (open_at (in_key ms ∷ ls)) g = absurd (no_key ms ls g)
value_there t no_key no_bytes no_end (open_at (in_value ms key ∷ ls)) g = (in_value ms key ∷ ls, refl)
value_there t no_key no_bytes no_end (wanted ls) g = (ls, refl)
value_there t no_key no_bytes no_end (marked ls) g = absurd (no_bytes ls g)
value_there t no_key no_bytes no_end (done v) g = absurd g
value_there t no_key no_bytes no_end (rejected f) g = absurd g

-- no value completes where its container rejects it
no_bad_if : (b : Bool) (ls : List Container) → if_new b (open_at ls) ≡ rejected bad_token → ⊥
no_bad_if true ls e = cc
no_bad_if false ls e = cc

no_bad_value : (o : Around) (t : Tree) → completed t (levels o) ≡ rejected bad_token → ⊥
no_bad_value nothing t e = cc
no_bad_value (option o) t e = no_bad_value o t e
no_bad_value (list o is us h) t e = cc
no_bad_value (entry o ps ms m k key i) t e = no_bad_if (has_key key ms) (in_key (put key t ms) ∷ levels o) e

no_bad_link : (p : Place) (ls : List Container) → state_at p ≡ marked ls → (l : Option Link) (r : Result Link CidError) → after_link l r ls ≡ rejected bad_token → ⊥
no_bad_link p ls e None (Err cid_error) b = cc
no_bad_link p ls e None (Ok cid) b = cc
no_bad_link (before_bytes o) ls e (Some cid) r b = let same : levels o ≡ ls = cc in no_bad_value o (tree.link cid) (ap (completed (tree.link cid)) same ∙ b)
no_bad_link (before_value nothing) ls e (Some cid) r b = cc
no_bad_link (before_value (option o)) ls e (Some cid) r b = cc
no_bad_link (before_value (list o is us h)) ls e (Some cid) r b = cc
no_bad_link (before_value (entry o ps ms m k key i)) ls e (Some cid) r b = cc
no_bad_link (before_key o ps ms m) ls e (Some cid) r b = cc

-- the state that says what else the tokens aren't
wrong_is : (s : ReadState) (ts : List TokenModel) → Stands (EndsInLink (λ b. Unit {0})) s ts → (IsUnfinished ts → ⊥) → (IsTreeItem ts → ⊥)
    → (EndsInLink (λ b. Unit {0}) ts → ⊥) → (EndsWithRepeatedKey ts → ⊥) → s ≡ rejected bad_token
wrong_is (done v) ts (i, e, is) no_cut no_tree no_link no_key = absurd (no_tree (i, ap is_some e, is))
wrong_is (rejected bad_token) ts h no_cut no_tree no_link no_key = refl
wrong_is (rejected (bad_cid cid_error)) ts (front, b, u, r, e) no_cut no_tree no_link no_key = absurd (no_link (front, b, u, tt, e))
wrong_is (rejected repeated_key) ts h no_cut no_tree no_link no_key = absurd (no_key h)
wrong_is (rejected never) ts h no_cut no_tree no_link no_key = absurd (no_link h)
wrong_is s ts h no_cut no_tree no_link no_key = absurd (no_cut (subst IsUnfinished (sym h.2) (place_unfinished h.0)))

module _ (laws : LinkLaws 64) where
  over_entry : (ps : Pairs 64) (k : Item 64) (ms : Members) (key : List ℕ) → members_of_pairs ps ≡ Some ms → key_text k ≡ Some key → (ls : List Container) (more : List TokenModel)
      → run (open_at (in_key no_members ∷ ls)) (pairs_tokens ps ++ (tokens_of k ++ more)) ≡ run (open_at (in_value ms key ∷ ls)) more
  over_entry ps k ms key m is ls more =
      run_append (open_at (in_key no_members ∷ ls)) (pairs_tokens ps) (tokens_of k ++ more) ∙ ap (λ s. run s (tokens_of k ++ more)) (over_pairs laws.reads ps ms m ls)
      ∙ run_append (open_at (in_key ms ∷ ls)) (tokens_of k) more ∙ ap (λ s. run s more) (over_key k key ms ls is)

  goes_cut : (c : CutTree) → IsRead c → (ls : List Container) → IsGoing (run (wanted ls) (tokens_before c))
  goes_cut at_value h ls = tt
  goes_cut at_bytes h ls = tt
  goes_cut (inside_option c) h ls = goes_cut c h ls
  goes_cut (inside_list is c) h ls =
      let us = some_of (items_of_parts is) h.0 in
      let over = run_append (open_at (in_list no_items ∷ ls)) (parts_tokens is) (tokens_before c) ∙ ap (λ s. run s (tokens_before c)) (over_parts laws.reads is us.0 us.1 ls) in
      subst IsGoing (sym over) (goes_in_list c us.0 ls (goes_cut c h.1 (in_list us.0 ∷ ls)))
  goes_cut (at_key ps) h ls = let ms = some_of (members_of_pairs ps) h in subst IsGoing (sym (over_pairs laws.reads ps ms.0 ms.1 ls)) tt
  goes_cut (inside_map ps k c) h ls =
      let ms = some_of (members_of_pairs ps) h.0 in
      let key = some_of (key_text k) h.1 in
      subst IsGoing (sym (over_entry ps k ms.0 key.0 ms.1 key.1 ls (tokens_before c))) (goes_in_map c ms.0 key.0 ls (goes_cut c h.2 (in_value ms.0 key.0 ∷ ls)))

  pub goes : (ts : List TokenModel) → IsUnfinished ts → IsGoing (run start ts)
  goes ts (c, h, e) = subst (λ xs. IsGoing (run start xs)) (sym e) (goes_cut c h [])

  after_mark : (front : List TokenModel) → IsUnfinished (front ++ link ∷ []) → (ls : List Container) × (step (run start front) link ≡ marked ls)
  after_mark front u = value_there link (λ ms ls h. h) (λ ls h. h) refl (run start front) (subst IsGoing (step_last front link) (goes (front ++ link ∷ []) u))

  after_map : (front : List TokenModel) → IsUnfinished (front ++ map ∷ []) → (ls : List Container) × (step (run start front) map ≡ open_at (in_key no_members ∷ ls))
  after_map front u = value_there map (λ ms ls h. h) (λ ls h. h) refl (run start front) (subst IsGoing (step_last front map) (goes (front ++ map ∷ []) u))

  pub reads_item : (i : Item 64) (t : Tree) → tree_of_item i ≡ Some t → run start (tokens_of i) ≡ done t
  reads_item i t e = over_item laws.reads i t e []

  pub ends_in_bad_cid : (cid_error : CidError) (ts : List TokenModel) → EndsInBadCid cid_error ts → run start ts ≡ rejected (bad_cid cid_error)
  ends_in_bad_cid cid_error ts (front, b, u, f, e) =
      let w = after_mark front u in
      ap (run start) e ∙ run_append start front (link ∷ bytes b ∷ []) ∙ ap (λ s. step s (bytes b)) w.1
      ∙ ap (λ l. after_link l (read_cid 64 b) w.0) (read_none 64 b cid_error f) ∙ ap (λ r. after_link None r w.0) f

  pub ends_with_repeated_key : (ts : List TokenModel) → EndsWithRepeatedKey ts → run start ts ≡ rejected repeated_key
  ends_with_repeated_key ts (front, ps, k, v, u, (ms, key, m, is, has), val, e) =
      let w = after_map front u in
      let t = some_of (tree_of_item v) val in
      ap (run start) e ∙ run_append start front (map ∷ (pairs_tokens ps ++ (tokens_of k ++ tokens_of v)))
      ∙ ap (λ s. run s (pairs_tokens ps ++ (tokens_of k ++ tokens_of v))) w.1 ∙ over_entry ps k ms key m is w.0 (tokens_of v)
      ∙ begins_value v ms key w.0 ∙ over_item laws.reads v t.0 t.1 (in_value ms key ∷ w.0) ∙ ap (λ b. if_new b (open_at (in_key (put key t.0 ms) ∷ w.0))) has

  pub ends_wrong : (ts : List TokenModel) → EndsWrong ts → run start ts ≡ rejected bad_token
  ends_wrong ts (front, t, u, e, no_cut, no_tree, no_link, no_key) =
      let at = going_at Anything (run start front) front (goes front u) (stands laws.encoded front) in
      let more = take_one (EndsInLink (λ b. Unit {0})) (λ us h. h) laws.encoded (run start front) front t at in
      wrong_is (run start ts) ts
      (subst (λ us. Stands (EndsInLink (λ b. Unit {0})) (run start us) us) (sym e) (subst (λ s. Stands (EndsInLink (λ b. Unit {0})) s (front ++ t ∷ [])) (sym (step_last front t)) more))
      no_cut no_tree no_link no_key

  no_link_ends : (ts : List TokenModel) → run start ts ≡ rejected bad_token → EndsInLink (λ b. Unit {0}) ts → ⊥
  no_link_ends ts r (front, b, u, _, e) =
      let w = after_mark front u in
      let mark = front ++ link ∷ [] in
      let (p, s, f) = going_at Anything (run start mark) mark (goes mark u) (stands laws.encoded mark) in
      no_bad_link p w.0 (sym s ∙ step_last front link ∙ w.1) (read_link 64 b) (read_cid 64 b)
      (sym (ap (run start) e ∙ run_append start front (link ∷ bytes b ∷ []) ∙ ap (λ x. step x (bytes b)) w.1) ∙ r)

  no_tree_ends : (ts : List TokenModel) → run start ts ≡ rejected bad_token → IsTreeItem ts → ⊥
  no_tree_ends ts r (i, has, e) =
      let t = some_of (tree_of_item i) has in
      let same : done t.0 ≡ rejected bad_token = sym (ap (run start) e ∙ reads_item i t.0 t.1) ∙ r in cc

  no_key_ends : (ts : List TokenModel) → run start ts ≡ rejected bad_token → EndsWithRepeatedKey ts → ⊥
  no_key_ends ts r h = let same : rejected repeated_key ≡ rejected bad_token = sym (ends_with_repeated_key ts h) ∙ r in cc

  pub wrong_ends : (ts : List TokenModel) → run start ts ≡ rejected bad_token → EndsWrong ts
  wrong_ends ts r =
      let (front, t, u, e) = subst (λ s. Stands Anything s ts) r (stands laws.encoded ts) in
      (front, t, u, e, λ cut. subst IsGoing r (goes ts cut), no_tree_ends ts r, no_link_ends ts r, no_key_ends ts r)

-- ---- one end

abbrev pub IsEnd : ReadState → Type 0
IsEnd (done v) = Unit {0}
IsEnd (rejected never) = ⊥
IsEnd (rejected cid_error) = Unit {0}
IsEnd _ = ⊥

run_never : (p : List TokenModel) → run (rejected never) p ≡ rejected never
run_never [] = refl
run_never (t ∷ p) = run_never p

after_end : (s : ReadState) (t : TokenModel) (m : List TokenModel) → IsEnd s → run s (t ∷ m) ≡ rejected never
after_end (open_at ls) t m h = absurd h
after_end (wanted ls) t m h = absurd h
after_end (marked ls) t m h = absurd h
after_end (done v) t m h = run_never m
after_end (rejected cid_error) t m h = run_never m

no_end_goes : (s : ReadState) → IsEnd s → IsGoing s → ⊥
no_end_goes (open_at ls) h g = h
no_end_goes (wanted ls) h g = h
no_end_goes (marked ls) h g = h
no_end_goes (done v) h g = g
no_end_goes (rejected cid_error) h g = g

one_end : (p q r u m : List TokenModel) (s v : ReadState) → q ≡ p ++ m → r ≡ m ++ u → run start p ≡ s → run start q ≡ v → IsEnd s → IsEnd v → (s ≡ v) × (r ≡ u)
one_end p q r u [] s v x y h k a b = (sym h ∙ ap (run start) (sym (x ∙ append-nil p)) ∙ k, y)
one_end p q r u (t ∷ m) s v x y h k a b =
    absurd (subst IsEnd (sym k ∙ ap (run start) x ∙ run_append start p (t ∷ m) ∙ ap (λ w. run w (t ∷ m)) h ∙ after_end s t m a) b)

pub two_ends : (p q r u : List TokenModel) (s v : ReadState) → p ++ r ≡ q ++ u → run start p ≡ s → run start q ≡ v → IsEnd s → IsEnd v → (s ≡ v) × (r ≡ u)
two_ends p q r u s v e h k a b =
    elim (compare p q r u e) [
      | inl (m, x, y) ↦ one_end p q r u m s v x y h k a b
      | inr (m, x, y) ↦ let o = one_end q p u r m v s x y k h b a in (sym o.0, sym o.1)
    ]

-- what goes on has no beginning that ends
pub end_goes : (p r : List TokenModel) (s : ReadState) → run start p ≡ s → IsEnd s → IsGoing (run start (p ++ r)) → ⊥
end_goes p [] s h a g = no_end_goes s a (subst IsGoing (ap (run start) (append-nil p) ∙ h) g)
end_goes p (t ∷ r) s h a g = subst IsGoing (run_append start p (t ∷ r) ∙ ap (λ w. run w (t ∷ r)) h ∙ after_end s t r a) g
