-- Reading a tree within limits: what is said of it, from what the machines come to.
use Rattle.std.proofs.Common.{◌≡◌, List, [], ◌∷◌, ◌++◌, Some, None, Result, Ok, Err, IfOk, refl, sym, ap, subst, inl, inr, ◌∙◌, append_assoc}
use Rattle.std.proofs.lemmas.List.{append-nil, append_cancel_right}
use Rattle.ipld_cid.specs.declared.error.CidError.{CidError}
use Rattle.ipld_tree.specs.Tree.{Tree}
use Rattle.ipld_tree.specs.TreeOf.{tree_of}
use Rattle.ipld_tree.specs.IsTree.{IsTree}
use Rattle.ipld_tree.specs.IsWhole.{IsWhole}
use Rattle.ipld_tree.specs.Limits.{Within}
use Rattle.ipld_tree.specs.declared.ipld.Ipld.{Ipld}
use Rattle.ipld_tree.specs.declared.limits.Limits.{Limits}
use Rattle.ipld_tokens.specs.Token.{TokenModel}
use Rattle.ipld_tokens.specs.Item.{Item, tokens_of}
use Rattle.ipld_tokens.specs.ItemTree.{tree_of_item}
use Rattle.ipld_tokens.specs.TreeTokens.{tokens_of_tree}
use Rattle.ipld_tokens.specs.CutTrees.{EndsWrong, EndsInBadCid, EndsWithRepeatedKey, IsUnfinished}
use Rattle.ipld_tokens.specs.ReadMachine.{bad_token, bad_cid, repeated_key, ReadState, done, rejected, run, start, IsGoing}
use Rattle.ipld_tokens.specs.Outcome.{IfEnd, IfSource, EndsUnless, Leaves, FindsUnless, TokenUnless, CidUnless, KeyUnless, Taken, is_source}
use Rattle.ipld_tokens.specs.ReadContract.{ReadsItem, Reads}
use Rattle.ipld_tokens.specs.Excess as limit
use Rattle.ipld_tokens.specs.Excess.{Excess, too_deep, too_many, excess}
use Rattle.ipld_tokens.specs.LimitOutcome.{KeepsWithin, EndsBeyond, IfTooDeep, IfTooMany, UnlessBeyond, IsWithinAnd, BeyondUnless, ExceedsUnless, is_source_error}
use Rattle.ipld_tokens.specs.LimitContract.{flatten, Beyond, ReadsWithin}
use Rattle.ipld_tokens.specs.declared.error.TokenError.{TokenError}
use Rattle.ipld_tokens.specs.declared.error.TokenError.TheVariants as error
use Rattle.ipld_tokens.specs.declared.error.ReadError.{ReadError}
use Rattle.ipld_tokens.specs.declared.error.ReadError.TheVariants.{TooDeep, TooMany, Token}
use Rattle.ipld_tokens.specs.declared.limited_reader.Excess as declared
use Rattle.ipld_tokens.specs.declared.limited_reader.Excess.TheVariants as which
use Rattle.ipld_tokens.proofs.Verdicts.{LinkLaws, compare}
use Rattle.ipld_tokens.proofs.TreeEnds.{IsEnd, end_goes, reads_item, ends_wrong, ends_in_bad_cid, ends_with_repeated_key, goes}
use Rattle.ipld_tokens.proofs.TreeItems.{is_item}
use Rattle.ipld_tokens.proofs.TreeStands.{unfinished}
use Rattle.ipld_tokens.proofs.TreeRead as plain
use Rattle.ipld_tokens.proofs.Excesses.{none_both, none_within, within_none}

-- ---- from what is read without limits

pub unless_map : {A F : Type 0} (P Q : Result A (TokenError F) → Type 0) → ((r : Result A (TokenError F)) → P r → Q r) → (r : Result A (ReadError F)) → UnlessBeyond r P → UnlessBeyond r Q
unless_map P Q f (Ok x) h = f (Ok x) h
unless_map P Q f (Err TooDeep) h = tt
unless_map P Q f (Err TooMany) h = tt
unless_map P Q f (Err (Token e)) h = f (Err e) h

pub within_map : {A F : Type 0} (P Q : Result A (TokenError F) → Type 0) → ((r : Result A (TokenError F)) → P r → Q r) → (r : Result A (ReadError F)) → IsWithinAnd r P → IsWithinAnd r Q
within_map P Q f (Ok x) h = f (Ok x) h
within_map P Q f (Err TooDeep) h = h
within_map P Q f (Err TooMany) h = h
within_map P Q f (Err (Token e)) h = f (Err e) h

module _ (limits : Limits) (before after : List TokenModel) where
  pub unlimited : {F : Type 0} (r : Result Ipld (ReadError F)) → ReadsWithin limits before after r → UnlessBeyond r (Reads before after)
  unlimited (Ok v) (p, e, (h, k)) = (p, e, h)
  unlimited (Err TooDeep) h = tt
  unlimited (Err TooMany) h = tt
  unlimited (Err (Token e)) (h, k) = h

  pub kept : {F : Type 0} (r : Result Ipld (ReadError F)) → ReadsWithin limits before after r → UnlessBeyond r (λ _. Taken (KeepsWithin limits) before after)
  kept (Ok v) (p, e, (h, k)) = (p, e, k)
  kept (Err TooDeep) h = tt
  kept (Err TooMany) h = tt
  kept (Err (Token e)) (h, k) = k

  beyond_leaves : (e : Excess) → Beyond limits e before after → Leaves before after
  beyond_leaves e (p, t, split, g, k, s) = (p ++ t ∷ [], split ∙ sym (append_assoc p (t ∷ []) after))

  pub left : {F : Type 0} (r : Result Ipld (ReadError F)) → ReadsWithin limits before after r → Leaves before after
  left (Ok v) (p, e, (h, k)) = (p, e)
  left (Err TooDeep) h = beyond_leaves too_deep h
  left (Err TooMany) h = beyond_leaves too_many h
  left (Err (Token e)) (h, (p, split, k)) = (p, split)

  -- ---- where tokens within the limits are an item, or are rejected, none goes beyond a limit before

  cut_short : (taken p m : List TokenModel) (t : TokenModel) (tail rest : List TokenModel) (e : Excess) (v : ReadState) → taken ≡ p ++ m → t ∷ tail ≡ m ++ rest
      → IsEnd v → run start taken ≡ v → KeepsWithin limits taken → IsGoing (run start p) → excess limits limit.start (p ++ t ∷ []) ≡ Some e → ⊥
  cut_short taken p [] t tail rest e v x y end h k g s =
      end_goes taken [] v h end (subst (λ ts. IsGoing (run start ts)) (sym (append-nil taken ∙ x ∙ append-nil p)) g)
  cut_short taken p (u ∷ m) t tail rest e v x y end h k g s =
      let same : t ≡ u = cc in
      let whole : taken ≡ (p ++ t ∷ []) ++ m = x ∙ ap (λ w. p ++ w ∷ m) (sym same) ∙ sym (append_assoc p (t ∷ []) m) in
      let none : excess limits limit.start (p ++ t ∷ []) ≡ None = (none_both limits limit.start (p ++ t ∷ []) m (subst (KeepsWithin limits) whole k)).0 in
      cc

  no_end_of : (e : Excess) (p : List TokenModel) (t : TokenModel) (tail : List TokenModel) → before ≡ p ++ t ∷ tail → IsGoing (run start p)
      → excess limits limit.start (p ++ t ∷ []) ≡ Some e → (v : ReadState) → IsEnd v → (taken rest : List TokenModel) → before ≡ taken ++ rest → run start taken ≡ v
      → KeepsWithin limits taken → ⊥
  no_end_of e p t tail split g s v end taken rest other h k =
      elim (compare taken p rest (t ∷ tail) (sym other ∙ split)) [
        | inl (m, x, y) ↦ end_goes taken m v h end (subst (λ ts. IsGoing (run start ts)) x g)
        | inr (m, x, y) ↦ cut_short taken p m t tail rest e v x y end h k g s
      ]

  not_beyond : (e : Excess) → Beyond limits e before after → (v : ReadState) → IsEnd v → (taken rest : List TokenModel) → before ≡ taken ++ rest → run start taken ≡ v
      → KeepsWithin limits taken → ⊥
  not_beyond e (p, t, split, g, kp, s) v end taken rest other h k = no_end_of e p t after split g s v end taken rest other h k

  pub is_within : {F : Type 0} (r : Result Ipld (ReadError F)) → ReadsWithin limits before after r → (v : ReadState) → IsEnd v → (taken rest : List TokenModel)
      → before ≡ taken ++ rest → run start taken ≡ v → KeepsWithin limits taken → IsWithinAnd r (Reads before after)
  is_within (Ok x) (p, e, (h, k)) v end taken rest other run_is keep = (p, e, h)
  is_within (Err TooDeep) b v end taken rest other run_is keep = not_beyond too_deep b v end taken rest other run_is keep
  is_within (Err TooMany) b v end taken rest other run_is keep = not_beyond too_many b v end taken rest other run_is keep
  is_within (Err (Token e)) (h, k) v end taken rest other run_is keep = h

  never_beyond : (e : Excess) → Beyond limits e before after → KeepsWithin limits before → ⊥
  never_beyond e (p, t, split, g, kp, s) k =
      let whole : before ≡ (p ++ t ∷ []) ++ after = split ∙ sym (append_assoc p (t ∷ []) after) in
      let none : excess limits limit.start (p ++ t ∷ []) ≡ None = (none_both limits limit.start (p ++ t ∷ []) after (subst (KeepsWithin limits) whole k)).0 in
      cc

  is_within_all : {F : Type 0} (r : Result Ipld (ReadError F)) → ReadsWithin limits before after r → KeepsWithin limits before → IsWithinAnd r (Reads before after)
  is_within_all (Ok x) (p, e, (h, k)) keep = (p, e, h)
  is_within_all (Err TooDeep) b keep = never_beyond too_deep b keep
  is_within_all (Err TooMany) b keep = never_beyond too_many b keep
  is_within_all (Err (Token e)) (h, k) keep = h

  -- ---- the first token beyond a limit

  same_first : (p q m : List TokenModel) (t u : TokenModel) (rest tail : List TokenModel) (d e : Excess) → q ≡ p ++ m → t ∷ rest ≡ m ++ u ∷ tail
      → excess limits limit.start (p ++ t ∷ []) ≡ Some d → KeepsWithin limits q → excess limits limit.start (q ++ u ∷ []) ≡ Some e → (d ≡ e) × (rest ≡ tail)
  same_first p q [] t u rest tail d e x y a k b =
      let token_is : t ≡ u = cc in
      let same : p ++ t ∷ [] ≡ q ++ u ∷ [] = ap (λ w. p ++ w ∷ []) token_is ∙ ap (λ ts. ts ++ u ∷ []) (sym (x ∙ append-nil p)) in
      let both : Some d ≡ Some e = sym a ∙ ap (excess limits limit.start) same ∙ b in
      (cc, cc)
  same_first p q (w ∷ m) t u rest tail d e x y a k b =
      let same : t ≡ w = cc in
      let whole : q ≡ (p ++ t ∷ []) ++ m = x ∙ ap (λ z. p ++ z ∷ m) (sym same) ∙ sym (append_assoc p (t ∷ []) m) in
      let none : excess limits limit.start (p ++ t ∷ []) ≡ None = (none_both limits limit.start (p ++ t ∷ []) m (subst (KeepsWithin limits) whole k)).0 in
      absurd cc

  one_first : (d : Excess) (p : List TokenModel) (t : TokenModel) (rest : List TokenModel) → before ≡ p ++ t ∷ rest → KeepsWithin limits p
      → excess limits limit.start (p ++ t ∷ []) ≡ Some d → (e : Excess) → Beyond limits e before after → (d ≡ e) × (after ≡ rest)
  one_first d p t rest split k s e (q, u, other, g, kq, b) =
      elim (compare p q (t ∷ rest) (u ∷ after) (sym split ∙ other)) [
        | inl (m, x, y) ↦ let r = same_first p q m t u rest after d e x y s kq b in (r.0, sym r.1)
        | inr (m, x, y) ↦ let r = same_first q p m u t after rest e d x y b k s in (sym r.0, r.1)
      ]

  same_taken : (p q : List TokenModel) → before ≡ p ++ after → before ≡ q ++ after → p ≡ q
  same_taken p q a b = append_cancel_right p q after (sym a ∙ b)

  -- tokens of which one goes beyond a limit aren't taken to an end
  no_end : (e : Excess) (p : List TokenModel) (t : TokenModel) (rest : List TokenModel) → before ≡ p ++ t ∷ rest → IsGoing (run start p)
      → excess limits limit.start (p ++ t ∷ []) ≡ Some e → (v : ReadState) → IsEnd v → Taken (λ ts. run start ts ≡ v) before after → Taken (KeepsWithin limits) before after → ⊥
  no_end e p t rest split g s v end (q, other, h) (u, again, k) =
      let keep : KeepsWithin limits q = subst (KeepsWithin limits) (same_taken u q again other) k in
      no_end_of e p t rest split g s v end q after other h keep

  keeps_all : Taken (KeepsWithin limits) before after → after ≡ [] → KeepsWithin limits before
  keeps_all (p, split, k) none = subst (KeepsWithin limits) (sym (split ∙ ap (λ ts. p ++ ts) none ∙ append-nil p)) k

  not_all : (e : Excess) (p : List TokenModel) (t : TokenModel) (rest : List TokenModel) → before ≡ p ++ t ∷ rest → excess limits limit.start (p ++ t ∷ []) ≡ Some e
      → KeepsWithin limits before → ⊥
  not_all e p t rest split s k =
      let whole : before ≡ (p ++ t ∷ []) ++ rest = split ∙ sym (append_assoc p (t ∷ []) rest) in
      let none : excess limits limit.start (p ++ t ∷ []) ≡ None = (none_both limits limit.start (p ++ t ∷ []) rest (subst (KeepsWithin limits) whole k)).0 in
      cc

  exceeds : {F : Type 0} (r : Result Ipld (ReadError F)) → ReadsWithin limits before after r → (e : Excess) (p : List TokenModel) (t : TokenModel) (rest : List TokenModel)
      → before ≡ p ++ t ∷ rest → IsGoing (run start p) → KeepsWithin limits p → excess limits limit.start (p ++ t ∷ []) ≡ Some e → BeyondUnless e r (after ≡ rest)
  exceeds (Ok v) (q, other, (h, k)) e p t rest split g kp s = no_end e p t rest split g s (done (tree_of v)) tt (q, other, h) (q, other, k)
  exceeds (Err TooDeep) b e p t rest split g kp s = one_first e p t rest split kp s too_deep b
  exceeds (Err TooMany) b e p t rest split g kp s = one_first e p t rest split kp s too_many b
  exceeds (Err (Token error.Memory)) h e p t rest split g kp s = tt
  exceeds (Err (Token (error.Source fault))) h e p t rest split g kp s = tt
  exceeds (Err (Token error.Token)) (h, k) e p t rest split g kp s = no_end e p t rest split g s (rejected bad_token) tt h k
  exceeds (Err (Token (error.Cid cid_error))) (h, k) e p t rest split g kp s = no_end e p t rest split g s (rejected (bad_cid cid_error)) tt h k
  exceeds (Err (Token error.End)) ((goes_on, none), k) e p t rest split g kp s = not_all e p t rest split s (keeps_all k none)
  exceeds (Err (Token error.DuplicateKey)) (h, k) e p t rest split g kp s = no_end e p t rest split g s (rejected repeated_key) tt h k

  module _ (laws : LinkLaws 64) where
    ends_beyond : (e : Excess) → Beyond limits e before after → Taken (EndsBeyond limits e) before after
    ends_beyond e (p, t, split, g, k, s) = (p ++ t ∷ [], split ∙ sym (append_assoc p (t ∷ []) after), (p, t, unfinished laws.encoded p g, refl, k, s))

    pub deep : {F : Type 0} (r : Result Ipld (ReadError F)) → ReadsWithin limits before after r → IfTooDeep r (Taken (EndsBeyond limits too_deep) before after)
    deep (Ok v) h = tt
    deep (Err TooDeep) h = ends_beyond too_deep h
    deep (Err TooMany) h = tt
    deep (Err (Token e)) h = tt

    pub many : {F : Type 0} (r : Result Ipld (ReadError F)) → ReadsWithin limits before after r → IfTooMany r (Taken (EndsBeyond limits too_many) before after)
    many (Ok v) h = tt
    many (Err TooDeep) h = tt
    many (Err TooMany) h = ends_beyond too_many h
    many (Err (Token e)) h = tt

    pub only_beyond : {F : Type 0} (r : Result Ipld (ReadError F)) → ReadsWithin limits before after r → (e : Excess) (taken rest : List TokenModel)
        → EndsBeyond limits e taken → before ≡ taken ++ rest → BeyondUnless e r (after ≡ rest)
    only_beyond r h e taken rest (front, t, u, is, k, s) split =
        exceeds r h e front t rest (split ∙ ap (λ ts. ts ++ rest) is ∙ append_assoc front (t ∷ []) rest) (goes laws front u) k
        (sym (ap (excess limits limit.start) is) ∙ s)

    pub found : {F : Type 0} (r : Result Ipld (ReadError F)) → ReadsWithin limits before after r
        → IfOk r (λ v. ReadsItem before after (tree_of v) × Within limits (tree_of v))
    found {F} (Ok v) (p, e, (h, k)) =
        let i = plain.stood before after laws (done (tree_of v)) p h in
        (plain.found_item before after laws {F = F} (Ok v) (p, e, h), within_none limits i.0 (tree_of v) i.1 (subst (KeepsWithin limits) i.2 k))
    found (Err e) h = tt

    pub only_item : {F : Type 0} (r : Result Ipld (ReadError F)) → ReadsWithin limits before after r → (i : Item 64) (t : Tree) (rest : List TokenModel)
        → before ≡ tokens_of i ++ rest → tree_of_item i ≡ Some t → Within limits t → IsWithinAnd r (λ r. FindsUnless r (λ v. (tree_of v ≡ t) × (after ≡ rest)))
    only_item r h i t rest split has w =
        within_map (Reads before after) (λ r. FindsUnless r (λ v. (tree_of v ≡ t) × (after ≡ rest))) (λ r reads. plain.only_item before after laws r reads i t rest split has) r
        (is_within r h (done t) tt (tokens_of i) rest split (reads_item laws i t has) (none_within limits i t has w))

    pub only_tree : {F : Type 0} (r : Result Ipld (ReadError F)) → ReadsWithin limits before after r → (t : Tree) (rest : List TokenModel) → IsTree t → IsWhole t
        → before ≡ tokens_of_tree t ++ rest → Within limits t → IsWithinAnd r (λ r. FindsUnless r (λ v. (tree_of v ≡ t) × (after ≡ rest)))
    only_tree r h t rest is whole split w =
        let i = is_item laws.has_encoding t is whole in
        only_item r h i.0 t rest (split ∙ ap (λ xs. xs ++ rest) (sym i.1)) i.2 w

    larger_by : {F : Type 0} (r : Result Ipld (ReadError F)) (t : Tree) (P : Type 0) → ReadsWithin limits before after r → (Within limits t → ⊥)
        → UnlessBeyond r (λ r. FindsUnless r (λ v. (tree_of v ≡ t) × P)) → ExceedsUnless r
    larger_by {F} (Ok v) t P h not f = not (subst (Within limits) f.0 ((found {F = F} (Ok v) h).1))
    larger_by (Err TooDeep) t P h not f = tt
    larger_by (Err TooMany) t P h not f = tt
    larger_by (Err (Token error.Memory)) t P h not f = tt
    larger_by (Err (Token (error.Source fault))) t P h not f = tt
    larger_by (Err (Token error.Token)) t P h not f = f
    larger_by (Err (Token (error.Cid cid_error))) t P h not f = f
    larger_by (Err (Token error.End)) t P h not f = f
    larger_by (Err (Token error.DuplicateKey)) t P h not f = f

    pub larger : {F : Type 0} (r : Result Ipld (ReadError F)) → ReadsWithin limits before after r → (i : Item 64) (t : Tree) (rest : List TokenModel)
        → before ≡ tokens_of i ++ rest → tree_of_item i ≡ Some t → (Within limits t → ⊥) → ExceedsUnless r
    larger r h i t rest split has not =
        larger_by r t (after ≡ rest) h not
        (unless_map (Reads before after) (λ r. FindsUnless r (λ v. (tree_of v ≡ t) × (after ≡ rest))) (λ r reads. plain.only_item before after laws r reads i t rest split has) r
        (unlimited r h))

    pub only_wrong : {F : Type 0} (r : Result Ipld (ReadError F)) → ReadsWithin limits before after r → (taken rest : List TokenModel) → EndsWrong taken
        → KeepsWithin limits taken → before ≡ taken ++ rest → IsWithinAnd r (λ r. TokenUnless r (after ≡ rest))
    only_wrong r h taken rest w k split =
        within_map (Reads before after) (λ r. TokenUnless r (after ≡ rest)) (λ r reads. plain.only_wrong before after laws r reads taken rest w split) r
        (is_within r h (rejected bad_token) tt taken rest split (ends_wrong laws taken w) k)

    pub only_bad_cid : {F : Type 0} (r : Result Ipld (ReadError F)) → ReadsWithin limits before after r → (cid_error : CidError) (taken rest : List TokenModel)
        → EndsInBadCid cid_error taken → KeepsWithin limits taken → before ≡ taken ++ rest → IsWithinAnd r (λ r. CidUnless cid_error r (after ≡ rest))
    only_bad_cid r h cid_error taken rest w k split =
        within_map (Reads before after) (λ r. CidUnless cid_error r (after ≡ rest)) (λ r reads. plain.only_bad_cid before after laws r reads cid_error taken rest w split) r
        (is_within r h (rejected (bad_cid cid_error)) tt taken rest split (ends_in_bad_cid laws cid_error taken w) k)

    pub only_repeated_key : {F : Type 0} (r : Result Ipld (ReadError F)) → ReadsWithin limits before after r → (taken rest : List TokenModel) → EndsWithRepeatedKey taken
        → KeepsWithin limits taken → before ≡ taken ++ rest → IsWithinAnd r (λ r. KeyUnless r (after ≡ rest))
    only_repeated_key r h taken rest w k split =
        within_map (Reads before after) (λ r. KeyUnless r (after ≡ rest)) (λ r reads. plain.only_repeated_key before after laws r reads taken rest w split) r
        (is_within r h (rejected repeated_key) tt taken rest split (ends_with_repeated_key laws taken w) k)

    pub only_unfinished : {F : Type 0} (r : Result Ipld (ReadError F)) → ReadsWithin limits before after r → IsUnfinished before → KeepsWithin limits before
        → IsWithinAnd r (λ r. EndsUnless r)
    only_unfinished r h u k =
        within_map (Reads before after) (λ r. EndsUnless r) (λ r reads. plain.only_unfinished before after laws r reads u) r (is_within_all r h k)

-- ---- of the source

pub source_fails : {F : Type 0} (r : Result (Result Ipld declared.Excess) (TokenError F)) → is_source r ≡ is_source_error (flatten r)
source_fails (Ok (Ok v)) = refl
source_fails (Ok (Err which.TooDeep)) = refl
source_fails (Ok (Err which.TooMany)) = refl
source_fails (Err error.Memory) = refl
source_fails (Err (error.Source fault)) = refl
source_fails (Err error.Token) = refl
source_fails (Err (error.Cid cid_error)) = refl
source_fails (Err error.End) = refl
source_fails (Err error.DuplicateKey) = refl

pub if_source : {F : Type 0} (P : F → Type 0) (r : Result (Result Ipld declared.Excess) (TokenError F)) → IfSource r P → UnlessBeyond (flatten r) (λ r. IfSource r P)
if_source P (Ok (Ok v)) h = tt
if_source P (Ok (Err which.TooDeep)) h = tt
if_source P (Ok (Err which.TooMany)) h = tt
if_source P (Err error.Memory) h = tt
if_source P (Err (error.Source fault)) h = h
if_source P (Err error.Token) h = tt
if_source P (Err (error.Cid cid_error)) h = tt
if_source P (Err error.End) h = tt
if_source P (Err error.DuplicateKey) h = tt

pub if_end : {F : Type 0} (P : Type 0) (r : Result (Result Ipld declared.Excess) (TokenError F)) → IfEnd r P → UnlessBeyond (flatten r) (λ r. IfEnd r P)
if_end P (Ok (Ok v)) h = tt
if_end P (Ok (Err which.TooDeep)) h = tt
if_end P (Ok (Err which.TooMany)) h = tt
if_end P (Err error.Memory) h = tt
if_end P (Err (error.Source fault)) h = tt
if_end P (Err error.Token) h = tt
if_end P (Err (error.Cid cid_error)) h = tt
if_end P (Err error.End) h = h
if_end P (Err error.DuplicateKey) h = tt
