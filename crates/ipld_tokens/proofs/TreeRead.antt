-- Reading a tree, by the machine.
use Rattle.std.proofs.Common.{◌≡◌, List, [], ◌∷◌, ◌++◌, Some, Result, Ok, Err, IfOk, sym, ap, subst, ◌∙◌, append_assoc}
use Rattle.std.proofs.lemmas.List.{append-nil}
use Rattle.ipld_cid.specs.declared.error.CidError.{CidError}
use Rattle.ipld_tree.specs.Tree.{Tree}
use Rattle.ipld_tree.specs.TreeOf.{tree_of}
use Rattle.ipld_tree.specs.IsTree.{IsTree}
use Rattle.ipld_tree.specs.IsWhole.{IsWhole}
use Rattle.ipld_tree.specs.declared.ipld.Ipld.{Ipld}
use Rattle.ipld_tokens.specs.Token.{TokenModel}
use Rattle.ipld_tokens.specs.Item.{Item, tokens_of}
use Rattle.ipld_tokens.specs.ItemTree.{tree_of_item}
use Rattle.ipld_tokens.specs.TreeTokens.{tokens_of_tree}
use Rattle.ipld_tokens.specs.CutTrees.{EndsWrong, EndsInBadCid, EndsWithRepeatedKey, IsUnfinished, EndsAllocating}
use Rattle.ipld_tokens.specs.ReadMachine.{bad_token, bad_cid, repeated_key, ReadState, done, rejected, step, run, start, IsGoing}
use Rattle.ipld_tokens.specs.Outcome.{IfMemory, IfToken, IfCid, IfEnd, IfSource, IfDuplicateKey, EndsUnless, Leaves, FindsUnless, TokenUnless, CidUnless, KeyUnless, Taken}
use Rattle.ipld_tokens.specs.ReadContract.{ReadsItem, Consumed, Reads}
use Rattle.ipld_tokens.specs.declared.error.TokenError.{TokenError}
use Rattle.ipld_tokens.specs.declared.error.TokenError.TheVariants as error
use Rattle.ipld_tokens.proofs.Verdicts.{LinkLaws}
use Rattle.ipld_tokens.proofs.TreeReading.{run_append}
use Rattle.ipld_tokens.proofs.TreeEnds.{IsEnd, two_ends, end_goes, reads_item, ends_wrong, ends_in_bad_cid, ends_with_repeated_key, wrong_ends, goes}
use Rattle.ipld_tokens.proofs.TreeItems.{is_item}
use Rattle.ipld_tokens.proofs.ItemLinks.{same_links}
use Rattle.ipld_tokens.proofs.LinkOrder.{same_order}
use Rattle.ipld_tokens.proofs.TreeStands.{Stands, Anything, stands, unfinished}
use Rattle.ipld_tokens.proofs.TreeMemory.{allocates}

-- ---- what is taken

module _ (before after : List TokenModel) where
  -- a token was rejected
  rejected_at : (s : ReadState) (p : List TokenModel) (t : TokenModel) → before ≡ p ++ t ∷ after → step (run start p) t ≡ s → Taken (λ ts. run start ts ≡ s) before after
  rejected_at s p t e h = (p ++ t ∷ [], e ∙ sym (append_assoc p (t ∷ []) after), run_append start p (t ∷ []) ∙ h)

  pub reads : {F : Type 0} (r : Result Ipld (TokenError F)) → Consumed before after r → Reads before after r
  reads (Ok v) h = h
  reads (Err error.Memory) (p, t, e, g, a) = (p, t, e, a)
  reads (Err (error.Source fault)) h = h
  reads (Err error.Token) (p, t, e, g, h) = rejected_at (rejected bad_token) p t e h
  reads (Err (error.Cid cid_error)) (p, t, e, g, h) = rejected_at (rejected (bad_cid cid_error)) p t e h
  reads (Err error.End) h = h
  reads (Err error.DuplicateKey) (p, t, e, g, h) = rejected_at (rejected repeated_key) p t e h

-- ---- what is read

-- the state that a result reports, and what remains
abbrev Reports : {F : Type 0} → Result Ipld (TokenError F) → ReadState → Type 0 → Type 0
Reports (Ok x) s P = (done (tree_of x) ≡ s) × P
Reports (Err error.Memory) s P = Unit {0}
Reports (Err (error.Source fault)) s P = Unit {0}
Reports (Err error.Token) s P = (rejected bad_token ≡ s) × P
Reports (Err (error.Cid cid_error)) s P = (rejected (bad_cid cid_error) ≡ s) × P
Reports (Err error.End) s P = ⊥
Reports (Err error.DuplicateKey) s P = (rejected repeated_key ≡ s) × P

module _ (before after : List TokenModel) where
  pub left : {F : Type 0} (r : Result Ipld (TokenError F)) → Reads before after r → Leaves before after
  left (Ok v) (p, e, h) = (p, e)
  left (Err error.Memory) (p, t, e, a) = (p ++ t ∷ [], e ∙ sym (append_assoc p (t ∷ []) after))
  left (Err (error.Source fault)) (p, e, g) = (p, e)
  left (Err error.Token) (p, e, h) = (p, e)
  left (Err (error.Cid cid_error)) (p, e, h) = (p, e)
  left (Err error.End) (g, e) = (before, sym (ap (λ ts. before ++ ts) e ∙ append-nil before))
  left (Err error.DuplicateKey) (p, e, h) = (p, e)

  -- where a beginning ends reading, this is the end
  ends_there : (s v : ReadState) → IsEnd s → IsEnd v → Taken (λ ts. run start ts ≡ s) before after
      → (q rest : List TokenModel) → before ≡ q ++ rest → run start q ≡ v → (s ≡ v) × (after ≡ rest)
  ends_there s v a b (p, e, h) q rest split k = two_ends p q after rest s v (sym e ∙ split) h k a b

  reports : {F : Type 0} (r : Result Ipld (TokenError F)) → Reads before after r → (v : ReadState) → IsEnd v → (q rest : List TokenModel) → before ≡ q ++ rest
      → run start q ≡ v → Reports r v (after ≡ rest)
  reports (Ok x) h v b q rest split k = ends_there (done (tree_of x)) v tt b h q rest split k
  reports (Err error.Memory) h v b q rest split k = tt
  reports (Err (error.Source fault)) h v b q rest split k = tt
  reports (Err error.Token) h v b q rest split k = ends_there (rejected bad_token) v tt b h q rest split k
  reports (Err (error.Cid cid_error)) h v b q rest split k = ends_there (rejected (bad_cid cid_error)) v tt b h q rest split k
  reports (Err error.End) (g, e) v b q rest split k = end_goes q rest v k b (subst (λ ts. IsGoing (run start ts)) split g)
  reports (Err error.DuplicateKey) h v b q rest split k = ends_there (rejected repeated_key) v tt b h q rest split k

  reports_tree : {F : Type 0} (r : Result Ipld (TokenError F)) (t : Tree) (P : Type 0) → Reports r (done t) P → FindsUnless r (λ v. (tree_of v ≡ t) × P)
  reports_tree (Ok v) t P (e, h) = (cc, h)
  reports_tree (Err error.Memory) t P h = tt
  reports_tree (Err (error.Source fault)) t P h = tt
  reports_tree (Err error.Token) t P (e, h) = absurd cc
  reports_tree (Err (error.Cid cid_error)) t P (e, h) = absurd cc
  reports_tree (Err error.End) t P h = h
  reports_tree (Err error.DuplicateKey) t P (e, h) = absurd cc

  reports_token : {F : Type 0} (r : Result Ipld (TokenError F)) (P : Type 0) → Reports r (rejected bad_token) P → TokenUnless r P
  reports_token (Ok v) P (e, h) = absurd cc
  reports_token (Err error.Memory) P h = tt
  reports_token (Err (error.Source fault)) P h = tt
  reports_token (Err error.Token) P (e, h) = h
  reports_token (Err (error.Cid cid_error)) P (e, h) = absurd cc
  reports_token (Err error.End) P h = h
  reports_token (Err error.DuplicateKey) P (e, h) = absurd cc

  reports_cid : {F : Type 0} (r : Result Ipld (TokenError F)) (f : CidError) (P : Type 0) → Reports r (rejected (bad_cid f)) P → CidUnless f r P
  reports_cid (Ok v) f P (e, h) = absurd cc
  reports_cid (Err error.Memory) f P h = tt
  reports_cid (Err (error.Source fault)) f P h = tt
  reports_cid (Err error.Token) f P (e, h) = absurd cc
  reports_cid (Err (error.Cid cid_error)) f P (e, h) = (cc, h)
  reports_cid (Err error.End) f P h = h
  reports_cid (Err error.DuplicateKey) f P (e, h) = absurd cc

  reports_key : {F : Type 0} (r : Result Ipld (TokenError F)) (P : Type 0) → Reports r (rejected repeated_key) P → KeyUnless r P
  reports_key (Ok v) P (e, h) = absurd cc
  reports_key (Err error.Memory) P h = tt
  reports_key (Err (error.Source fault)) P h = tt
  reports_key (Err error.Token) P (e, h) = absurd cc
  reports_key (Err (error.Cid cid_error)) P (e, h) = absurd cc
  reports_key (Err error.End) P h = h
  reports_key (Err error.DuplicateKey) P (e, h) = h

  -- a result after some tokens, where reading goes on over all
  too_early : (s : ReadState) → IsEnd s → Taken (λ ts. run start ts ≡ s) before after → IsGoing (run start before) → ⊥
  too_early s a (p, e, h) g = end_goes p after s h a (subst (λ ts. IsGoing (run start ts)) e g)

  reports_end : {F : Type 0} (r : Result Ipld (TokenError F)) → Reads before after r → IsGoing (run start before) → EndsUnless r
  reports_end (Ok v) h g = too_early (done (tree_of v)) tt h g
  reports_end (Err error.Memory) h g = tt
  reports_end (Err (error.Source fault)) h g = tt
  reports_end (Err error.Token) h g = too_early (rejected bad_token) tt h g
  reports_end (Err (error.Cid cid_error)) h g = too_early (rejected (bad_cid cid_error)) tt h g
  reports_end (Err error.End) h g = tt
  reports_end (Err error.DuplicateKey) h g = too_early (rejected repeated_key) tt h g

  module _ (laws : LinkLaws 64) where
    pub only_item : {F : Type 0} (r : Result Ipld (TokenError F)) → Reads before after r
        → (i : Item 64) (t : Tree) (rest : List TokenModel) → before ≡ tokens_of i ++ rest → tree_of_item i ≡ Some t
        → FindsUnless r (λ v. (tree_of v ≡ t) × (after ≡ rest))
    only_item r h i t rest split has = reports_tree r t (after ≡ rest) (reports r h (done t) tt (tokens_of i) rest split (reads_item laws i t has))

    -- the tokens of a tree are read back as it
    pub tree_round_trip : {F : Type 0} (r : Result Ipld (TokenError F)) → Reads before after r
        → (t : Tree) (rest : List TokenModel) → IsTree t → IsWhole t → before ≡ tokens_of_tree t ++ rest → FindsUnless r (λ v. (tree_of v ≡ t) × (after ≡ rest))
    tree_round_trip r h t rest is whole split =
        let i = is_item laws.has_encoding t is whole in
        only_item r h i.0 t rest (split ∙ ap (λ xs. xs ++ rest) (sym i.1)) i.2

    pub only_wrong : {F : Type 0} (r : Result Ipld (TokenError F)) → Reads before after r → (taken rest : List TokenModel) → EndsWrong taken
        → before ≡ taken ++ rest → TokenUnless r (after ≡ rest)
    only_wrong r h taken rest w split = reports_token r (after ≡ rest) (reports r h (rejected bad_token) tt taken rest split (ends_wrong laws taken w))

    pub only_bad_cid : {F : Type 0} (r : Result Ipld (TokenError F)) → Reads before after r → (cid_error : CidError) (taken rest : List TokenModel)
        → EndsInBadCid cid_error taken → before ≡ taken ++ rest → CidUnless cid_error r (after ≡ rest)
    only_bad_cid r h cid_error taken rest w split =
        reports_cid r cid_error (after ≡ rest) (reports r h (rejected (bad_cid cid_error)) tt taken rest split (ends_in_bad_cid laws cid_error taken w))

    pub only_repeated_key : {F : Type 0} (r : Result Ipld (TokenError F)) → Reads before after r → (taken rest : List TokenModel) → EndsWithRepeatedKey taken
        → before ≡ taken ++ rest → KeyUnless r (after ≡ rest)
    only_repeated_key r h taken rest w split = reports_key r (after ≡ rest) (reports r h (rejected repeated_key) tt taken rest split (ends_with_repeated_key laws taken w))

    pub only_unfinished : {F : Type 0} (r : Result Ipld (TokenError F)) → Reads before after r → IsUnfinished before → EndsUnless r
    only_unfinished r h u = reports_end r h (goes laws before u)

    pub stood : (s : ReadState) (p : List TokenModel) → run start p ≡ s → Stands Anything s p
    stood s p h = subst (λ s. Stands Anything s p) h (stands laws.encoded p)

    pub found_item : {F : Type 0} (r : Result Ipld (TokenError F)) → Reads before after r → IfOk r (λ v. ReadsItem before after (tree_of v))
    found_item (Ok v) (p, e, h) =
        let i = stood (done (tree_of v)) p h in
        (i.0, e ∙ ap (λ ts. ts ++ after) i.2, i.1, same_links i.0 (tree_of v) i.1, same_order i.0 (tree_of v) i.1)
    found_item (Err e) h = tt

    pub wrong : {F : Type 0} (r : Result Ipld (TokenError F)) → Reads before after r → IfToken r (Taken EndsWrong before after)
    wrong (Ok v) h = tt
    wrong (Err error.Memory) h = tt
    wrong (Err (error.Source fault)) h = tt
    wrong (Err error.Token) (p, e, h) = (p, e, wrong_ends laws p h)
    wrong (Err (error.Cid cid_error)) h = tt
    wrong (Err error.End) h = tt
    wrong (Err error.DuplicateKey) h = tt

    pub no_cid : {F : Type 0} (r : Result Ipld (TokenError F)) → Reads before after r → IfCid r (λ cid_error. Taken (EndsInBadCid cid_error) before after)
    no_cid (Ok v) h = tt
    no_cid (Err error.Memory) h = tt
    no_cid (Err (error.Source fault)) h = tt
    no_cid (Err error.Token) h = tt
    no_cid (Err (error.Cid cid_error)) (p, e, h) = (p, e, stood (rejected (bad_cid cid_error)) p h)
    no_cid (Err error.End) h = tt
    no_cid (Err error.DuplicateKey) h = tt

    pub again : {F : Type 0} (r : Result Ipld (TokenError F)) → Reads before after r → IfDuplicateKey r (Taken EndsWithRepeatedKey before after)
    again (Ok v) h = tt
    again (Err error.Memory) h = tt
    again (Err (error.Source fault)) h = tt
    again (Err error.Token) h = tt
    again (Err (error.Cid cid_error)) h = tt
    again (Err error.End) h = tt
    again (Err error.DuplicateKey) (p, e, h) = (p, e, stood (rejected repeated_key) p h)

    pub memory : {F : Type 0} (r : Result Ipld (TokenError F)) → Reads before after r → IfMemory r (Taken EndsAllocating before after)
    memory (Ok v) h = tt
    memory (Err error.Memory) (p, t, e, a) = (p ++ t ∷ [], e ∙ sym (append_assoc p (t ∷ []) after), allocates laws.encoded p t a)
    memory (Err (error.Source fault)) h = tt
    memory (Err error.Token) h = tt
    memory (Err (error.Cid cid_error)) h = tt
    memory (Err error.End) h = tt
    memory (Err error.DuplicateKey) h = tt

    pub source : {F : Type 0} (r : Result Ipld (TokenError F)) → Reads before after r → IfSource r (λ fault. Taken IsUnfinished before after)
    source (Ok v) h = tt
    source (Err error.Memory) h = tt
    source (Err (error.Source fault)) (p, e, g) = (p, e, unfinished laws.encoded p g)
    source (Err error.Token) h = tt
    source (Err (error.Cid cid_error)) h = tt
    source (Err error.End) h = tt
    source (Err error.DuplicateKey) h = tt

    pub end : {F : Type 0} (r : Result Ipld (TokenError F)) → Reads before after r → IfEnd r (IsUnfinished before × (after ≡ []))
    end (Ok v) h = tt
    end (Err error.Memory) h = tt
    end (Err (error.Source fault)) h = tt
    end (Err error.Token) h = tt
    end (Err (error.Cid cid_error)) h = tt
    end (Err error.End) (g, e) = (unfinished laws.encoded before g, e)
    end (Err error.DuplicateKey) h = tt
