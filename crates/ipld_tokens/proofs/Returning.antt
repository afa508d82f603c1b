-- What the extractor returns, in the words of items.
use Rattle.std.proofs.Common.{◌≡◌, ◌≤◌, ℕ, List, [], ◌∷◌, ◌++◌, Ok, Err, sym, ap, subst, ◌∙◌, append_assoc}
use Rattle.ipld_cid.specs.Cid.{Link, IsValid}
use Rattle.ipld_tree.specs.Tree.{Tree}
use Rattle.ipld_tree.specs.Walk.{links_of}
use Rattle.ipld_tree.specs.IsTree.{IsTree}
use Rattle.ipld_tokens.specs.Token.{TokenModel, bytes, link}
use Rattle.ipld_tokens.specs.Item.{Item, tokens_of, links_in}
use Rattle.ipld_tokens.specs.TreeTokens.{tokens_of_tree}
use Rattle.ipld_tokens.specs.Fronts.{IsOpen}
use Rattle.ipld_tokens.specs.ExtractMachine.{run, start, IsGoing}
use Rattle.ipld_tokens.specs.ExtractContract.{links_at, IsRejected, RejectsToken, RejectsCid, LeavesOpen}
use Rattle.ipld_tokens.specs.Outcome.{Leaves, IfMemory, IfToken, IfCid, IfEnd, IfSource, IfStopped, FindsUnless, RejectsUnless, EndsUnless}
use Rattle.ipld_tokens.specs.ExtractResult.{Extracts}
use Rattle.ipld_tokens.specs.LinkPositions.{RunsOut}
use Rattle.ipld_tokens.proofs.LinkPositions.{allocates}
use Rattle.ipld_tokens.specs.declared.extract_links.ExtractLinks.{ExtractLinks}
use Rattle.ipld_tokens.specs.declared.error.TokenError.{TokenError}
use Rattle.ipld_tokens.specs.declared.error.TokenError.TheVariants.{Memory, Source, Token, Cid, End, DuplicateKey}
use Rattle.std.proofs.Common.{Result, IfOk}
use Rattle.ipld_tokens.proofs.TreeItems.{item_of, item_tokens, item_links, fits_more}
use Rattle.ipld_tokens.proofs.Verdicts.{LinkLaws, whole, done_item, done_done, done_rejected, done_going, rejected_going, rejected_rejected, going_is_open, open_is_going, going_rejected, rejected_step, elsewhere, link_position}

module _ (S : ℕ) (laws : LinkLaws S) (before after : List TokenModel) where
  rejects_cid : (p : List TokenModel) (t : TokenModel) (fore : List TokenModel) (b : List ℕ) → p ≡ fore ++ link ∷ [] → t ≡ bytes b → IsRejected S p t
      → IsRejected S (fore ++ link ∷ []) (bytes b)
  rejects_cid p t fore b x y r = subst (λ u. IsRejected S (fore ++ link ∷ []) u) y (subst (λ q. IsRejected S q t) x r)

  pub found : {F : Type 0} (result : Result (ExtractLinks S) (TokenError F)) → Extracts S before after result
      → IfOk result (λ x. (i : Item S) × (before ≡ tokens_of i ++ after) × (links_at x ≡ links_in i))
  found (Ok x) (p, e, h) = let d = done_item S laws p (links_at x) h in (d.0, e ∙ ap (λ ts. ts ++ after) (sym d.1), d.2)
  found (Err error) h = tt

  pub only : {F : Type 0} (result : Result (ExtractLinks S) (TokenError F)) → Extracts S before after result
      → (i : Item S) (rest : List TokenModel) → before ≡ tokens_of i ++ rest → FindsUnless result (λ x. (links_at x ≡ links_in i) × (after ≡ rest))
  only (Ok x) (p, e, h) i rest w = done_done S (links_at x) (links_in i) p (tokens_of i) after rest (sym e ∙ w) h (whole S laws i)
  only (Err Memory) h i rest w = tt
  only (Err (Source fault)) h i rest w = tt
  only (Err Token) (p, t, e, g, (h, place)) i rest w = done_rejected S (links_in i) (tokens_of i) p rest after t (sym w ∙ e) (whole S laws i) g h
  only (Err (Cid cid_error)) (p, t, e, g, (h, place)) i rest w = done_rejected S (links_in i) (tokens_of i) p rest after t (sym w ∙ e) (whole S laws i) g h
  only (Err End) (g, none) i rest w = done_going S (links_in i) (tokens_of i) rest (whole S laws i) (subst (λ l. IsGoing (run S start l)) w g)
  only (Err DuplicateKey) (p, t, e, g, none) i rest w = absurd none

  pub token : {F : Type 0} (result : Result (ExtractLinks S) (TokenError F)) → Extracts S before after result → IfToken result (RejectsToken S before after)
  token (Ok x) h = tt
  token (Err Memory) h = tt
  token (Err (Source fault)) h = tt
  token (Err Token) (p, t, e, g, (h, place)) = (p, t, e, going_rejected S laws p t g h, elsewhere S laws p t g place)
  token (Err (Cid cid_error)) h = tt
  token (Err End) h = tt
  token (Err DuplicateKey) h = tt

  pub cid : {F : Type 0} (result : Result (ExtractLinks S) (TokenError F)) → Extracts S before after result → IfCid result (λ cid_error. RejectsCid S cid_error before after)
  cid (Ok x) h = tt
  cid (Err Memory) h = tt
  cid (Err (Source fault)) h = tt
  cid (Err Token) h = tt
  cid (Err (Cid cid_error)) (p, t, e, g, (h, place)) =
      let k = link_position S laws p t cid_error place in (
        k.0,
        k.1,
        e ∙ ap (λ l. l ++ t ∷ after) k.2 ∙ ap (λ u. (k.0 ++ link ∷ []) ++ u ∷ after) k.3,
        rejects_cid p t k.0 k.1 k.2 k.3 (going_rejected S laws p t g h),
        k.4,
      )
  cid (Err End) h = tt
  cid (Err DuplicateKey) h = tt

  pub rejected_at : {F : Type 0} (result : Result (ExtractLinks S) (TokenError F)) → Extracts S before after result
      → (front rest : List TokenModel) (t : TokenModel) → before ≡ front ++ t ∷ rest → IsRejected S front t → RejectsUnless result (after ≡ rest)
  rejected_at (Ok x) (p, e, h) front rest t w r =
      done_rejected S (links_at x) p front after rest t (sym e ∙ w) h (open_is_going S laws front r.0) (rejected_step S laws front t r)
  rejected_at (Err Memory) h front rest t w r = tt
  rejected_at (Err (Source fault)) h front rest t w r = tt
  rejected_at (Err Token) (p, v, e, g, (h, place)) front rest t w r =
      rejected_rejected S p front after rest v t (sym e ∙ w) g h (open_is_going S laws front r.0) (rejected_step S laws front t r)
  rejected_at (Err (Cid cid_error)) (p, v, e, g, (h, place)) front rest t w r =
      rejected_rejected S p front after rest v t (sym e ∙ w) g h (open_is_going S laws front r.0) (rejected_step S laws front t r)
  rejected_at (Err End) (g, none) front rest t w r =
      rejected_going S front t rest (rejected_step S laws front t r) (subst (λ l. IsGoing (run S start l)) w g)
  rejected_at (Err DuplicateKey) (p, v, e, g, none) front rest t w r = absurd none

  one_more : (p : List TokenModel) (t : TokenModel) → before ≡ p ++ t ∷ after → before ≡ (p ++ t ∷ []) ++ after
  one_more p t e = e ∙ sym (append_assoc p (t ∷ []) after)

  pub memory : {F : Type 0} (result : Result (ExtractLinks S) (TokenError F)) → Extracts S before after result → IfMemory result (RunsOut S before after)
  memory (Ok x) h = tt
  memory (Err Memory) (p, t, e, g, a) = (p ++ t ∷ [], one_more p t e, allocates S laws p t a)
  memory (Err (Source fault)) h = tt
  memory (Err Token) h = tt
  memory (Err (Cid cid_error)) h = tt
  memory (Err End) h = tt
  memory (Err DuplicateKey) h = tt

  pub source : {F : Type 0} (result : Result (ExtractLinks S) (TokenError F)) → Extracts S before after result → IfSource result (λ fault. LeavesOpen S before after)
  source (Ok x) h = tt
  source (Err Memory) h = tt
  source (Err (Source fault)) (p, e, g) = (p, e, going_is_open S laws p g)
  source (Err Token) h = tt
  source (Err (Cid cid_error)) h = tt
  source (Err End) h = tt
  source (Err DuplicateKey) h = tt

  pub stopped : {F : Type 0} (result : Result (ExtractLinks S) (TokenError F)) → Extracts S before after result → IfStopped result (Leaves before after)
  stopped (Ok x) h = tt
  stopped (Err Memory) (p, t, e, g, a) = (p ++ t ∷ [], one_more p t e)
  stopped (Err (Source fault)) (p, e, g) = (p, e)
  stopped (Err Token) h = tt
  stopped (Err (Cid cid_error)) h = tt
  stopped (Err End) h = tt
  stopped (Err DuplicateKey) h = tt

  pub end : {F : Type 0} (result : Result (ExtractLinks S) (TokenError F)) → Extracts S before after result → IfEnd result (IsOpen S before × (after ≡ []))
  end (Ok x) h = tt
  end (Err Memory) h = tt
  end (Err (Source fault)) h = tt
  end (Err Token) h = tt
  end (Err (Cid cid_error)) h = tt
  end (Err End) (g, none) = (going_is_open S laws before g, none)
  end (Err DuplicateKey) h = tt

  pub open_ends : {F : Type 0} (result : Result (ExtractLinks S) (TokenError F)) → Extracts S before after result → IsOpen S before → EndsUnless result
  open_ends (Ok x) (p, e, h) o = done_going S (links_at x) p after h (subst (λ l. IsGoing (run S start l)) e (open_is_going S laws before o))
  open_ends (Err Memory) h o = tt
  open_ends (Err (Source fault)) h o = tt
  open_ends (Err Token) (p, t, e, g, (h, place)) o = rejected_going S p t after h (subst (λ l. IsGoing (run S start l)) e (open_is_going S laws before o))
  open_ends (Err (Cid cid_error)) (p, t, e, g, (h, place)) o = rejected_going S p t after h (subst (λ l. IsGoing (run S start l)) e (open_is_going S laws before o))
  open_ends (Err End) h o = tt
  open_ends (Err DuplicateKey) (p, t, e, g, none) o = absurd none

  -- the tokens of a tree have its links
  pub tree : {F : Type 0} (result : Result (ExtractLinks S) (TokenError F)) → Extracts S before after result
      → (t : Tree) (rest : List TokenModel) → 64 ≤ S → IsTree t → before ≡ tokens_of_tree t ++ rest
      → FindsUnless result (λ x. (links_at x ≡ links_of t) × (after ≡ rest))
  tree result h t rest more is split =
      let each = λ (cid : Link) (valid : IsValid 64 cid). laws.has_encoding cid (fits_more S cid more valid) in
      subst (λ ls. FindsUnless result (λ x. (links_at x ≡ ls) × (after ≡ rest))) (item_links S each t is)
      (only result h (item_of S each t is) rest (split ∙ ap (λ ts. ts ++ rest) (sym (item_tokens S each t is))))
