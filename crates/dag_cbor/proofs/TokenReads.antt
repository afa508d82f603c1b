-- What a codec returns that reads the tokens of a block: from the contracts of the source and of the calls that read it, and from laws, alone.
use Rattle.std.proofs.Common.{◌≡◌, ◌⊎◌, inl, inr, ◌↔◌, ℕ, true, false, List, [], ◌∷◌, ◌++◌, Some, None, Err, refl, sym, ap, subst, ◌∙◌, append_assoc}
use Rattle.std.proofs.lemmas.List.{append-nil}
use Rattle.std.specs.Prelude.{MatchOption}
use Rattle.ipld_cid.specs.Cid.{Link}
use Rattle.ipld_cid.specs.declared.error.CidError.{CidError}
use Rattle.ipld_tree.specs.Tree.{Tree}
use Rattle.ipld_tree.specs.TreeOf.{tree_of}
use Rattle.ipld_tree.specs.declared.ipld.Ipld.{Ipld}
use Rattle.ipld_codec.specs.Codec.{memory, reading, MemoryOr}
use Rattle.ipld_codec.specs.CodecLaws.{DecodesEncoded}
use Rattle.ipld_tokens.specs.Token.{TokenModel, link}
use Rattle.ipld_tokens.specs.Token as tok
use Rattle.ipld_tokens.specs.Item.{Item, tokens_of, links_in}
use Rattle.ipld_tokens.specs.ItemTree.{tree_of_item}
use Rattle.ipld_tokens.specs.CutTrees.{BeginsTree, EndsWrong, EndsInBadCid, EndsWithRepeatedKey}
use Rattle.ipld_tokens.specs.ExtractContract.{IsRejected, RejectsToken, RejectsCid}
use Rattle.ipld_tokens.specs.Outcome.{Taken, IfToken, IfCid, IfEnd, IfSource, IfDuplicateKey, FindsUnless}
use Rattle.ipld_tokens.specs.declared.error.TokenError.{TokenError}
use Rattle.ipld_tokens.specs.declared.error.TokenError.TheVariants as read
use Rattle.dag_cbor_format.specs.declared.error.CborError.{CborError}
use Rattle.dag_cbor_format.specs.declared.error.CborError.TheVariants.{Memory}
use Rattle.dag_cbor_format.specs.Block.{tree_of_block}
use Rattle.dag_cbor_format.specs.Encoding.{EncodesItem, EncodesTree}
use Rattle.dag_cbor_format.specs.ErrorKinds.{lies_in_bytes}
use Rattle.dag_cbor_format.specs.FirstError.{first_error}
use Rattle.dag_cbor_format.specs.Found.{links_found}
use Rattle.dag_cbor_blocks.specs.Tokens.{MayEnd, MayFail}
use Rattle.dag_cbor.specs.CodecErrors.{cbor_failure, error_of}
use Rattle.dag_cbor.proofs.Found.{in_bytes_is_no_failure}

-- the source's tokens are those of a tree as far as they go, and all of a tree's if the bytes are its block
abbrev pub AreOf : List ℕ → List TokenModel → Type 0
AreOf bytes tokens =
    ((taken rest : List TokenModel) → tokens ≡ taken ++ rest → BeginsTree taken)
    × ((i : Item 64) (t : Tree) → EncodesItem i bytes → tree_of_item i ≡ Some t → tokens ≡ tokens_of i)

module _ (bytes : List ℕ) (tokens : List TokenModel) (are : AreOf bytes tokens) where
  all : (i : Item 64) (t : Tree) → EncodesItem i bytes → tree_of_item i ≡ Some t → tokens ≡ tokens_of i ++ []
  all i t encodes is = are.1 i t encodes is ∙ sym (append-nil (tokens_of i))

  -- reading a tree has no error but the source's, and a failed allocation
  pub tree_error : (block : List ℕ) (after : List TokenModel) (e : TokenError CborError) (P : Ipld → Tree → List TokenModel → Type 0)
      → ((taken : List TokenModel) → BeginsTree taken → EndsWrong taken → ⊥)
      → ((taken : List TokenModel) (cid_error : CidError) → BeginsTree taken → EndsInBadCid cid_error taken → ⊥)
      → ((taken : List TokenModel) → BeginsTree taken → EndsWithRepeatedKey taken → ⊥)
      → IfToken {A = Ipld} (Err e) (Taken EndsWrong tokens after)
      → IfCid {A = Ipld} (Err e) (λ cid_error. Taken (EndsInBadCid cid_error) tokens after)
      → IfDuplicateKey {A = Ipld} (Err e) (Taken EndsWithRepeatedKey tokens after)
      → IfEnd {A = Ipld} (Err e) (MayEnd block)
      → ((i : Item 64) (t : Tree) (rest : List TokenModel) → tokens ≡ tokens_of i ++ rest → tree_of_item i ≡ Some t → FindsUnless {A = Ipld} (Err e) (λ v. P v t rest))
      → IfSource {A = Ipld} (Err e) (MayFail block)
      → block ≡ bytes → MayFail bytes (error_of e)
  tree_error block after read.Memory P wrong bad again token cid key end only source same = inl refl
  tree_error block after (read.Source fault) P wrong bad again token cid key end only source same = subst (λ b. MayFail b fault) same source
  tree_error block after read.Token P wrong bad again token cid key end only source same = absurd (wrong token.0 (are.0 token.0 after token.1) token.2)
  tree_error block after (read.Cid cid_error) P wrong bad again token cid key end only source same = absurd (bad cid.0 cid_error (are.0 cid.0 after cid.1) cid.2)
  tree_error block after read.End P wrong bad again token cid key (t, encodes) only source same =
      let e = subst (EncodesTree t) same encodes in absurd (only e.0 t [] (all e.0 t e.1 e.2) e.2)
  tree_error block after read.DuplicateKey P wrong bad again token cid key end only source same = absurd (again key.0 (are.0 key.0 after key.1) key.2)

  no_rejection : (front : List TokenModel) (t : TokenModel) → IsRejected 64 front t → BeginsTree (front ++ t ∷ []) → ⊥
  no_rejection front t (is_open, not_open, no_item) (i, v, [], e, is) = no_item (i, e ∙ append-nil (front ++ t ∷ []))
  no_rejection front t (is_open, not_open, no_item) (i, v, next ∷ rest, e, is) = not_open (i, next, rest, e)

  rejected_at : (front after : List TokenModel) (t : TokenModel) → tokens ≡ front ++ t ∷ after → IsRejected 64 front t → ⊥
  rejected_at front after t e is = no_rejection front t is (are.0 (front ++ t ∷ []) after (e ∙ sym (append_assoc front (t ∷ []) after)))

  -- nor has finding links
  pub links_error : {A : Type 0} (block : List ℕ) (after : List TokenModel) (e : TokenError CborError) (P : A → Item 64 → List TokenModel → Type 0)
      → IfToken {A = A} (Err e) (RejectsToken 64 tokens after)
      → IfCid {A = A} (Err e) (λ cid_error. RejectsCid 64 cid_error tokens after)
      → IfDuplicateKey {A = A} (Err e) ⊥
      → IfEnd {A = A} (Err e) (MayEnd block)
      → ((i : Item 64) (rest : List TokenModel) → tokens ≡ tokens_of i ++ rest → FindsUnless {A = A} (Err e) (λ x. P x i rest))
      → IfSource {A = A} (Err e) (MayFail block)
      → block ≡ bytes → MayFail bytes (error_of e)
  links_error block after read.Memory P token cid key end only source same = inl refl
  links_error block after (read.Source fault) P token cid key end only source same = subst (λ b. MayFail b fault) same source
  links_error block after read.Token P token cid key end only source same = absurd (rejected_at token.0 after token.1 token.2 token.3)
  links_error block after (read.Cid cid_error) P token cid key end only source same =
      absurd (rejected_at (cid.0 ++ link ∷ []) after (tok.bytes cid.1) cid.2 cid.3)
  links_error block after read.End P token cid key (t, encodes) only source same =
      let e = subst (EncodesTree t) same encodes in absurd (only e.0 [] (all e.0 t e.1 e.2))
  links_error block after read.DuplicateKey P token cid key end only source same = absurd key

  -- no token follows the first item
  pub nothing_over : ((i j : Item 64) (next : TokenModel) (rest : List TokenModel) → tokens_of i ≡ tokens_of j ++ next ∷ rest → ⊥)
      → (left after : List TokenModel) (i : Item 64) (t : TokenModel) → tokens ≡ tokens_of i ++ left → left ≡ t ∷ after → ⊥
  nothing_over no_front left after i t e m =
      let b = are.0 (tokens_of i ++ t ∷ []) after (e ∙ ap (λ ts. tokens_of i ++ ts) m ∙ sym (append_assoc (tokens_of i) (t ∷ []) after)) in
      no_front b.0 i t b.2 (b.3 ∙ append_assoc (tokens_of i) (t ∷ []) b.2)

  -- the tree that was read is the block's
  pub tree_found : (block : List ℕ) (v : Ipld) → MayEnd block → block ≡ bytes
      → ((i : Item 64) (t : Tree) → tokens ≡ tokens_of i ++ [] → tree_of_item i ≡ Some t → tree_of v ≡ t)
      → DecodesEncoded EncodesTree tree_of_block → tree_of_block bytes ≡ Some (tree_of v)
  tree_found block v (t, encodes) same only decodes =
      let e = subst (EncodesTree t) same encodes in
      (decodes t bytes).1 e ∙ ap Some (sym (only e.0 t (all e.0 t e.1 e.2) e.2))

  -- and so are the links
  pub links_whole : (block : List ℕ) (links : List Link) → MayEnd block → block ≡ bytes
      → ((i : Item 64) → tokens ≡ tokens_of i ++ [] → links ≡ links_in i)
      → ((i : Item 64) (t : Tree) (block : List ℕ) → EncodesItem i block → tree_of_item i ≡ Some t → links_found block ≡ Some (links_in i))
      → links_found bytes ≡ Some links
  links_whole block links (t, encodes) same only law =
      let e = subst (EncodesTree t) same encodes in
      law e.0 t bytes e.1 e.2 ∙ ap Some (sym (only e.0 (all e.0 t e.1 e.2)))

-- ---- what an error says

module _ (bytes : List ℕ) (error : CborError) where
  pub fails_errors : MayFail bytes error → (error ≡ Memory) ⊎ (lies_in_bytes error ≡ true)
  fails_errors (inl m) = inl m
  fails_errors (inr first) = inr first.0

  pub fails_first : MayFail bytes error → lies_in_bytes error ≡ true → first_error bytes ≡ Some error
  fails_first (inl m) lies = let x : false ≡ true = sym (ap lies_in_bytes m) ∙ lies in absurd (cc x)
  fails_first (inr first) lies = first.1

  module _ (errors : (block : List ℕ) → (first_error block ≡ None) ↔ ((t : Tree) × EncodesTree t block)) where
    no_tree : first_error bytes ≡ Some error → (t : Tree) → EncodesTree t bytes → ⊥
    no_tree first t encodes = let x : None ≡ Some error = sym ((errors bytes).1 (t, encodes)) ∙ first in absurd (cc x)

    pub fails_decoded : DecodesEncoded EncodesTree tree_of_block → MayFail bytes error → MatchOption (cbor_failure error) (tree_of_block bytes ≡ None) (MemoryOr reading)
    fails_decoded decodes (inl m) = subst (λ x. MatchOption (cbor_failure x) (tree_of_block bytes ≡ None) (MemoryOr reading)) (sym m) (inl refl)
    fails_decoded decodes (inr (lies, first)) =
        subst (λ o. MatchOption o (tree_of_block bytes ≡ None) (MemoryOr reading)) (sym (in_bytes_is_no_failure error lies))
        (elim (tree_of_block bytes) as (λ o. tree_of_block bytes ≡ o → o ≡ None) [
          | None ↦ λ e. refl
          | Some t ↦ λ e. absurd (no_tree first t ((decodes t bytes).0 e))
        ] refl)

    pub fails_links : ((block : List ℕ) (links : List Link) → links_found block ≡ Some links
        → (i : Item 64) × (t : Tree) × EncodesItem i block × (tree_of_item i ≡ Some t) × (links ≡ links_in i))
        → MayFail bytes error → MatchOption (cbor_failure error) (links_found bytes ≡ None) (λ failure. failure ≡ memory)
    fails_links only (inl m) = subst (λ x. MatchOption (cbor_failure x) (links_found bytes ≡ None) (λ failure. failure ≡ memory)) (sym m) refl
    fails_links only (inr (lies, first)) =
        subst (λ o. MatchOption o (links_found bytes ≡ None) (λ failure. failure ≡ memory)) (sym (in_bytes_is_no_failure error lies))
        (elim (links_found bytes) as (λ o. links_found bytes ≡ o → o ≡ None) [
          | None ↦ λ e. refl
          | Some links ↦ λ e. let found = only bytes links e in absurd (no_tree first found.1 (found.0, found.2, found.3))
        ] refl)
