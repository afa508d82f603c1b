-- What a tree's tokens begin with ends in no error.
use Rattle.std.proofs.Common.{◌≡◌, List, [], ◌∙◌}
use Rattle.std.proofs.lemmas.List.{append-nil}
use Rattle.ipld_cid.specs.declared.error.CidError.{CidError}
use Rattle.ipld_tree.specs.Tree.{Tree}
use Rattle.ipld_tokens.specs.Token.{TokenModel}
use Rattle.ipld_tokens.specs.Item.{tokens_of}
use Rattle.ipld_tokens.specs.CutTrees.{BeginsTree, EndsWrong, EndsInBadCid, EndsWithRepeatedKey}
use Rattle.ipld_tokens.specs.ReadMachine.{ReadState, done, rejected, bad_token, bad_cid, repeated_key, run, start}
use Rattle.ipld_tokens.proofs.Verdicts.{LinkLaws}
use Rattle.ipld_tokens.proofs.TreeEnds.{IsEnd, two_ends, reads_item, ends_wrong, ends_in_bad_cid, ends_with_repeated_key}

module _ (laws : LinkLaws 64) where
  -- where they end reading, they are all of the tree's
  ended : (taken : List TokenModel) (s : ReadState) → run start taken ≡ s → IsEnd s → BeginsTree taken → (t : Tree) × (done t ≡ s)
  ended taken s r h (i, t, more, e, is) =
      (t, (two_ends (tokens_of i) taken [] more (done t) s (append-nil (tokens_of i) ∙ e) (reads_item laws i t is) r tt h).0)

  pub not_wrong : (taken : List TokenModel) → BeginsTree taken → EndsWrong taken → ⊥
  not_wrong taken begins ends =
      let e : (t : Tree) × (done t ≡ rejected bad_token) = ended taken (rejected bad_token) (ends_wrong laws taken ends) tt begins in
      let x : done e.0 ≡ rejected bad_token = e.1 in absurd (cc x)

  pub no_bad_cid : (taken : List TokenModel) (cid_error : CidError) → BeginsTree taken → EndsInBadCid cid_error taken → ⊥
  no_bad_cid taken cid_error begins ends =
      let e = ended taken (rejected (bad_cid cid_error)) (ends_in_bad_cid laws cid_error taken ends) tt begins in
      let x : done e.0 ≡ rejected (bad_cid cid_error) = e.1 in absurd (cc x)

  pub no_repeated_key : (taken : List TokenModel) → BeginsTree taken → EndsWithRepeatedKey taken → ⊥
  no_repeated_key taken begins ends =
      let e = ended taken (rejected repeated_key) (ends_with_repeated_key laws taken ends) tt begins in
      let x : done e.0 ≡ rejected repeated_key = e.1 in absurd (cc x)
