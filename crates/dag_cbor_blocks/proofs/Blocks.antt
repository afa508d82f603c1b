-- What a source of a block's tokens returns.
use Rattle.std.proofs.Common.{◌≡◌, ℕ, true, false, cond, inl, inr, List, Option, Some, None, Ok, Err, sym, ap, ◌∙◌}
use Rattle.std.proofs.lemmas.Bool.{cases_Bool}
use Rattle.ipld_tokens.specs.Token.{erase}
use Rattle.ipld_tokens.specs.Source.{NextToken}
use Rattle.ipld_tokens.specs.declared.token.Token.{Token}
use Rattle.dag_cbor_format.specs.declared.error.CborError.{CborError}
use Rattle.dag_cbor_format.specs.declared.error.CborError.TheVariants.{Memory}
use Rattle.dag_cbor_blocks.specs.declared.reader.Reader.{Reader}
use Rattle.dag_cbor_format.specs.ErrorKinds.{lies_in_bytes}
use Rattle.dag_cbor_format.specs.Reading.{Frame, ended, step, Ran, reached, stopped, preceded, outcome, ahead, of_block}
use Rattle.dag_cbor_format.specs.FirstError.{first_error}
use Rattle.dag_cbor_blocks.specs.Reader.{frames_of, next_of, Steps}
use Rattle.dag_cbor_blocks.specs.Tokens.{MayEnd, MayFail, ran_of}
use Rattle.dag_cbor_format.proofs.ItemHeaderLaws.{CidLaws}
use Rattle.dag_cbor_format.proofs.Running.{unwound}
use Rattle.dag_cbor_format.proofs.ErrorLaws.{rejected_lies}
use Rattle.dag_cbor_format.proofs.Sound.{encodes_tree}

-- an error that does not lie in the bytes is a failed allocation
pub stop_reported : (error : CborError) (old new : Reader) → Steps old new (Err error) → lies_in_bytes error ≡ false → error ≡ Memory
stop_reported error old new (inl (m, same)) apart = m
stop_reported error old new (inr o) apart = absurd (let x : true ≡ false = sym (rejected_lies (frames_of old) old.position.rest.now error o) ∙ apart in cc x)

module _ (laws : CidLaws) where
  -- an error that was reported may be reported
  pub may_fail : (block : List ℕ) (error : CborError) (reader : Reader) → (lies_in_bytes error ≡ false → error ≡ Memory) → (ran_of (Some error) reader).error ≡ (of_block block).error → MayFail block error
  unfolding first_error
  may_fail block error reader reported e =
      elim (cases_Bool (lies_in_bytes error)) [
        | inl lies ↦ inr (lies, sym e ∙ ap (λ b. (cond b (stopped error) (ahead (frames_of reader) reader.position.rest.now)).error) lies)
        | inr apart ↦ inl (reported apart)
      ]

  -- where the same comes next, the same is ahead
  same_ahead : (fs gs : List Frame) (bs cs : List ℕ) → step fs bs ≡ step gs cs → ahead fs bs ≡ ahead gs cs
  same_ahead fs gs bs cs e = unwound laws fs bs ∙ ap (outcome ahead) e ∙ sym (unwound laws gs cs)

  -- after an error nothing else is ahead than before
  pub error_same : (error : CborError) (old new : Reader) → Steps old new (Err error) → ran_of (Some error) new ≡ ran_of None old
  error_same error old new (inl (m, same)) =
      ap (λ f. cond (lies_in_bytes f) (stopped f) (ahead (frames_of new) new.position.rest.now)) m ∙ sym (same_ahead (frames_of old) (frames_of new) old.position.rest.now new.position.rest.now same)
  error_same error old new (inr o) =
      ap (λ b. cond b (stopped error) (ahead (frames_of new) new.position.rest.now)) (rejected_lies (frames_of old) old.position.rest.now error o)
      ∙ sym (unwound laws (frames_of old) old.position.rest.now ∙ ap (outcome ahead) o)

  token_yielded : (t : Token) (old new : Reader) → Steps old new (Ok (Some t)) → ran_of None old ≡ preceded (erase t) (ran_of None new)
  token_yielded t old new (fs, e, same) =
      unwound laws (frames_of old) old.position.rest.now ∙ ap (outcome ahead) e
      ∙ ap (preceded (erase t)) (same_ahead fs (frames_of new) new.position.rest.now new.position.rest.now same)

  end_reached : (old : Reader) → next_of old ≡ ended → ran_of None old ≡ reached
  end_reached old e = unwound laws (frames_of old) old.position.rest.now ∙ ap (outcome ahead) e

  still_there : (old new : Reader) → next_of old ≡ next_of new → ran_of None new ≡ ran_of None old
  still_there old new same = sym (same_ahead (frames_of old) (frames_of new) old.position.rest.now new.position.rest.now same)

  -- the block may end after a token as it might before
  pub whole_after : (o : Option Token) (old new : Reader) → Steps old new (Ok o) → (ran_of None new).error ≡ (ran_of None old).error
  whole_after (Some t) old new e = sym (ap (λ (r : Ran). r.error) (token_yielded t old new e))
  whole_after None old new (e, same) = ap (λ (r : Ran). r.error) (still_there old new same)

  -- a token, or the end
  pub yields_next : (block : List ℕ) (o : Option Token) (old new : Reader) → (ran_of None old).error ≡ (of_block block).error → Steps old new (Ok o)
      → NextToken (MayFail block) (MayEnd block) (ran_of None old).tokens (ran_of None new).tokens (Ok o)
  yields_next block (Some t) old new h e = ap (λ (r : Ran). r.tokens) (token_yielded t old new e)
  yields_next block None old new h (e, same) =
      let all = end_reached old e in (
        ap (λ (r : Ran). r.tokens) all,
        ap (λ (r : Ran). r.tokens) (still_there old new same ∙ all),
        encodes_tree laws block (sym h ∙ ap (λ (r : Ran). r.error) all),
      )
