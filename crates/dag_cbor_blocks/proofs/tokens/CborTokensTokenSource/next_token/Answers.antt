use Rattle.std.proofs.Common.{◌≡◌, false, Option, Ok, refl, sym, ap, subst, ◌∙◌}
use Rattle.std.proofs.lemmas.Option.{same_Some}
use Rattle.ipld_tokens.specs.Hints.{Counted}
use Rattle.ipld_tokens.specs.Source.{NextToken}
use Rattle.dag_cbor_format.specs.declared.error.CborError.{CborError}
use Rattle.dag_cbor_format.specs.declared.error.CborError.TheVariants.{Memory}
use Rattle.dag_cbor_format.specs.ErrorKinds.{lies_in_bytes}
use Rattle.dag_cbor_format.specs.Reading.{Ran}
use Rattle.dag_cbor_blocks.specs.Tokens.{MayEnd, MayFail, ran_of}
use Rattle.dag_cbor_blocks.proofs.Blocks.{stop_reported, may_fail, error_same, whole_after, yields_next}
use Rattle.dag_cbor_blocks.proofs.Hinting.{counted, still_covered}
use Rattle.dag_cbor_format.proofs.CidLaws.{cid_laws}
use Rattle.dag_cbor_format.proofs.Complete.{over_block}
use Rattle.dag_cbor_blocks.proofs.tokens.CborTokensTokenSource.next_token.Goals as goal

pub invariant_of-self : goal.invariant_of-self
invariant_of-self c =
    let before = c.args.self.now in
    record {
      stands = ap (λ f. (ran_of f c.advance.new.self).error) c.in-None.is ∙ whole_after cid_laws c.in-Ok.token before.reader c.advance.new.self c.in-Ok.ensures.steps
          ∙ ap (λ f. (ran_of f before.reader).error) (sym c.in-None.is) ∙ before.stands;
      reported = before.reported;
      covered = λ none. still_covered cid_laws c.in-Ok.token before.reader c.advance.new.self c.in-Ok.ensures.steps c.in-Ok.ensures.hints (before.covered c.in-None.is);
    }

pub invariant_of-self-in-Err : goal.invariant_of-self-in-Err
invariant_of-self-in-Err c =
    let before = c.args.self.now in
    record {
      stands = ap (λ (r : Ran). r.error) (error_same cid_laws c.in-Err.error before.reader c.advance.new.self c.in-Err.ensures.steps)
          ∙ ap (λ f. (ran_of f before.reader).error) (sym c.in-None.is) ∙ before.stands;
      reported = λ e is. subst (λ f. lies_in_bytes f ≡ false → f ≡ Memory) (same_Some _ _ is) (stop_reported c.in-Err.error before.reader c.advance.new.self c.in-Err.ensures.steps);
      covered = λ none. absurd (cc none);
    }

pub returns-in-Some-clause-next : goal.returns-in-Some-clause-next
returns-in-Some-clause-next c =
    let before = c.args.self.now in
    (refl, may_fail cid_laws before.block.now c.in-Some.error before.reader (before.reported c.in-Some.error c.in-Some.is) (ap (λ f. (ran_of f before.reader).error) (sym c.in-Some.is) ∙ before.stands))

pub returns-in-Ok-clause-next : goal.returns-in-Ok-clause-next
returns-in-Ok-clause-next c =
    let before = c.args.self.now in
    let block = before.block.now in
    subst (λ (f : Option CborError). NextToken (MayFail block) (MayEnd block) (ran_of f before.reader).tokens (ran_of f c.advance.new.self).tokens (Ok c.in-Ok.token))
    (sym c.in-None.is)
    (yields_next cid_laws block c.in-Ok.token before.reader c.advance.new.self (ap (λ f. (ran_of f before.reader).error) (sym c.in-None.is) ∙ before.stands) c.in-Ok.ensures.steps)

pub returns-in-Err-clause-next : goal.returns-in-Err-clause-next
returns-in-Err-clause-next c =
    let before = c.args.self.now in
    let same = error_same cid_laws c.in-Err.error before.reader c.advance.new.self c.in-Err.ensures.steps ∙ ap (λ f. ran_of f before.reader) (sym c.in-None.is) in
    (ap (λ (r : Ran). r.tokens) same, may_fail cid_laws before.block.now c.in-Err.error c.advance.new.self (stop_reported c.in-Err.error before.reader c.advance.new.self c.in-Err.ensures.steps) (ap (λ (r : Ran). r.error) same ∙ before.stands))

pub returns-in-Ok-clause-counted : goal.returns-in-Ok-clause-counted
returns-in-Ok-clause-counted c = λ (t, (i, encodes, is)).
    let before = c.args.self.now in
    let whole = ap (λ f. (ran_of f before.reader).error) (sym c.in-None.is) ∙ before.stands ∙ (over_block cid_laws i t before.block.now encodes is).1 in
    subst (λ (f : Option CborError). Counted {F = CborError} (ran_of f before.reader).tokens (Ok c.in-Ok.token))
    (sym c.in-None.is)
    (counted cid_laws c.in-Ok.token before.reader c.advance.new.self whole c.in-Ok.ensures.steps c.in-Ok.ensures.hints (before.covered c.in-None.is))
