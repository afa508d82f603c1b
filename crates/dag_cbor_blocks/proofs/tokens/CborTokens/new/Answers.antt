use Rattle.std.proofs.Common.{[], ◌∷◌, length, sym, ap, subst, ◌∙◌, arith}
use Rattle.dag_cbor_format.specs.Reading.{one, ahead, step}
use Rattle.dag_cbor_format.proofs.Complete.{over_block}
use Rattle.dag_cbor_format.proofs.Beginnings.{begins_tree}
use Rattle.dag_cbor_format.proofs.CidLaws.{cid_laws}
use Rattle.dag_cbor_blocks.specs.Hints.{Covered}
use Rattle.dag_cbor_blocks.proofs.Hinting.{covered}
use Rattle.dag_cbor_blocks.proofs.tokens.CborTokens.new.Goals as goal

pub invariant_of-result : goal.invariant_of-result
invariant_of-result c =
    let n = c.new.result.position.uncounted in
    let bs = c.new.result.position.rest.now in
    record {
      stands = ap (λ fs. (ahead fs bs).error) c.new.ensures.frames ∙ ap (λ bs. (ahead (one ∷ []) bs).error) c.new.ensures.rest;
      reported = λ e is. absurd (cc is);
      covered = λ none. subst (λ fs. Covered n (step fs bs)) (sym c.new.ensures.frames)
          (covered cid_laws n (one ∷ []) bs (omega (arith, c.new.ensures.uncounted, ap length c.new.ensures.rest)));
    }

pub returns-clause-tokens : goal.returns-clause-tokens
returns-clause-tokens c = λ i t encodes has.
    ap (λ fs. (ahead fs c.new.result.position.rest.now).tokens) c.new.ensures.frames
    ∙ ap (λ bs. (ahead (one ∷ []) bs).tokens) c.new.ensures.rest
    ∙ (over_block cid_laws i t c.args.bytes.now encodes has).0

pub returns-clause-begins : goal.returns-clause-begins
returns-clause-begins c = λ taken rest left.
    begins_tree cid_laws c.args.bytes.now taken rest
    (sym (ap (λ fs. (ahead fs c.new.result.position.rest.now).tokens) c.new.ensures.frames ∙ ap (λ bs. (ahead (one ∷ []) bs).tokens) c.new.ensures.rest) ∙ left)

pub returns-clause-step : goal.returns-clause-step
returns-clause-step c = ap (λ fs. step fs c.new.result.position.rest.now) c.new.ensures.frames ∙ ap (step (one ∷ [])) c.new.ensures.rest
