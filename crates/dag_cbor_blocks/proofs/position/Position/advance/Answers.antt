use Rattle.std.proofs.Common.{[], ◌∷◌, length, inl, inr, refl, sym, ap, ap₂, ◌∙◌}
use Rattle.std.proofs.lemmas.Result.{err_from_is_err_and}
use Rattle.dag_cbor_format.specs.Reading.{pairs as pairs_frame, step_in}
use Rattle.dag_cbor_blocks.specs.Keys.{seen_in}
use Rattle.dag_cbor_blocks.specs.Position.{framed, inside, frames_of}
use Rattle.dag_cbor_format.proofs.CidLaws.{cid_laws}
use Rattle.dag_cbor_blocks.proofs.Levels.{key_read, item_read}
use Rattle.dag_cbor_blocks.proofs.position.Position.advance.Goals as goal

pub returns-then-map-gt0-clause-next : goal.returns-then-map-gt0-clause-next
returns-then-map-gt0-clause-next c =
    let old = c.args.self.now in
    let map = c.in-Map.map in
    let out = inside old.outer.items [] in
    key_read cid_laws (frames_of old) out map.pairs c.read_key.new.self.pairs (seen_in map.keys) (seen_in c.read_key.new.self.keys) old.rest.now c.in_ok-key-in-Map.rest.now _
    (length old.outer.items) (ap (λ l. framed l out) c.in-Map.is) (λ floats. c.in_ok-key-in-Map.ensures.1 floats out)

pub returns-then-items-gt0-clause-next : goal.returns-then-items-gt0-clause-next
returns-then-items-gt0-clause-next c =
    let old = c.args.self.now in
    let out = inside old.outer.items [] in
    item_read (frames_of old) out c.in-List.items _ old.rest.now (length old.outer.items) (ap (λ l. framed l out) c.in-List.is) c.if-items-gt0.true refl

pub returns-in_err-key-in-Map-clause-next : goal.returns-in_err-key-in-Map-clause-next
returns-in_err-key-in-Map-clause-next c =
    let old = c.args.self.now in
    let out = inside old.outer.items [] in
    let error = err_from_is_err_and c.from_residual.result c.from_residual.ensures.1 in
    rw (error.1, error.2) (
    elim c.in_err-key-in-Map.ensures [
      | inl (memory, pairs, keys) ↦ inl (memory, sym (ap (λ l. framed l out) c.in-Map.is ∙ ap₂ (λ n seen. pairs_frame n seen ∷ out) (sym pairs) (sym keys)), refl)
      | inr r ↦ inr (λ floats. ap (λ l. step_in floats (framed l out) old.rest.now) c.in-Map.is ∙ r floats out, refl)
    ]
    )
