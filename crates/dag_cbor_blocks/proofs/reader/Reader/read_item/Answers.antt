use Rattle.std.proofs.Common.{◌∷◌, [], Some, refl, sym, ap, ◌∙◌}
use Rattle.dag_cbor_format.specs.Errors.{item_header_error}
use Rattle.dag_cbor_format.specs.Reading.{many, pairs, mark, begin, begun, step}
use Rattle.dag_cbor_format.specs.Parts.{beginning_of}
use Rattle.dag_cbor_blocks.specs.Hints.{announced}
use Rattle.dag_cbor_blocks.specs.Position.{frames_of}
use Rattle.dag_cbor_blocks.specs.Reader.{in_stage, next_of}
use Rattle.dag_cbor_blocks.proofs.Hinting.{no_hint, hint_of_step}
use Rattle.dag_cbor_blocks.proofs.reader.Reader.read_item.Goals as goal

pub returns-in-Scalar : goal.returns-in-Scalar
returns-in-Scalar c =
    let p = c.args.self.now.position in
    let fs = frames_of p in
    let rest = c.in_ok-item_header.rest.now in
    let found = c.in_ok-item_header.ensures ∙ ap (λ l. Some (beginning_of l, rest)) c.in-Scalar.is in
    record {
      steps = (fs, ap (λ s. step (in_stage s fs) p.rest.now) c.requires ∙ ap (begun fs (item_header_error p.rest.now)) found, refl);
      hints = no_hint c.in-Scalar.token p.rest.now rest (announced (next_of c.args.self.now)) p.uncounted found;
    }

pub returns-in_ok-open_list-in-List : goal.returns-in_ok-open_list-in-List
returns-in_ok-open_list-in-List c =
    let p = c.args.self.now.position in
    let fs = frames_of p in
    let rest = c.in_ok-item_header.rest.now in
    let opened = c.in_ok-open_list-in-List.ensures in
    let found = ap (λ s. step (in_stage s fs) p.rest.now) c.requires ∙ ap (begun fs (item_header_error p.rest.now)) c.in_ok-item_header.ensures ∙ ap (λ l. begin fs (beginning_of l) rest) c.in-List.is in
    record {
      steps = (
        many c.in-List.items ∷ fs,
        found,
        ap (λ gs. step gs rest) (sym (opened.frames ∙ ap (λ gs. many c.in-List.items ∷ gs) c.capacity_hint-hint.ensures.frames)),
      );
      hints = hint_of_step _ _ p.uncounted _ _ c.capacity_hint-hint.result found opened.uncounted c.capacity_hint-hint.ensures.hint;
    }

pub returns-in_ok-open_map-in-Map : goal.returns-in_ok-open_map-in-Map
returns-in_ok-open_map-in-Map c =
    let p = c.args.self.now.position in
    let fs = frames_of p in
    let rest = c.in_ok-item_header.rest.now in
    let opened = c.in_ok-open_map-in-Map.ensures in
    let found = ap (λ s. step (in_stage s fs) p.rest.now) c.requires ∙ ap (begun fs (item_header_error p.rest.now)) c.in_ok-item_header.ensures ∙ ap (λ l. begin fs (beginning_of l) rest) c.in-Map.is in
    record {
      steps = (
        pairs c.in-Map.pairs [] ∷ fs,
        found,
        ap (λ gs. step gs rest) (sym (opened.frames ∙ ap (λ gs. pairs c.in-Map.pairs [] ∷ gs) c.capacity_hint-hint-in-Map.ensures.frames)),
      );
      hints = hint_of_step _ _ p.uncounted _ _ c.capacity_hint-hint-in-Map.result found opened.uncounted c.capacity_hint-hint-in-Map.ensures.hint;
    }

pub returns-in-Link-clause-steps : goal.returns-in-Link-clause-steps
returns-in-Link-clause-steps c =
    let p = c.args.self.now.position in
    let fs = frames_of p in
    let rest = c.in_ok-item_header.rest.now in (
      mark ∷ fs,
      ap (λ s. step (in_stage s fs) p.rest.now) c.requires ∙ ap (begun fs (item_header_error p.rest.now)) c.in_ok-item_header.ensures ∙ ap (λ l. begin fs (beginning_of l) rest) c.in-Link.is,
      refl,
    )
