use Rattle.std.proofs.Common.{◌≡◌, [], ◌∷◌, ◌++◌, sym, ap, ◌∙◌, append_assoc}
use Rattle.std.proofs.lemmas.Result.{err_from_is_err_and}
use Rattle.ipld_ser.proofs.Filing.{map_more, map_rejected}
use Rattle.ipld_ser.proofs.composites.map_of.Goals as goal

pub loop-key-preserved : goal.loop-key-preserved
loop-key-preserved g c =
    let l = c.loop-key in
    let done = l.invariant.done in
    let e : g.row.K.Denot × g.row.T.Denot = (c.in-Some.key.now, c.in-Some.member.now) in
    let left = c.next.new.self in
    let split : c.args.members.now.entries ≡ done ++ e ∷ left = l.invariant.split ∙ ap (λ es. done ++ es) c.in-Some.ensures.steps in
    record {
      done = done ++ e ∷ [];
      split = split ∙ sym (append_assoc done (e ∷ []) left);
      same = map_more g.K.Ord.cmp g.K.SerializeKey.text_of g.K.SerializeKey.is_key g.T.Serialize.image g.met.K.SerializeKey.in_order c.args.members.now.entries done e left _ _ _ split
          c.iter-key-items.ensures.ordered l.invariant.same c.in_ok-text.ensures.ok c.in_ok-put_image.ensures.ok;
    }

pub returns-in_err-put_image-clause-err : goal.returns-in_err-put_image-clause-err
returns-in_err-put_image-clause-err g c =
    let l = c.loop-key in
    let done = l.invariant.done in
    let e : g.row.K.Denot × g.row.T.Denot = (c.in-Some.key.now, c.in-Some.member.now) in
    let left = c.next.new.self in
    let split : c.args.members.now.entries ≡ done ++ e ∷ left = l.invariant.split ∙ ap (λ es. done ++ es) c.in-Some.ensures.steps in
    let p = err_from_is_err_and c.from_residual-in_err-put_image.result c.from_residual-in_err-put_image.ensures.1 in
    rw (p.1, p.2) (map_rejected g.K.Ord.cmp g.K.SerializeKey.text_of g.K.SerializeKey.is_key g.T.Serialize.image g.T.Serialize.write_error c.args.members.now.entries done e left _ _ split l.invariant.same c.in_err-put_image.ensures.err)
