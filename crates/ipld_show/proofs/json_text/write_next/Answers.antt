use Rattle.std.proofs.Common.{◌∷◌, reverse, subst}
use Rattle.ipld_show.specs.JsonFrames.{Behind}
use Rattle.ipld_show.proofs.json_text.write_next.Goals as goal

pub returns-in-List-clause-goes_on : goal.returns-in-List-clause-goes_on
returns-in-List-clause-goes_on c = λ whole total w n b.
    c.write_next_item.ensures.goes_on whole total w n
    (subst (λ f. Behind whole total (f ∷ reverse c.args.frames.now.items) c.args.place.rest.now c.args.place.containers.now w n) c.in-List.is b)

pub returns-in-Map-clause-goes_on : goal.returns-in-Map-clause-goes_on
returns-in-Map-clause-goes_on c = λ whole total w n b.
    c.write_next_member.ensures.goes_on whole total w n c.args.place.rest.now c.args.place.containers.now
    (subst (λ f. Behind whole total (f ∷ reverse c.args.frames.now.items) c.args.place.rest.now c.args.place.containers.now w n) c.in-Map.is b)
