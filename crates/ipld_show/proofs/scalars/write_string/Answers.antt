use Rattle.std.proofs.Common.{◌≡◌, [], ◌∷◌, ◌++◌, flat_map, sym, subst, ◌∙◌, map-id}
use Rattle.std.proofs.KnownBytes.{Appends-trans}
use Rattle.std.proofs.lemmas.Iterator.{YieldsList-from_chars}
use Rattle.std.proofs.lemmas.Iterator.Consumers.{YieldsList-end}
use Rattle.std.specs.Io.KnownBytes.{Appends}
use Rattle.std.specs.Str.{chars}
use Rattle.ipld_show.specs.Scalars.{character}
use Rattle.ipld_show.proofs.scalars.write_string.Goals as goal

pub returns : goal.returns
returns g c =
    let end = YieldsList-end (YieldsList-from_chars c.args.text.now c.utf8.text cc) c.loop-c.yielded _ c.loop-c.yielded_by _ _ c.in-None.is c.next.ensures.steps in
    let all : c.loop-c.yielded ≡ chars c.args.text.now = sym (map-id c.loop-c.yielded) ∙ end.0 in
    subst (λ cs. Appends (g.W.Write.contents c.args.writer.now) (g.W.Write.contents c.write_all-2.new.self) (34 ∷ (flat_map character cs ++ 34 ∷ []))) all
    (Appends-trans (g.W.Write.contents c.args.writer.now) (g.W.Write.contents c.loop-c.writer) (g.W.Write.contents c.write_all-2.new.self)
    (34 ∷ flat_map character c.loop-c.yielded) (34 ∷ []) c.loop-c.invariant c.in_ok-write_all-2.ensures.bytes)
