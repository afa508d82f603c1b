use Rattle.std.proofs.Common.{sym, ◌∙◌}
use Rattle.std.proofs.lemmas.Option.{same_Some}
use Rattle.ipld_codec.proofs.laws.tree_codec_law.Goals as goal

pub returns-clause-round_trip : goal.returns-clause-round_trip
returns-clause-round_trip g c = λ v w block written decoded.
    let again = (g.met.C.Codec.decodes_encoded _ block).1 (g.met.C.Codec.writes_encoded _ block written) in
    (g.met.C.TreeCodec.same_trees w v).0 (same_Some _ _ (sym decoded ∙ again))
