use Rattle.ipld_codec.proofs.laws.codec_law.Goals as goal

pub returns-clause-round_trip : goal.returns-clause-round_trip
returns-clause-round_trip g c = λ v block written. (g.met.C.Codec.decodes_encoded v block).1 (g.met.C.Codec.writes_encoded v block written)
