use Rattle.std.proofs.Common.{◌≡◌, suc, sym, subst, ◌∙◌}
use Rattle.ipld_de.specs.Composites.{read_part}
use Rattle.ipld_de.specs.ImageReader.{BeginPartsRead}
use Rattle.ipld_de.proofs.ImageReading.{part_read}
use Rattle.ipld_de.proofs.tuples.Tuple2Parts.read_each.Goals as goal

pub returns-clause-ok : goal.returns-clause-ok
returns-clause-ok g c =
    let begins = g.R.ImageReader.Begins c.args.levels in
    let others = g.P.Parts.contents c.in_ok-others.others in
    let same : c.into_value.result ≡ c.in_ok-read_part.field-0 = c.into_value.ensures ∙ c.new-first.ensures in
    subst (λ v. BeginPartsRead begins (read_part g.T.Deserialize.reads g.P.Parts.reads) (suc g.P.Parts.count) (g.T.Deserialize.contents v, others)
    (g.R.ImageReader.contents c.args.reader.now) (g.R.ImageReader.contents c.read_each.new.reader)) (sym same)
    (part_read begins g.T.Deserialize.reads g.P.Parts.reads g.P.Parts.count (g.T.Deserialize.contents c.in_ok-read_part.field-0) others _ _ _ c.in_ok-read_part.ensures.ok c.in_ok-others.ensures.ok)
