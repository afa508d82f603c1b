use Rattle.std.proofs.Common.{◌≡◌, suc, ◌∙◌, rules}
use Rattle.ipld_de.specs.Fields.{strings, accepts_named}
use Rattle.ipld_de.proofs.FieldErrors.{strings_count}
use Rattle.ipld_de.proofs.ImageReading.{struct_read, struct_missing}
use Rattle.ipld_de.proofs.image_fields.read_struct_image.Goals as goal

pub returns-in-Ok-clause-ok : goal.returns-in-Ok-clause-ok
returns-in-Ok-clause-ok g c =
    let names = strings c.args.names.now in
    let one : c.args.levels ≡ suc c.in-Some.inner = search rules in
    struct_read g.R.ImageReader.Begins g.R.ImageReader.BeginsMap g.R.ImageReader.BeginsKey g.met.R.ImageReader.maps
    (accepts_named g.F.Fields.parts names) (g.F.Fields.named_reads names) (g.F.Fields.reads c.new-fields.result names) (g.F.Fields.reads c.read_entries.new.fields names) (g.F.Fields.contents c.in-Ok.values)
    c.args.levels c.in-Some.inner c.in_ok-count.count _ _ _ one (c.new-fields.ensures.reads names) (λ es ms same. g.met.F.Fields.by_name c.new-fields.result names es ms same)
    (c.in-Ok.ensures.ok names (strings_count c.args.names.now ∙ c.requires.count)) c.in_ok-count.ensures.ok c.in_ok-read_entries.ensures.ok

pub returns-in-Err-clause-missing : goal.returns-in-Err-clause-missing
returns-in-Err-clause-missing g c = λ is.
    let names = strings c.args.names.now in
    let one : c.args.levels ≡ suc c.in-Some.inner = search rules in
    struct_missing g.R.ImageReader.Begins g.R.ImageReader.BeginsMap g.R.ImageReader.BeginsKey g.met.R.ImageReader.maps
    g.F.Fields.parts names (g.F.Fields.named_reads names) (g.F.Fields.reads c.new-fields.result names) (g.F.Fields.reads c.read_entries.new.fields names)
    c.args.levels c.in-Some.inner c.in_ok-count.count _ _ _ one (c.new-fields.ensures.reads names) (λ es ms same. g.met.F.Fields.by_name c.new-fields.result names es ms same)
    (c.in-Err.ensures.err names) c.in_ok-count.ensures.ok c.in_ok-read_entries.ensures.ok
