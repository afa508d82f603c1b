use Rattle.std.proofs.Common.{◌≡◌, suc, rules}
use Rattle.ipld_de.proofs.ImageReading.{list_read, ok_then}
use Rattle.ipld_de.proofs.composites.VecDeserialize.read_image.Goals as goal

pub returns-clause-ok : goal.returns-clause-ok
returns-clause-ok g c =
    let one : c.args.levels ≡ suc c.in-Some.inner = search rules in
    ok_then c.read_image_items.result
    (λ v all. list_read g.R.ImageReader.Begins g.R.ImageReader.BeginsList g.met.R.ImageReader.lists g.T.Deserialize.reads g.T.Deserialize.contents c.args.levels c.in-Some.inner c.in_ok-count.count v.items
    _ _ _ one c.in_ok-count.ensures.ok all)
    c.read_image_items.ensures.ok
