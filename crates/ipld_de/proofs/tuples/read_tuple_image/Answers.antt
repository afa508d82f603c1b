use Rattle.std.proofs.Common.{◌≡◌, suc, rules, arith}
use Rattle.ipld_de.proofs.ImageReading.{tuple_read, ok_then}
use Rattle.ipld_de.proofs.tuples.read_tuple_image.Goals as goal

pub returns-clause-ok : goal.returns-clause-ok
returns-clause-ok g c =
    let one : c.args.levels ≡ suc c.in-Some.inner = search rules in
    let same : c.in_ok-found.found ≡ g.P.Parts.count = omega (arith, c.if-found-count.false, c.requires) in
    ok_then c.read_each.result
    (λ v all. tuple_read g.R.ImageReader.Begins g.R.ImageReader.BeginsList g.met.R.ImageReader.lists g.P.Parts.reads c.args.levels c.in-Some.inner c.in_ok-found.found g.P.Parts.count (g.P.Parts.contents v)
    _ _ _ one same c.in_ok-found.ensures.ok all)
    c.read_each.ensures.ok
