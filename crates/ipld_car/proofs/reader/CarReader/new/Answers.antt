use Rattle.std.proofs.Common.{map}
use Rattle.ipld_cid.specs.LinkOf.{link_of}
use Rattle.ipld_car.proofs.OnlyOpenings.{only_opens, no_open_fault}
use Rattle.ipld_car.proofs.reader.CarReader.new.Goals as goal

pub returns-in-Ok-clause-only : goal.returns-in-Ok-clause-only
returns-in-Ok-clause-only g c = λ version bytes rest roots start end known front within fits.
    let opening = c.in-Ok.opening in
    let same = only_opens c.args.limit _ _ opening.version (map link_of opening.roots.items) opening.start opening.offset opening.end c.in-Ok.ensures version bytes rest roots start end known front in
    record { version_is = same.0; roots_are = same.1; starts = same.2; stands = same.3; ends = same.4 }

pub returns-in-Err-clause-only : goal.returns-in-Err-clause-only
returns-in-Err-clause-only g c = λ version bytes rest roots start end known front within fits.
    no_open_fault c.args.limit _ _ c.in-Err.error c.in-Err.ensures version bytes rest roots start end known front within fits
