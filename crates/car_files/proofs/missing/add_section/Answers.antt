use Rattle.std.proofs.Common.{map}
use Rattle.ipld_cid.specs.LinkOf.{link_of}
use Rattle.ipld_car.specs.SectionOf.{block_of}
use Rattle.car_files.proofs.Finding.{adds_known, adds_unknown, adds_invalid, says_known, says_unknown}
use Rattle.car_files.proofs.missing.add_section.Goals as goal

pub returns-in-Ok-add_in_order-clause-added : goal.returns-in-Ok-add_in_order-clause-added
returns-in-Ok-add_in_order-clause-added g c =
    adds_known (block_of c.args.section.now) (link_of c.cid.result.now) _ c.add_block.new.self _ (map link_of c.in-Ok-Some.links.items)
    c.cid.ensures c.in-Ok.ensures.added (rw c.in-Ok-Some.field-0-is at c.in-Ok-Some.ensures.found) c.in-Ok-add_in_order.ensures.added

pub returns-in-Ok-add_in_order-clause-complained : goal.returns-in-Ok-add_in_order-clause-complained
returns-in-Ok-add_in_order-clause-complained g c =
    says_known c.args.label.now c.args.offset (block_of c.args.section.now) (map link_of c.in-Ok-Some.links.items) _ _ c.in-Ok-add_in_order.is_invalid
    (rw c.in-Ok-Some.field-0-is at c.in-Ok-Some.ensures.found) c.in-Ok-add_in_order.ensures.complained

pub returns-in-Ok-None-clause-added : goal.returns-in-Ok-None-clause-added
returns-in-Ok-None-clause-added g c =
    adds_unknown (block_of c.args.section.now) (link_of c.cid.result.now) _ _ c.cid.ensures c.in-Ok.ensures.added
    (rw c.in-Ok-None.field-0-is at c.in-Ok-None.ensures.found)

pub returns-in-Ok-None-clause-complained : goal.returns-in-Ok-None-clause-complained
returns-in-Ok-None-clause-complained g c =
    says_unknown c.args.label.now c.args.offset (block_of c.args.section.now) _ (rw c.in-Ok-None.field-0-is at c.in-Ok-None.ensures.found)

pub returns-in-Ok-write_complaint-clause-added : goal.returns-in-Ok-write_complaint-clause-added
returns-in-Ok-write_complaint-clause-added g c =
    adds_invalid (block_of c.args.section.now) (link_of c.cid.result.now) _ _ c.in-Err-Invalid.why c.cid.ensures c.in-Ok.ensures.added
    (rw c.in-Err-Invalid.field-0-is at c.in-Err-Invalid.ensures.fault)
