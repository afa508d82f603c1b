use Rattle.std.proofs.Common.{rules, arith, ◌≤◌, ◌-◌}
use Rattle.ipld_cid.specs.LinkOf.{link_of}
use Rattle.ipld_cli.proofs.Salvaged.{section_found}
use Rattle.ipld_cli.proofs.salvage.find_section.Goals as goal

pub returns-in-Ok : goal.returns-in-Ok
returns-in-Ok c =
    let there = rw (c.in-Ok-Some.is, c.in-Ok-Some.field-0-is) at c.section_at.ensures.found in
    let short : c.in-Ok-Some.span.end - c.in-Ok-Some.span.cid ≤ c.args.limit = omega arith in
    section_found c.args.limit _ c.args.bytes.now c.in-Ok-Some.span there.1.0 (record { cid = link_of c.in-Ok.cid; bytes = c.in-Ok.block.now }) there.1.1 short c.in-Ok.ensures.found
