use Rattle.std.proofs.Common.{refl, arith}
use Rattle.ipld_car.proofs.SectionReading.{named_in, named_none}
use Rattle.ipld_car.proofs.read_section.name_block.Goals as goal

pub returns-in-Ok-clause-named : goal.returns-in-Ok-clause-named
returns-in-Ok-clause-named c =
    (refl, named_in c.args.start c.len.result c.args.section.now.bytes.items c.deref.result.now c.in-Ok.block.now _ c.requires.within c.deref.ensures.value (omega arith) c.in-Ok.ensures.found)

pub returns-in-Err-clause-named : goal.returns-in-Err-clause-named
returns-in-Err-clause-named c =
    named_none c.args.begin c.args.start c.args.section.now.bytes.items c.deref.result.now c.in-Err.error _ c.deref.ensures.value c.in-Err.ensures.error c.in-Err.ensures.only c.section_error.ensures
