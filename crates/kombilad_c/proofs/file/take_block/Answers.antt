use Rattle.std.proofs.Common.{inl, inr, refl, ap, ◌∙◌}
use Rattle.unixfs.specs.Files.{slice}
use Rattle.unixfs_files.specs.Walking.{range_of}
use Rattle.kombilad_c.specs.Status.{file_status}
use Rattle.kombilad_c.proofs.Files.{part_taken}
use Rattle.kombilad_c.proofs.file.take_block.Goals as goal

pub returns-in-Ok-clause-only : goal.returns-in-Ok-clause-only
returns-in-Ok-clause-only c = λ next others part left is_block is_part fits none long.
    part_taken c.in-Ok.head.now c.args.block.now (slice (range_of c.args.walk.now.range) part.head) c.fill.result c.args.bytes.now c.fill.new.buffer c.fill.new.needed (c.in-Ok.ensures.only next others part left is_block is_part fits none) c.in-Ok.ensures.within long c.fill.ensures

pub returns-in-Err-clause-exact : goal.returns-in-Err-clause-exact
returns-in-Err-clause-exact c = inr (inl (record {
  error = c.in-Err.error;
  fault = c.in-Err.ensures.fault;
  failed = c.stop_file.ensures.status;
  place = c.stop_file.ensures.place;
  stays = c.in-Err.ensures.stays;
  untouched = record { buffer = refl; length_needed = refl };
}))

pub returns-in-Err-clause-only : goal.returns-in-Err-clause-only
returns-in-Err-clause-only c = λ next others part left is_block is_part fits none long. inr (c.stop_file.ensures.status ∙ ap file_status (c.in-Err.ensures.only next others part left is_block is_part fits none))
