use Rattle.std.proofs.Common.{◌≡◌, length, ap, subst, sym, ◌∙◌}
use Rattle.unixfs.specs.Files.{slice}
use Rattle.unixfs_files.specs.declared.state.FileWalk.{FileWalk}
use Rattle.unixfs_files.specs.Walking.{range_of, parts_left, excess}
use Rattle.kombilad_c.specs.File.{IsTaken}
use Rattle.kombilad_c.specs.declared.held.Held.{Held}
use Rattle.kombilad_c.specs.declared.held.Held.TheVariants.{File}
use Rattle.kombilad_c.proofs.file.take_held.Goals as goal

same_file : (a b : FileWalk) → ◌≡◌ {A = Held} (File a) (File b) → a ≡ b
same_file a b is = cc

pub returns-in-File-clause-only : goal.returns-in-File-clause-only
returns-in-File-clause-only c = λ w next others part is left is_block is_part fits none long.
    let same = same_file c.in-File.walk w (sym c.in-File.is ∙ is) in
    subst (λ (x : FileWalk). IsTaken (slice (range_of x.range) part.head) c.take_block.result c.args.bytes.now c.take_block.new.bytes c.take_block.new.needed) same
    (c.take_block.ensures.only next others part (ap parts_left same ∙ left) is_block is_part fits (ap (λ (x : FileWalk). excess x next part.size (length part.children)) same ∙ none) long)
