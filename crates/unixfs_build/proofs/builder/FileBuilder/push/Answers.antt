use Rattle.std.proofs.Common.{refl}
use Rattle.unixfs_build.proofs.Chunks.{has_one_more}
use Rattle.unixfs_build.proofs.builder.FileBuilder.push.Goals as goal

pub returns-clause-chunks : goal.returns-clause-chunks
returns-clause-chunks c = λ chunks has.
    has_one_more c.args.self.now.layout c.args.self.now _ c.args.chunk.now _ _ chunks refl refl
    (record { part_is = c.part-part.ensures; made = c.in_ok-leaf.ensures.exact; holds = c.in_ok-leaf.ensures.holds }) c.in_ok-add_part.ensures.wait has
