use Rattle.std.proofs.Common.{refl, arith}
use Rattle.std.proofs.lemmas.List.Elements.{All-nil}
use Rattle.unixfs_build.specs.Levels.{nothing}
use Rattle.unixfs_build.specs.Roots.{HasLeaf}
use Rattle.unixfs_build.proofs.builder.FileBuilder.new.Goals as goal

pub returns-clause-empty : goal.returns-clause-empty
returns-clause-empty c = (
  refl,
  record {
    wide = omega (arith, c.if-layout-lt2.false);
    leaves = All-nil (HasLeaf c.args.layout.now);
    waiting = nothing c.new.ensures.items refl;
  },
)
