use Rattle.std.proofs.Common.{◌≡◌, suc, ◌+◌, codes, ap, subst, ◌∙◌, arith}
use Rattle.std.proofs.KnownBytes.{Appends-trans}
use Rattle.std.specs.Io.KnownBytes.{Appends}
use Rattle.ipld_show.specs.TreeText.{spaces}
use Rattle.ipld_show.proofs.Trees.{spaces_more}
use Rattle.ipld_show.proofs.tree_text.write_spaces.Goals as goal

pub loop-done-preserved : goal.loop-done-preserved
loop-done-preserved g c =
    let one : suc c.loop-done.done ≡ c.loop-done.done + 1 = omega arith in (
      subst (Appends (g.W.Write.contents c.args.writer.now) (g.W.Write.contents c.write_all.new.self)) (spaces_more c.loop-done.done ∙ ap spaces one)
          (Appends-trans (g.W.Write.contents c.args.writer.now) (g.W.Write.contents c.loop-done.writer) (g.W.Write.contents c.write_all.new.self) (spaces c.loop-done.done) (codes "  ")
          c.loop-done.invariant.0 c.in_ok-write_all.ensures.bytes),
      omega arith,
    )
