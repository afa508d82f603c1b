use Rattle.std.proofs.Common.{◌≡◌, ◌-◌, length, refl, rules, arith}
use Rattle.ipld_show.specs.TreeLevels.{level}
use Rattle.ipld_show.proofs.Trees.{ended_none, passes_end, goes_into}
use Rattle.ipld_show.proofs.tree_text.leave.Goals as goal

pub loop-level-init : goal.loop-level-init
loop-level-init g c = λ bytes lines o. (lines, o, ended_none lines (g.W.Write.contents c.args.writer.now))

pub returns-then-level-gt0 : goal.returns-then-level-gt0
returns-then-level-gt0 g c = λ bytes lines o.
    let i = c.loop-level.invariant bytes lines o in
    goes_into c.loop-level.levels.items c.pop.new.self.items c.in-Some.level bytes lines i.0 c.in-Some.ensures.items i.1 c.push.new.self.items
    (level c.in-Some.level.is_map (c.in-Some.level.left - 1)) (g.W.Write.contents c.args.writer.now) (g.W.Write.contents c.loop-level.writer) c.in_ok-push.ensures.items (omega arith) refl (omega arith) i.2

pub loop-level-preserved : goal.loop-level-preserved
loop-level-preserved g c = λ bytes lines o.
    let i = c.loop-level.invariant bytes lines o in
    let size : c.len.result ≡ length c.pop.new.self.items = first_of (omega arith, search rules) in
    passes_end c.loop-level.levels.items c.pop.new.self.items c.in-Some.level bytes lines i.0 c.in-Some.ensures.items i.1 c.len.result (g.W.Write.contents c.args.writer.now)
    (g.W.Write.contents c.loop-level.writer) (g.W.Write.contents c.write_end.new.writer) size (omega arith) i.2 c.in_ok-write_end.ensures
