use Rattle.std.proofs.Common.{arith}
use Rattle.ipld_tokens.proofs.OpenTrees.{root_depth, open_depth}
use Rattle.ipld_tokens.proofs.open_tree.OpenTree.depth.Goals as goal

pub returns-in-Root : goal.returns-in-Root
returns-in-Root c =
    let b = c.args.self.now in
    root_depth b.innermost b.outer.items c.in-Root.is b.alone

pub returns-in_default : goal.returns-in_default
returns-in_default c =
    let b = c.args.self.now in
    omega (arith, c.len.ensures, b.outer.ok.0, open_depth b.innermost b.outer.items c.in_default.not-Root b.nested)
