use Rattle.std.proofs.Common.{[], sym, ◌∙◌, refl}
use Rattle.ipld_tokens.specs.OpenTree.{inside, levels_of}
use Rattle.ipld_tokens.proofs.OpenTrees.{no_map, map_ends}
use Rattle.ipld_tokens.proofs.open_tree.OpenTree.end_map.Goals as goal

pub returns-in-Map : goal.returns-in-Map
returns-in-Map c =
    let b = c.args.self.now in
    map_ends b.innermost c.in-Map.map b.tree (inside b.outer.items []) (levels_of c.leave.new.self) c.end.result (sym c.leave.ensures.taken ∙ c.in-Map.is) c.leave.ensures.around c.end.ensures

pub returns-in_default : goal.returns-in_default
returns-in_default c =
    let b = c.args.self.now in
    (refl, no_map b.innermost b.tree (inside b.outer.items []) (λ m is. c.in_default.not-Map m (c.leave.ensures.taken ∙ is)))
