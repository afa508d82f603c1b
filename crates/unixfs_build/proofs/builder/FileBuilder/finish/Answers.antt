use Rattle.std.proofs.Common.{◌≡◌, ◌<◌, List, length, sym, subst, arith}
use Rattle.std.proofs.lemmas.Bool.Decides.{nat_tests}
use Rattle.unixfs_build.specs.Blocks.{Built}
use Rattle.unixfs_build.specs.Building.{of_only_leaf}
use Rattle.unixfs_build.specs.Levels.{Wait}
use Rattle.unixfs_build.proofs.Chunks.{none_there, ends_in_leaf, ends_in_root}
use Rattle.unixfs_build.proofs.builder.FileBuilder.finish.Goals as goal

pub returns-in-Err-clause-fault : goal.returns-in-Err-clause-fault
returns-in-Err-clause-fault c =
    let none : length c.args.self.levels.items ≡ 0 = let e = c.if-is_empty.ensures in let f = c.args.self.levels.ok.0 in grind (arith, nat_tests) in
    of_only_leaf (none_there c.args.self.levels.items none) c.in-Err.ensures.fault

pub returns-then-is_empty-clause-root : goal.returns-then-is_empty-clause-root
returns-then-is_empty-clause-root c = λ chunks has.
    let none : length c.args.self.levels.items ≡ 0 = let e = c.if-is_empty.ensures in let f = c.args.self.levels.ok.0 in grind (arith, nat_tests) in
    ends_in_leaf c.args.attributes.now c.args.self c.args.chunk.now _ _ _ chunks (none_there c.args.self.levels.items none) c.in-Ok.ensures.exact c.in-Ok.ensures.holds c.in_ok-append.ensures.appended has

pub returns-clause-root : goal.returns-clause-root
returns-clause-root c = λ chunks has.
    let some : 0 < length c.deref.result.now = let e = c.if-is_empty.ensures in let f = c.deref.ensures.len in grind (arith, nat_tests) in
    ends_in_root c.args.attributes.now c.args.self c.args.chunk.now _ _ _ chunks (record { part_is = c.part-part.ensures; made = c.in_ok-leaf.ensures.exact; holds = c.in_ok-leaf.ensures.holds })
    (λ parts wait. c.in_ok-finish_levels.ensures.root parts some (subst (λ (ls : List (List Built)). Wait c.args.self.layout ls parts) (sym c.deref.ensures.value) wait)) has
