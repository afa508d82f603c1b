use Rattle.std.proofs.Common.{List, map, ap}
use Rattle.unixfs_build.specs.Views.{entry_of, made}
use Rattle.unixfs_build.specs.declared.folder_node.NodeBlock.{NodeBlock}
use Rattle.unixfs_build.proofs.Packing.{are_named, sharded_nodes, sharded_entries, sharded_others, sharded_fault, plain_nodes, plain_entries, plain_others, plain_fault}
use Rattle.unixfs_build.proofs.Slotting.{none_led}
use Rattle.unixfs_build.proofs.folder.build_folder.Goals as goal

pub build_shard-requires-clause-named : goal.build_shard-requires-clause-named
build_shard-requires-clause-named c = are_named (map entry_of c.args.entries.now) c.in_default.ensures.valid

pub build_shard-requires-clause-led : goal.build_shard-requires-clause-led
build_shard-requires-clause-led c = none_led (map entry_of c.args.entries.now)

pub returns-then-are_longer-clause-exact : goal.returns-then-are_longer-clause-exact
returns-then-are_longer-clause-exact c =
    sharded_nodes c.args.version c.args.attributes.now c.args.sharded_above (map entry_of c.args.entries.now) _ c.build_shard.result c.are_longer.ensures c.if-are_longer.true c.build_shard.ensures.exact

pub returns-then-are_longer-clause-entries : goal.returns-then-are_longer-clause-entries
returns-then-are_longer-clause-entries c = λ name target has.
    sharded_entries c.args.version c.args.attributes.now c.args.sharded_above (map entry_of c.args.entries.now) _ c.build_shard.result name target c.are_longer.ensures c.if-are_longer.true c.build_shard.ensures.holds has

pub returns-then-are_longer-clause-no_others : goal.returns-then-are_longer-clause-no_others
returns-then-are_longer-clause-no_others c = λ name lacks.
    sharded_others c.args.version c.args.attributes.now c.args.sharded_above (map entry_of c.args.entries.now) _ c.build_shard.result name c.are_longer.ensures c.if-are_longer.true c.build_shard.ensures.holds lacks

pub returns-then-are_longer-clause-fault : goal.returns-then-are_longer-clause-fault
returns-then-are_longer-clause-fault c =
    sharded_fault c.args.version c.args.attributes.now c.args.sharded_above (map entry_of c.args.entries.now) _ c.build_shard.result c.are_longer.ensures c.if-are_longer.true c.build_shard.ensures.fault

pub returns-in-Ok-with_root-clause-exact : goal.returns-in-Ok-with_root-clause-exact
returns-in-Ok-with_root-clause-exact c =
    plain_nodes c.args.version c.args.attributes.now c.args.sharded_above (map entry_of c.args.entries.now) _ (made c.in-Ok.root) _ _ c.are_longer.ensures c.if-are_longer.false c.in-Ok-with_root.ensures c.in-Ok.ensures.exact (ap (λ (bs : List NodeBlock). map made bs) c.new.ensures.items)

pub returns-in-Ok-with_root-clause-entries : goal.returns-in-Ok-with_root-clause-entries
returns-in-Ok-with_root-clause-entries c = λ name target has.
    plain_entries c.args.version c.args.attributes.now c.args.sharded_above (map entry_of c.args.entries.now) _ (made c.in-Ok.root) name target c.are_longer.ensures c.if-are_longer.false c.in-Ok.ensures.exact c.in-Ok.ensures.folder has

pub returns-in-Ok-with_root-clause-no_others : goal.returns-in-Ok-with_root-clause-no_others
returns-in-Ok-with_root-clause-no_others c = λ name lacks.
    plain_others c.args.version c.args.attributes.now c.args.sharded_above (map entry_of c.args.entries.now) _ (made c.in-Ok.root) name c.are_longer.ensures c.if-are_longer.false c.in-Ok.ensures.exact c.in-Ok.ensures.folder lacks

pub returns-in-Err-make_plain-clause-fault : goal.returns-in-Err-make_plain-clause-fault
returns-in-Err-make_plain-clause-fault c =
    plain_fault c.args.version c.args.attributes.now c.args.sharded_above (map entry_of c.args.entries.now) _ c.in-Err-make_plain.error c.are_longer.ensures c.if-are_longer.false c.in-Err-make_plain.ensures.fault
