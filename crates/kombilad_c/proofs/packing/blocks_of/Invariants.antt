use Rattle.std.proofs.Common.{◌≡◌, map}
use Rattle.unixfs_build.specs.Views.{block_of, made}
use Rattle.kombilad_c.specs.Pack.{block_of_node}
use Rattle.kombilad_c.proofs.packing.blocks_of.Given as goal

abbrev pub invariant-loop-node : goal.invariant-loop-node
invariant-loop-node l = map block_of l.blocks.items ≡ map block_of_node (map made l.yielded)
