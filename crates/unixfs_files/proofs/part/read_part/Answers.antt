use Rattle.std.proofs.Common.{map, ◌∙◌}
use Rattle.dag_pb.specs.Views.{parts_of_link}
use Rattle.unixfs.specs.Nodes.{node_parts}
use Rattle.unixfs.specs.Views.{parts_of}
use Rattle.unixfs_files.proofs.Lengths.{found_within}
use Rattle.unixfs_files.proofs.Parts.{node_found, node_only, node_failed}
use Rattle.unixfs_files.proofs.part.read_part.Goals as goal

pub returns-in-Ok-clause-found : goal.returns-in-Ok-clause-found
returns-in-Ok-clause-found c =
    node_found c.args.codec c.args.block.now (map parts_of_link c.in-Ok.node.links.items) (parts_of c.in-Ok.node.data) c.part_in.result c.in-112.is c.in-Ok.ensures.found c.part_in.ensures.found

pub returns-in-Ok-clause-within : goal.returns-in-Ok-clause-within
returns-in-Ok-clause-within c =
    found_within c.args.codec c.args.block.now c.part_in.result
    (node_found c.args.codec c.args.block.now (map parts_of_link c.in-Ok.node.links.items) (parts_of c.in-Ok.node.data) c.part_in.result c.in-112.is c.in-Ok.ensures.found c.part_in.ensures.found)

pub returns-in-Ok-clause-only : goal.returns-in-Ok-clause-only
returns-in-Ok-clause-only c =
    node_only c.args.codec c.args.block.now (node_parts c.in-Ok.node) c.part_in.result c.in-112.is c.in-Ok.ensures.only c.part_in.ensures.only

pub returns-in-Err-clause-only : goal.returns-in-Err-clause-only
returns-in-Err-clause-only c = λ part is fits.
    c.from.ensures ∙ node_failed c.args.codec c.args.block.now c.in-Err.error c.in-112.is c.in-Err.ensures.only part is
