-- Equality of links and of nodes.
use Rattle.std.specs.Prelude.{◌&&◌, Bool, nat_eq}
use Rattle.std.specs.Cmp.Lexicographic.{pointwise}
use Rattle.std.specs.Option.{option_eq}
use Rattle.std.specs.Str.{bytes_eq}
use Rattle.ipld_cid.specs.Order.{link_eq}
use Rattle.dag_pb.specs.Node.{LinkParts, NodeParts}

-- whether two links are equal
abbrev pub parts_eq : LinkParts → LinkParts → Bool
parts_eq a b = link_eq a.hash b.hash && (option_eq bytes_eq a.name b.name && option_eq nat_eq a.tsize b.tsize)

-- whether two nodes are equal
abbrev pub node_eq : NodeParts → NodeParts → Bool
node_eq a b = pointwise parts_eq a.links b.links && option_eq bytes_eq a.content b.content
