-- The models of links, fields and nodes.
use Rattle.std.specs.Prelude.{◌≡◌, map, option_map, string_bytes}
use Rattle.dag_pb.specs.declared.error.PbError.{PbError}
use Rattle.dag_pb.specs.declared.error.PbErrorKind.TheVariants.{Memory}
use Rattle.ipld_cid.specs.LinkOf.{link_of}
use Rattle.dag_pb.specs.declared.link.PbLink.{PbLink}
use Rattle.dag_pb.specs.declared.node.PbNode.{PbNode}
use Rattle.dag_pb.specs.declared.owned.PbLinkBuf.{PbLinkBuf}
use Rattle.dag_pb.specs.declared.owned.PbNodeBuf.{PbNodeBuf}
use Rattle.dag_pb.specs.declared.reader.NodeField.{NodeField}
use Rattle.dag_pb.specs.declared.reader.NodeField.TheVariants.{Link, Data}
use Rattle.dag_pb.specs.Node.{LinkParts, NodeParts}
use Rattle.dag_pb.specs.NodeReading.{Field, link, content}

-- the model of a link
abbrev pub parts_of_link : PbLink → LinkParts
parts_of_link l = record { hash = link_of l.hash; name = option_map (λ name. name.now) l.name; tsize = l.tsize }

-- the model of a field
abbrev pub part_of : NodeField → Field
part_of (Link l) = link (parts_of_link l.link)
part_of (Data d) = content d.now

-- True if the field is a link.
abbrev pub IsLinkField : NodeField → Type 0
IsLinkField (Link l) = Unit {0}
IsLinkField (Data d) = ⊥

-- the model of a node
abbrev pub parts_of_node : PbNode → NodeParts
parts_of_node node = record { links = map parts_of_link node.links.items; content = option_map (λ d. d.now) node.data }

-- the model of a link that owns its name
abbrev pub parts_of_link_buf : PbLinkBuf → LinkParts
parts_of_link_buf l = record { hash = link_of l.hash; name = option_map (λ name. string_bytes name) l.name; tsize = l.tsize }

-- the model of a node that owns its names and data
abbrev pub parts_of_node_buf : PbNodeBuf → NodeParts
parts_of_node_buf node = record { links = map parts_of_link_buf node.links.items; content = option_map (λ d. d.items) node.data }

-- True if the error is that of a failed allocation.
abbrev pub IsOutOfMemory : PbError → Type 0
IsOutOfMemory error = error ≡ record { kind = Memory; offset = 0 }
