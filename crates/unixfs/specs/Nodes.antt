-- The nodes of UnixFS: blocks of DAG-PB whose data are a message.
use Rattle.std.specs.Prelude.{◌≡◌, ◌++◌, ℕ, List, Option, Some, None, Result, Ok, Err, map, codes}
use Rattle.dag_pb.specs.Node.{LinkParts, NodeParts, IsNode}
use Rattle.dag_pb.specs.NodeReading.{read_node}
use Rattle.dag_pb.specs.Views as pb
use Rattle.dag_pb.specs.ErrorNames as pb_names
use Rattle.pb_wire.specs.Steps.{◌>>=◌, with_error}
use Rattle.unixfs.specs.declared.node.NodeError.{NodeError}
use Rattle.unixfs.specs.declared.node.NodeError.TheVariants.{Block, NoData, Message}
use Rattle.unixfs.specs.declared.node.UnixFsNode.{UnixFsNode}
use Rattle.unixfs.specs.Data.{DataParts, IsData}
use Rattle.unixfs.specs.ErrorNames as names
use Rattle.unixfs.specs.Reading.{read_data}
use Rattle.unixfs.specs.Views as views

-- a node: its links, and the message in its data
pub record UnixFsParts : Type 0 where
  pub links : List LinkParts
  pub message : DataParts

-- True if the block is a node of DAG-PB with these links, whose data are this message.
pub record IsParsed (block : List ℕ) (links : List LinkParts) (parts : DataParts) : Type 0 where
  pub node : NodeParts
  pub message : List ℕ
  pub is_node : IsNode node block
  pub has_message : node.content ≡ Some message
  pub is_data : IsData parts message
  pub are_links : links ≡ node.links

-- True if a node with these data, if it has any, has this message.
abbrev pub HasMessage : Option (List ℕ) → DataParts → Type 0
HasMessage content parts = (message : List ℕ) × (content ≡ Some message) × IsData parts message

-- the node of these links and data, or its error
unfoldable pub message_of : List LinkParts → Option (List ℕ) → Result UnixFsParts NodeError
message_of links None = Err NoData
message_of links (Some message) = with_error Message (read_data message) >>= λ parts. Ok (record { links = links; message = parts })

-- the node that reading returns, or its error
unfoldable pub read_unixfs : List ℕ → Result UnixFsParts NodeError
read_unixfs block = with_error Block (read_node block) >>= λ node. message_of node.links node.content

-- the model of a node
abbrev pub node_parts : UnixFsNode → UnixFsParts
node_parts node = record { links = map pb.parts_of_link node.links.items; message = views.parts_of node.data }

-- True if the error is that of a failed allocation.
abbrev pub IsNodeMemory : NodeError → Type 0
IsNodeMemory (Block error) = pb.IsOutOfMemory error
IsNodeMemory NoData = ⊥
IsNodeMemory (Message error) = views.IsOutOfMemory error

-- the sentence of an error
abbrev pub node_sentence : NodeError → List ℕ
node_sentence (Block error) = pb_names.sentence_of error
node_sentence NoData = codes "the node has no data"
node_sentence (Message error) = codes "the data of the node: " ++ names.sentence_of error
