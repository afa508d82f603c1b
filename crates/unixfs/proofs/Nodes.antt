-- Nodes: their links and the message in their data.
use Rattle.std.proofs.Common.{◌≡◌, ℕ, List, Option, Some, Result, Ok, Err, sym, ap, subst, ◌∙◌, map}
use Rattle.std.specs.Prelude.{IfOk, MatchResult}
use Rattle.std.proofs.lemmas.Option.{same_Some}
use Rattle.dag_pb.specs.declared.link.PbLink.{PbLink}
use Rattle.dag_pb.specs.Node.{LinkParts}
use Rattle.dag_pb.specs.Views.{parts_of_link}
use Rattle.unixfs.specs.declared.node.NodeError.{NodeError}
use Rattle.unixfs.specs.declared.node.UnixFsNode.{UnixFsNode}
use Rattle.unixfs.specs.Data.{DataParts, IsData}
use Rattle.unixfs.specs.Nodes.{UnixFsParts, HasMessage, IsNodeMemory, node_parts}
use Rattle.unixfs.specs.Views.{parts_of}

-- the bytes of a message in the data of a node
pub message_is : (message : List ℕ) (content : Option (List ℕ)) (d : DataParts) → content ≡ Some message → HasMessage content d → IsData d message
message_is message content d is has = subst (λ (m : List ℕ). IsData d m) (sym (same_Some message has.0 (sym is ∙ has.1))) has.2

-- a node with these links and this message
pub both : (r : Result UnixFsNode NodeError) (links : List PbLink) (u : UnixFsParts) → IfOk r (λ node. node.links.items ≡ links) → map parts_of_link links ≡ u.links
    → MatchResult r (λ node. parts_of node.data ≡ u.message) IsNodeMemory → MatchResult r (λ node. node_parts node ≡ u) IsNodeMemory
both (Ok node) links u same are message =
    ap (λ (ls : List LinkParts). record { links = ls; message = parts_of node.data }) (ap (λ (ls : List PbLink). map parts_of_link ls) same ∙ are)
    ∙ ap (λ (d : DataParts). record { links = u.links; message = d }) message
both (Err error) links u same are memory = memory
