use Rattle.std.proofs.Common.{List, ℕ, ap, subst, inr, sym, ◌∙◌}
use Rattle.dag_pb.specs.declared.link.PbLink.{PbLink}
use Rattle.dag_pb.specs.Node.{IsLinks, IsNode}
use Rattle.dag_pb.specs.Views.{parts_of_node}
use Rattle.dag_pb.specs.Writing.{links_bytes, misplaced_link}
use Rattle.dag_pb.specs.Views.{parts_of_link}
use Rattle.dag_pb.specs.Lemmas.NodeLaws.{node_complete}
use Rattle.dag_pb.proofs.Written.{sorted, node_encoded, node_written, unsorted_written}
use Rattle.dag_pb.proofs.writer.encode_node.Goals as goal
use Rattle.std.specs.Prelude.{map, ◌++◌}

pub returns-in-Some-clause-exact : goal.returns-in-Some-clause-exact
returns-in-Some-clause-exact c =
    inr (unsorted_written (parts_of_node c.args.node.now) c.in-Some.index
    (sym (c.misplaced_link.ensures ∙ ap (λ (ls : List PbLink). misplaced_link (map parts_of_link ls)) c.deref.ensures.value) ∙ c.in-Some.is))

pub returns-clause-exact : goal.returns-clause-exact
returns-clause-exact c =
    let none = sym (c.misplaced_link.ensures ∙ ap (λ (ls : List PbLink). misplaced_link (map parts_of_link ls)) c.deref.ensures.value) ∙ c.in_default.is in
    (node_written (parts_of_node c.args.node.now) c.in_ok-block.block.items c.push_links.new.bytes.items c.push_data.new.bytes.items none c.in_ok-block.ensures.items
    (c.in_ok-push_links.ensures ∙ ap (λ (ls : List PbLink). c.in_ok-block.block.items ++ links_bytes (map parts_of_link ls)) c.deref-3.ensures.value) c.in_ok-push_data.ensures).1

pub returns-clause-sorted : goal.returns-clause-sorted
returns-clause-sorted c =
    let none = sym (c.misplaced_link.ensures ∙ ap (λ (ls : List PbLink). misplaced_link (map parts_of_link ls)) c.deref.ensures.value) ∙ c.in_default.is in
    sorted (parts_of_node c.args.node.now).links none

pub returns-clause-encoded : goal.returns-clause-encoded
returns-clause-encoded c =
    let none = sym (c.misplaced_link.ensures ∙ ap (λ (ls : List PbLink). misplaced_link (map parts_of_link ls)) c.deref.ensures.value) ∙ c.in_default.is in
    let is = node_written (parts_of_node c.args.node.now) c.in_ok-block.block.items c.push_links.new.bytes.items c.push_data.new.bytes.items none c.in_ok-block.ensures.items
    (c.in_ok-push_links.ensures ∙ ap (λ (ls : List PbLink). c.in_ok-block.block.items ++ links_bytes (map parts_of_link ls)) c.deref-3.ensures.value) c.in_ok-push_data.ensures in
    let links = subst (λ (ls : List PbLink). IsLinks (map parts_of_link ls) (links_bytes (map parts_of_link ls))) c.deref-2.ensures.value c.links_len.ensures.encoded in
    subst (λ (block : List ℕ). IsNode (parts_of_node c.args.node.now) block) is.0 (node_encoded (parts_of_node c.args.node.now) links c.data_len.ensures.encoded)

pub returns-clause-read_back : goal.returns-clause-read_back
returns-clause-read_back c = node_complete _ (parts_of_node c.args.node.now) (returns-clause-encoded c)
