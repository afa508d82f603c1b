use Rattle.dag_pb.specs.Lemmas.NodeLaws.{node_complete}
use Rattle.std.proofs.Common.{◌≡◌, refl, arith, map}
use Rattle.ipld_cid.specs.LinkOf.{link_of}
use Rattle.dag_pb.specs.Node.{NodeParts, IsNode}
use Rattle.dag_pb.specs.NodeReading.{hashes, links_found}
use Rattle.dag_pb.proofs.Collecting.{told, told_only, told_offset, links_offset, links_sound, links_complete}
use Rattle.dag_pb.proofs.node.links_of_block.Goals as goal

pub returns-clause-found : goal.returns-clause-found
returns-clause-found c =
    told (λ links. map link_of links.items) (links_found c.args.bytes.now) (λ links. (n : NodeParts) × IsNode n c.args.bytes.now × (links ≡ hashes n)) c.collect_links.result
    (λ links. links_sound c.args.bytes.now links (λ i. omega (arith, c.type_inv.bytes i))) c.collect_links.ensures.exact

pub returns-clause-only : goal.returns-clause-only
returns-clause-only c n is =
    told_only (λ links. map link_of links.items) (links_found c.args.bytes.now) (λ links. links ≡ hashes n) (hashes n) c.collect_links.result (links_complete c.args.bytes.now n is) refl c.collect_links.ensures.exact

pub returns-clause-offset : goal.returns-clause-offset
returns-clause-offset c = told_offset (λ links. map link_of links.items) (links_found c.args.bytes.now) _ c.collect_links.result (links_offset c.args.bytes.now) c.collect_links.ensures.exact

pub returns-clause-unlinked : goal.returns-clause-unlinked
returns-clause-unlinked c = λ n is none. c.collect_links.ensures.unlinked n (node_complete c.args.bytes.now n is) none
