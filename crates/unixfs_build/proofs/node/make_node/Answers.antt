use Rattle.std.proofs.Common.{List, ℕ, arith, map, refl, ap, subst, ◌∙◌}
use Rattle.unixfs.specs.Nodes.{IsParsed}
use Rattle.unixfs_build.specs.Blocks.{link_to, file_message, sha_link}
use Rattle.unixfs_build.specs.Faults.{not_encoded, too_large}
use Rattle.unixfs_build.proofs.Encoding.{node_holds, node_made, too_long}
use Rattle.unixfs_build.proofs.node.make_node.Goals as goal

pub returns-in-Err-clause-fault : goal.returns-in-Err-clause-fault
returns-in-Err-clause-fault c = λ parts lead. not_encoded c.in-Err.ensures.fault

pub returns-in_default-clause-fault : goal.returns-in_default-clause-fault
returns-in_default-clause-fault c = λ parts lead.
    too_large refl (too_long c.args.version c.args.attributes.now c.args.head.now parts c.args.children.total c.len.result c.in-Ok.data.items lead.total (c.in-Ok.ensures.exact parts lead) (omega (arith, c.len.ensures, c.in-Ok.data.ok.0)) c.in_default.ensures)

pub returns-clause-exact : goal.returns-clause-exact
returns-clause-exact c = λ parts lead.
    node_made c.args.version c.args.attributes.now c.args.head.now parts _ c.in-Ok.data.items c.args.children.size c.args.children.total c.in-Some.total
    (c.node_cid.ensures ∙ ap (λ (b : List ℕ). sha_link c.args.version 0x70 b) c.deref.ensures.value) (c.in-Ok.ensures.exact parts lead) lead.size lead.total (omega (arith, c.in-Some.ensures, c.len.ensures, c.in-Ok.data.ok.0))

pub returns-clause-holds : goal.returns-clause-holds
returns-clause-holds c = λ parts lead.
    node_holds c.args.version c.args.attributes.now c.args.head.now parts
    (subst (λ (b : List ℕ). IsParsed b (map link_to parts) (file_message c.args.attributes.now c.args.head.now parts)) (c.in-Ok.ensures.exact parts lead) (c.in-Ok.ensures.parsed parts lead))
