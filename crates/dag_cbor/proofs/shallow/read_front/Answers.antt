use Rattle.std.proofs.Common.{◌≤◌, rules, arith}
use Rattle.ipld_tree.specs.TreeOf.{tree_of}
use Rattle.dag_cbor.proofs.FrontReads.{behind_head}
use Rattle.dag_cbor.proofs.shallow.read_front.Goals as goal

pub returns : goal.returns
returns c =
    let h = c.in_ok-major in
    let within = c.min-within.result in
    let b = behind_head within c.args.bytes.now h.major h.argument h.more.now (tree_of c.read_content.new.value) c.in_ok-rest.rest.now h.ensures c.in_ok-rest.ensures in
    let fewer : within ≤ c.args.levels = search (c.min-within.ensures, rules) in
    (b.0, b.1, b.2, b.3, omega (arith, b.4, fewer))
