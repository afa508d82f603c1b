use Rattle.std.proofs.Common.{sym, ◌∙◌}
use Rattle.ipld_tree.specs.TreeOf.{tree_of}
use Rattle.dag_cbor.proofs.FrontReads.{whole_read}
use Rattle.dag_cbor_blocks.proofs.Fits.{nothing_over}
use Rattle.dag_cbor.proofs.shallow.read_shallow.Goals as goal

pub returns-then-is_empty-clause-found : goal.returns-then-is_empty-clause-found
returns-then-is_empty-clause-found c =
    let h = c.in_ok-major in
    let ended = nothing_over c.in_ok-rest.rest.now (sym c.is_empty.ensures ∙ c.if-is_empty.true) in
    (whole_read c.args.levels c.args.bytes.now h.major h.argument h.more.now (tree_of c.read_content.new.value) c.in_ok-rest.rest.now h.ensures c.in_ok-rest.ensures ended).0

pub returns-then-is_empty-clause-nested : goal.returns-then-is_empty-clause-nested
returns-then-is_empty-clause-nested c =
    let h = c.in_ok-major in
    let ended = nothing_over c.in_ok-rest.rest.now (sym c.is_empty.ensures ∙ c.if-is_empty.true) in
    (whole_read c.args.levels c.args.bytes.now h.major h.argument h.more.now (tree_of c.read_content.new.value) c.in_ok-rest.rest.now h.ensures c.in_ok-rest.ensures ended).1
