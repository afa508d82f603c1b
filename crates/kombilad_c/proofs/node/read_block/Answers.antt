use Rattle.std.proofs.Common.{inl, sym}
use Rattle.kombilad_c.proofs.node.read_block.Goals as goal

pub returns-in-Ok : goal.returns-in-Ok
returns-in-Ok c = inl (c.in-Ok.ensures, rw (sym c.codec.ensures) c.read_node.ensures)
