use Rattle.std.proofs.Common.{arith}
use Rattle.dag_cbor_tape.proofs.Told.{told, told_only}
use Rattle.dag_cbor_tape.proofs.encode.encode_tape.Goals as goal

pub returns-clause-found : goal.returns-clause-found
returns-clause-found c =
    told c.args.contents.now c.args.entries.now c.write_block.result (λ i. omega (arith, c.type_inv.contents i)) c.write_block.ensures.found c.write_block.ensures.ordered

pub returns-clause-only : goal.returns-clause-only
returns-clause-only c item written d =
    told_only c.args.contents.now c.args.entries.now item written c.write_block.result d c.write_block.ensures.ordered c.write_block.ensures.exact
