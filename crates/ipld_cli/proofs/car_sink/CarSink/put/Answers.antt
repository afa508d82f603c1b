use Rattle.std.proofs.Common.{rules}
use Rattle.ipld_cli.specs.NewCar.{block_of}
use Rattle.ipld_cli.proofs.NewCars.{puts_block}
use Rattle.ipld_cli.proofs.car_sink.CarSink.put.Goals as goal

pub returns-clause-put : goal.returns-clause-put
returns-clause-put g c =
    puts_block _ _ _ _ (block_of c.args.block.now) c.args.block.now.checked
    (rw (c.cid-cid.ensures, c.bytes-bytes.ensures) at c.in_ok-write_section.ensures.written)
    (search rules)
    (rw (c.hash.ensures, c.cid-cid.ensures) at c.in_ok-keep_entry.ensures)
