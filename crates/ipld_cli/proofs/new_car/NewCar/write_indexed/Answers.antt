use Rattle.std.proofs.Common.{rules, ◌≡◌, ◌+◌, map, subst}
use Rattle.std.specs.Io.KnownBytes.{Appends}
use Rattle.std.specs.List.Sorted.{IsPermutation}
use Rattle.ipld_cid.specs.LinkOf.{link_of}
use Rattle.ipld_car.specs.CarHeader.{header_bytes}
use Rattle.ipld_car.specs.IndexGrouping.{entries_in, indexed}
use Rattle.ipld_cli.specs.NewCar.{new_blocks, state_of}
use Rattle.ipld_cli.proofs.NewCars.{indexed_written}
use Rattle.ipld_cli.proofs.new_car.NewCar.write_indexed.Goals as goal

pub returns : goal.returns
returns g c =
    let contents = g.W.Write.contents in
    let old = contents c.args.writer in
    let begun = contents c.write_header.new.writer in
    let sunk = contents c.in_ok-written.written in
    let size = c.in-Some.size in
    let index = c.in_ok-index.index in
    let first = subst (λ n. Appends old begun (header_bytes (record { is_fully_indexed = c.args.self.now.is_fully_indexed; payload = 51; size = size; index = n })))
    c.in-Some-checked_add.ensures.1 c.in_ok-write_header.ensures in
    let ends : size ≡ c.in_ok-begin.begin + c.args.self.now.size = search rules in
    let same = subst (λ rows. IsPermutation (indexed rows) (entries_in index)) c.in_ok-written.ensures.1 c.in_ok-index.ensures.same in
    indexed_written (new_blocks g.B.BlockSource.cids g.B.BlockSource.unchecked c.args.self.now) old begun sunk (contents c.write_to.new.writer) (contents c.flush.new.self) (map link_of c.args.self.now.roots.now)
    c.in_ok-begin.begin size (state_of contents c.in_ok-write_payload.field-0) index c.args.self.now.is_fully_indexed
    c.in_ok-begin.ensures first c.in_ok-write_payload.ensures ends c.in_ok-written.ensures.0
    same c.in_ok-index.ensures.sorted c.in_ok-index.ensures.grouped c.in_ok-index.ensures.split
    c.in_ok-write_to.ensures c.in_ok-flush.ensures.bytes
