use Rattle.std.proofs.Common.{arith}
use Rattle.unixfs.proofs.Fields.{bytes_fit}
use Rattle.unixfs.proofs.time.read_mtime.Goals as goal

pub time_in-requires : goal.time_in-requires
time_in-requires c = bytes_fit c.args.bytes.now _ c.in_ok-found.rest.now (omega arith) c.in_ok-found.ensures.exact
