use Rattle.std.proofs.Common.{arith}
use Rattle.unixfs.specs.Views.{parts_of}
use Rattle.unixfs.proofs.Messages.{data_sound, fields_complete, error_told, only_memory, message_told, only_message}
use Rattle.unixfs.proofs.reader.read_data.Goals as goal

pub returns-in-Ok-clause-exact : goal.returns-in-Ok-clause-exact
returns-in-Ok-clause-exact c = message_told c.args.bytes.now (parts_of c.in-Ok.found) c.in-Ok.ensures.exact

pub returns-in-Ok-clause-found : goal.returns-in-Ok-clause-found
returns-in-Ok-clause-found c = data_sound c.args.bytes.now (parts_of c.in-Ok.found) (λ i. omega (arith, c.type_inv.bytes i)) (returns-in-Ok-clause-exact c)

pub returns-in-Ok-clause-only : goal.returns-in-Ok-clause-only
returns-in-Ok-clause-only c = λ d is. only_message c.args.bytes.now (parts_of c.in-Ok.found) d (returns-in-Ok-clause-exact c) is

pub returns-in-Err-clause-exact : goal.returns-in-Err-clause-exact
returns-in-Err-clause-exact c = error_told c.args.bytes.now c.in-Err.fault c.in_message.result c.in_message.ensures (omega arith) c.in-Err.ensures.exact

pub returns-in-Err-clause-only : goal.returns-in-Err-clause-only
returns-in-Err-clause-only c = λ d is. only_memory c.args.bytes.now d c.in_message.result is (returns-in-Err-clause-exact c)

pub returns-in-Err-clause-no_sizes : goal.returns-in-Err-clause-no_sizes
returns-in-Err-clause-no_sizes c = λ d is none. c.in-Err.ensures.no_sizes d (fields_complete c.args.bytes.now d is) none
