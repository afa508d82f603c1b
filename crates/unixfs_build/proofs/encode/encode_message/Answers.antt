use Rattle.std.proofs.Common.{ℕ, Option, ap, sym, subst}
use Rattle.std.specs.Prelude.{option_map}
use Rattle.unixfs.specs.Views.{parts_of_time}
use Rattle.unixfs.specs.declared.data.UnixTime.{UnixTime}
use Rattle.unixfs_build.specs.Faults.{IsEncodeFault}
use Rattle.unixfs_build.specs.declared.error.BuildError.TheVariants.{Nanoseconds}
use Rattle.unixfs_build.proofs.Encoding.{message_is, time_fault}
use Rattle.unixfs_build.proofs.encode.encode_message.Goals as goal

pub returns-in-Ok-clause-exact : goal.returns-in-Ok-clause-exact
returns-in-Ok-clause-exact c = message_is _ c.in-Ok.bytes.items c.in-Ok.ensures.exact

pub returns-in-Err-Nanoseconds-clause-fault : goal.returns-in-Err-Nanoseconds-clause-fault
returns-in-Err-Nanoseconds-clause-fault c = λ attributes same.
    subst (λ (n : ℕ). IsEncodeFault attributes (Nanoseconds n)) (sym c.in-Err-Nanoseconds.count-is)
    (time_fault attributes _ c.in-Err-Nanoseconds.field-0 c.in-Err-Nanoseconds.count (ap (λ (t : Option UnixTime). option_map parts_of_time t) (sym same)) c.in-Err-Nanoseconds.field-0-is c.in-Err-Nanoseconds.ensures.exact)
