use Rattle.std.proofs.Common.{sym, ◌∙◌}
use Rattle.car_files.proofs.verify.write_reason.Goals as goal

pub returns-in_ok-writeln-in-WrongDigest-clause-written : goal.returns-in_ok-writeln-in-WrongDigest-clause-written
returns-in_ok-writeln-in-WrongDigest-clause-written g c =
    rw (c.in-WrongDigest.is, sym c.is_truncated.ensures ∙ c.if-is_truncated.true) (rw (c.size-len.ensures, c.hash.ensures) at c.in_ok-writeln-in-WrongDigest.ensures.bytes)

pub returns-in_ok-write_all-in-WrongDigest-2-clause-written : goal.returns-in_ok-write_all-in-WrongDigest-2-clause-written
returns-in_ok-write_all-in-WrongDigest-2-clause-written g c =
    rw (c.in-WrongDigest-2.is, sym c.is_truncated.ensures ∙ c.if-is_truncated.false) c.in_ok-write_all-in-WrongDigest-2.ensures.bytes
