-- The end of a run that reads all of its input: its last line and its status.
use Rattle.std.specs.Prelude.{ℕ, List, ◌++◌, codes, decimal}
use Rattle.ipld_links_run.specs.declared.status.Status.{Status}
use Rattle.ipld_links_run.specs.declared.status.Status.TheVariants.{Done, Refused, NotUnderstood}

-- the number of texts that were written, the name of the error of rejected input, or the number of
-- a line, counted from 1, that is not understood
pub data Verdict : Type 0 where
  done : ℕ → Verdict
  refused : List ℕ → Verdict
  bad_line : ℕ → Verdict

abbrev pub last_line : Verdict → List ℕ
last_line (done texts) = codes "ok " ++ decimal texts
last_line (refused name) = codes "refused " ++ name
last_line (bad_line number) = codes "bad line " ++ decimal number

abbrev pub status_of : Verdict → Status
status_of (done texts) = Done
status_of (refused name) = Refused
status_of (bad_line number) = NotUnderstood
