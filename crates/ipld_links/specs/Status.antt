-- The exit status of a run.
use Rattle.std.specs.Prelude.{ℕ}
use Rattle.ipld_links_run.specs.declared.status.Status.{Status}
use Rattle.ipld_links_run.specs.declared.status.Status.TheVariants.{Done, Refused, NotUnderstood}

abbrev pub code_of : Status → ℕ
code_of Done = 0
code_of Refused = 1
code_of NotUnderstood = 2
