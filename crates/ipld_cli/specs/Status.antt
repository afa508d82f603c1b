-- The outcomes of commands, and their exit status.
use Rattle.std.specs.Prelude.{ℕ}
use Rattle.std.specs.declared.io.ErrorKind.TheVariants.{BrokenPipe}
use Rattle.ipld_show.specs.declared.error.ShowError.{ShowError}
use Rattle.ipld_show.specs.declared.error.ShowError.TheVariants.{Memory, Write}
use Rattle.ipld_cli.specs.declared.messages.outcome.Outcome.{Outcome}
use Rattle.ipld_cli.specs.declared.messages.outcome.Outcome.TheVariants.{Done, NotSo, Failed, NotRead}

-- The exit status for an outcome: 0 if the command was done or nobody reads the rest, 1 if a check
-- failed, and 2 if the command failed.
abbrev pub status_of : Outcome → ℕ
status_of Done = 0
status_of NotSo = 1
status_of Failed = 2
status_of NotRead = 0

-- The outcome of a command with this error: `NotRead` if nobody reads the output, `Failed` if the
-- writer or an allocation failed, and otherwise `NotSo`.
abbrev pub outcome_of : ShowError → Outcome
outcome_of (Write BrokenPipe) = NotRead
outcome_of (Write kind) = Failed
outcome_of Memory = Failed
outcome_of error = NotSo
