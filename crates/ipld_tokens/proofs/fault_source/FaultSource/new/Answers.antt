use Rattle.std.proofs.Common.{rules}
use Rattle.ipld_tokens.proofs.fault_source.FaultSource.new.Goals as goal

pub returns-clause-tokens : goal.returns-clause-tokens
returns-clause-tokens c = search rules

pub returns-clause-hints : goal.returns-clause-hints
returns-clause-hints c = search rules

pub returns-clause-calls : goal.returns-clause-calls
returns-clause-calls c = search rules

pub returns-clause-not_stopped : goal.returns-clause-not_stopped
returns-clause-not_stopped c = search rules
