use Rattle.std.proofs.Common.{ap, Some, option_map}
use Rattle.ipld_links_run.proofs.TokenLineLemmas.{number_parsed, number_is, number_is_none}
use Rattle.ipld_links_run.proofs.token_line.parse_hint.Goals as goal

pub returns-in-Ok : goal.returns-in-Ok
returns-in-Ok c = ap (option_map Some) (number_is _ _ _ c.in-Ok.is (number_parsed 64 _ _ c.parse.ensures.value.0))

pub returns-in-Err : goal.returns-in-Err
returns-in-Err c = ap (option_map Some) (number_is_none _ _ _ c.in-Err.is (number_parsed 64 _ _ c.parse.ensures.value.0))
