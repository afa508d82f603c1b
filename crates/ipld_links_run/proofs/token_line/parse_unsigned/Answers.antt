use Rattle.ipld_links_run.proofs.TokenLineLemmas.{number_parsed, number_is, number_is_none}
use Rattle.ipld_links_run.proofs.token_line.parse_unsigned.Goals as goal

pub returns-in-Ok : goal.returns-in-Ok
returns-in-Ok c = number_is _ _ _ c.in-Ok.is (number_parsed 128 _ _ c.parse.ensures.value.0)

pub returns-in-Err : goal.returns-in-Err
returns-in-Err c = number_is_none _ _ _ c.in-Err.is (number_parsed 128 _ _ c.parse.ensures.value.0)
