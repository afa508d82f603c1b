use Rattle.std.proofs.Common.{ap}
use Rattle.ipld_links_run.specs.TokenLine.{plain_token, plain_lines}
use Rattle.ipld_links_run.proofs.TokenLineLemmas.{not_among}
use Rattle.ipld_links_run.proofs.token_line.plain_token.Goals as goal

pub returns-in-none : goal.returns-in-none
unfolding plain_token
returns-in-none c = ap plain_token c.in-none.is

pub returns-in-unit : goal.returns-in-unit
unfolding plain_token
returns-in-unit c = ap plain_token c.in-unit.is

pub returns-in-unitstruct : goal.returns-in-unitstruct
unfolding plain_token
returns-in-unitstruct c = ap plain_token c.in-unitstruct.is

pub returns-in-some : goal.returns-in-some
unfolding plain_token
returns-in-some c = ap plain_token c.in-some.is

pub returns-in-link : goal.returns-in-link
unfolding plain_token
returns-in-link c = ap plain_token c.in-link.is

pub returns-in-seq : goal.returns-in-seq
unfolding plain_token
returns-in-seq c = ap plain_token c.in-seq.is

pub returns-in-seqend : goal.returns-in-seqend
unfolding plain_token
returns-in-seqend c = ap plain_token c.in-seqend.is

pub returns-in-map : goal.returns-in-map
unfolding plain_token
returns-in-map c = ap plain_token c.in-map.is

pub returns-in-mapend : goal.returns-in-mapend
unfolding plain_token
returns-in-mapend c = ap plain_token c.in-mapend.is

pub returns-in_default : goal.returns-in_default
unfolding plain_token
returns-in_default c =
    let d = c.in_default in
    not_among _ plain_lines (d.not-none, (d.not-unit, (d.not-unitstruct, (d.not-some, (d.not-link, (d.not-seq, (d.not-seqend, (d.not-map, (d.not-mapend, tt)))))))))
