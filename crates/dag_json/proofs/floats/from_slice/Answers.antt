use Rattle.std.proofs.Common.{true, subst}
use Rattle.json.specs.Lex.{tokens}
use Rattle.dag_json.specs.ReadContract.{Reads}
use Rattle.dag_json.specs.Lemmas.Reading.{encodes_read, only_read}
use Rattle.dag_json.proofs.floats.from_slice.Goals as goal

pub returns-in-Ok-clause-found : goal.returns-in-Ok-clause-found
returns-in-Ok-clause-found c =
    let same = c.in-Ok.ensures.cases in
    encodes_read true c.args.limits.now c.args.bytes.now c.read_text.result same.1 (subst (λ s. Reads true c.args.limits.now (tokens s) c.read_text.result) same.0 c.read_text.ensures.exact)

pub returns-in-Ok-clause-only : goal.returns-in-Ok-clause-only
returns-in-Ok-clause-only c =
    let same = c.in-Ok.ensures.cases in
    only_read true c.args.limits.now c.args.bytes.now c.read_text.result (subst (λ s. Reads true c.args.limits.now (tokens s) c.read_text.result) same.0 c.read_text.ensures.exact)
