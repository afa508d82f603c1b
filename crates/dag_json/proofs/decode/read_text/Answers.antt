use Rattle.std.proofs.Common.{◌≡◌, ◌⊎◌, ap, subst, ◌∙◌, length, arith}
use Rattle.json.specs.Lex.{tokens}
use Rattle.dag_json.specs.Offset.{StopsBehind}
use Rattle.dag_json.specs.Seek.{seek, first_walk}
use Rattle.dag_json.specs.declared.read_error.ReadErrorKind.TheVariants.{Memory}
use Rattle.dag_json.proofs.Stopping.{tokens_within, stopped_error, says_where}
use Rattle.dag_json.proofs.decode.read_text.Goals as goal

pub read_tokens-requires : goal.read_tokens-requires
read_tokens-requires c =
    let all = ap length c.in-Ok.ensures.ok in
    let few = tokens_within c.args.text.now in
    omega arith

pub returns-in-Ok-clause-exact : goal.returns-in-Ok-clause-exact
returns-in-Ok-clause-exact c =
    let stop = c.in-Err-read_tokens.stop in
    stopped_error c.args.floats c.args.limits.now (tokens c.args.text.now) stop
    (subst (λ ts. (stop.kind ≡ Memory) ⊎ StopsBehind c.args.floats c.args.limits.now ts stop) c.in-Ok.ensures.ok c.in-Err-read_tokens.ensures)

pub returns-in-Ok-clause-stopped : goal.returns-in-Ok-clause-stopped
returns-in-Ok-clause-stopped c =
    let stop = c.in-Err-read_tokens.stop in
    let same = ap length c.as_bytes.ensures.value in
    let within = c.token_offset.ensures.within in (
      omega arith,
      says_where c.args.floats c.args.limits.now c.args.text.now stop c.token_offset.result
          (c.token_offset.ensures.value ∙ ap (seek stop.unfinished (first_walk stop.taken)) c.as_bytes.ensures.value)
          (subst (λ ts. (stop.kind ≡ Memory) ⊎ StopsBehind c.args.floats c.args.limits.now ts stop) c.in-Ok.ensures.ok c.in-Err-read_tokens.ensures),
    )
