use Rattle.json.specs.Reads.{token_of}
use Rattle.dag_json.specs.Building.{state_of}
use Rattle.dag_json.proofs.Stopping.{next_passed}
use Rattle.dag_json.proofs.decode.read_tokens.Goals as goal

pub loop-token-preserved : goal.loop-token-preserved
loop-token-preserved c = (
  next_passed c.args.floats c.args.limits.now c.args.reader.now c.loop-token.taken (state_of c.loop-token.builder) (state_of c.take_token.new.self) (token_of c.in-Some.token) c.loop-token.reader c.next.new.self
      c.loop-token.invariant.0 c.in-Some.ensures.value c.in_default-take_token.ensures.0 c.in_default-take_token.ensures.1,
  c.is_unfinished-unfinished-in-Some.ensures,
)
