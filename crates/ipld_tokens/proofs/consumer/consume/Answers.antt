use Rattle.std.proofs.Common.{◌∙◌}
use Rattle.ipld_tokens.proofs.Consuming.{taken}
use Rattle.ipld_tokens.proofs.consumer.consume.Goals as goal

pub loop-source-preserved : goal.loop-source-preserved
loop-source-preserved g c =
    let source = g.T.TokenSource in
    let machine = g.C.TokenConsumer in
    let before = c.loop-source.invariant.reached in
    record {
      reached = taken machine.next_state machine.goes_on machine.rejects (machine.state c.args.consumer) (source.remaining c.args.source.now) before.0
          (source.remaining c.loop-source.source) (source.remaining c.advance.new.source) (machine.state c.loop-source.consumer) (machine.state c.advance.new.consumer)
          before.1 before.2 c.in_ok-advance.ensures.advances;
      not_failed = c.in_ok-advance.ensures.failed;
      origin = c.advance.ensures.origin ∙ c.loop-source.invariant.origin;
    }
