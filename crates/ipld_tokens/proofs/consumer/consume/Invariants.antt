use Rattle.std.proofs.Common.{◌≡◌, ◌++◌, false, List, length}
use Rattle.ipld_tokens.specs.Token.{TokenModel}
use Rattle.ipld_tokens.specs.ConsumerMachine.{run}
use Rattle.ipld_tokens.proofs.consumer.consume.Given as goal

abbrev pub invariant-loop-source : goal.invariant-loop-source
invariant-loop-source g l =
    let source = g.T.TokenSource in
    let machine = g.C.TokenConsumer in
    record {
      reached : (p : List TokenModel) × (source.remaining l.fn.source ≡ p ++ source.remaining l.source) × (run machine.next_state (machine.state l.fn.consumer) p ≡ machine.state l.consumer);
      not_failed : source.failed l.source ≡ false;
      origin : source.origin l.source ≡ source.origin l.fn.source;
    }

abbrev pub decreases-loop-source : goal.decreases-loop-source
decreases-loop-source g l = length (g.T.TokenSource.remaining l.source)
