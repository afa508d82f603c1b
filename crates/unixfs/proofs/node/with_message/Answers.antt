use Rattle.std.proofs.Common.{ap, option_map, Option, Bor, List, ℕ}
use Rattle.unixfs.proofs.Nodes.{message_is}
use Rattle.unixfs.proofs.node.with_message.Goals as goal

pub returns-in-Ok-clause-only : goal.returns-in-Ok-clause-only
returns-in-Ok-clause-only c = λ d has.
    c.in-Ok.ensures.only d (message_is c.in-Some.message.now (option_map (λ (x : Bor (List ℕ)). x.now) c.args.data) d (ap (λ (o : Option (Bor (List ℕ))). option_map (λ (x : Bor (List ℕ)). x.now) o) c.in-Some.is) has)

pub returns-clause-only : goal.returns-clause-only
returns-clause-only c = λ d has.
    c.in-Err.ensures.only d (message_is c.in-Some.message.now (option_map (λ (x : Bor (List ℕ)). x.now) c.args.data) d (ap (λ (o : Option (Bor (List ℕ))). option_map (λ (x : Bor (List ℕ)). x.now) o) c.in-Some.is) has)
