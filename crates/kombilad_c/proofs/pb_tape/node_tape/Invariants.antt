use Rattle.std.proofs.Common.{◌≡◌, length}
use Rattle.kombilad_c.specs.PbTape.{joined, links_at, entries_of}
use Rattle.kombilad_c.proofs.pb_tape.node_tape.Given as goal

abbrev pub invariant-loop-link : goal.invariant-loop-link
invariant-loop-link l = joined (entries_of l.tape) (links_at l.rest) ≡ links_at l.spans.links.items

abbrev pub decreases-loop-link : goal.decreases-loop-link
decreases-loop-link l = length l.rest
