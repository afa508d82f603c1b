use Rattle.std.proofs.Common.{◌≡◌, ◌+◌, map, drop}
use Rattle.dag_pb.specs.Views.{parts_of_link}
use Rattle.dag_pb.specs.Writing.{misplaced_link, misplaced_after}
use Rattle.dag_pb.proofs.writer.misplaced_link.Given as goal

-- no link so far precedes the one before it
abbrev pub invariant-loop-index : goal.invariant-loop-index
invariant-loop-index l = misplaced_after (l.index + 1) (parts_of_link l.before) (map parts_of_link (drop l.index l.rest)) ≡ misplaced_link (map parts_of_link l.links)
