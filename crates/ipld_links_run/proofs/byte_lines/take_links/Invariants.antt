use Rattle.std.proofs.Common.{◌≡◌, ◌++◌}
use Rattle.ipld_codec.specs.LinkIter.{cids_left}
use Rattle.ipld_links_run.proofs.byte_lines.take_links.Given as goal

-- the links so far, and those that follow
abbrev pub invariant-loop-link : goal.invariant-loop-link
invariant-loop-link l = l.found.items ++ cids_left l.link-iterator ≡ cids_left l.fn.links
