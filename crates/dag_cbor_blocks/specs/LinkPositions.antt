-- The links that a finder has counted and their positions, and those among events.
use Rattle.std.specs.Prelude.{ℕ, ◌+◌, Bool, true, false, List, [], length, map, ◌++◌}
use Rattle.dag_cbor_format.specs.Found.{links_among}
use Rattle.dag_cbor_format.specs.Trace.{Event, Position, tokens_in, positions_among}
use Rattle.dag_cbor_blocks.specs.declared.link_position.LinkPosition.{LinkPosition}
use Rattle.dag_cbor_blocks.specs.declared.link_position.PositionFinder.{PositionFinder}

-- the model of a position
abbrev pub position_of : LinkPosition → Position
position_of p = (p.offset, p.length)

-- positions, if they are kept
abbrev pub kept : Bool → List Position → List Position
kept true ps = ps
kept false ps = []

-- the number of links that a finder has and that are among events, and the positions that it has,
-- and those among events if it keeps them
abbrev pub found_with : PositionFinder → List Event → ℕ × List Position
found_with finder events =
    (finder.count + length (links_among (tokens_in events)), map position_of finder.positions.items ++ kept finder.is_keeping (positions_among finder.size events))
