-- What a handle owns.
use Rattle.std.specs.Prelude.{Option, Some, None}
use Rattle.std.specs.Coded.{coded_option}
use Rattle.std.specs.Box.Ownership.{box_owns}
use Rattle.std.specs.Global.{Global}
use Rattle.std_heap.specs.contracts.GlobalAllocator.TheImpl.{ghosts}
use base.Fml.{Fml, ftrue}
use base.Stored.{Coded}
use denote.RawPtr.{Ptr}
use Rattle.kombilad_c.specs.contracts.held.Held.{the_row}

-- the heap of the C library
abbrev pub heap : Global
heap = record { memory = record { seal = tt } }

-- what is at a place, and the right to free its memory
abbrev pub place_owns : Ptr → Option the_row.Denot → Fml
place_owns at None = ftrue
place_owns at (Some held) = box_owns (ghosts.dealloc_token heap) the_row at held

abbrev pub held_coded : Coded (Option the_row.Denot)
held_coded = coded_option the_row.coded
