use Rattle.std.proofs.Common.{◌≡◌}
use Rattle.dag_cbor_blocks.specs.Position.{steps_left}
use Rattle.dag_cbor_blocks.specs.Reader.{next_of}
use Rattle.dag_cbor_blocks.specs.declared.reader.TokenStage.TheVariants.{Inside}
use Rattle.dag_cbor_blocks.proofs.reader.Reader.read_part.Given as goal

-- the same comes next, and no hint was given
abbrev pub invariant-loop-self : goal.invariant-loop-self
invariant-loop-self l = (l.self.stage ≡ Inside) × (next_of l.fn.self ≡ next_of l.self) × (l.self.position.uncounted ≡ l.fn.self.position.uncounted)

abbrev pub decreases-loop-self : goal.decreases-loop-self
decreases-loop-self l = steps_left l.self.position
