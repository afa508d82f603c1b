-- The state words after whole blocks of a message.
use Rattle.std.specs.Prelude.{◌≡◌, ◌/◌, ◌%◌, ◌^◌, ℕ, List, length}
use Rattle.blake2b.specs.Blake2b.{state_after}
use Rattle.blake2b.specs.declared.chain.Chain.{Chain}

-- True if the chain, begun from the state `initial`, has compressed exactly these bytes: whole
-- blocks, none of which is the last.
pub record IsAfter (initial : List ℕ) (chain : Chain) (bytes : List ℕ) : Type 0 where
  pub whole : length bytes % 128 ≡ 0
  pub state : chain.state ≡ state_after initial bytes (length bytes / 128)
  pub counted : chain.count ≡ length bytes % 2 ^ 128
