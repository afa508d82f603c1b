-- A message that comes in pieces.
use Rattle.std.specs.Prelude.{◌≡◌, ◌++◌, ℕ, List, []}
use Rattle.blake2b.specs.Chain.{IsAfter}
use Rattle.blake2b.specs.declared.state.State.{State}

-- True if the state, begun from the state words `initial`, holds exactly this message: it has
-- compressed the blocks before the last, and the buffer has the bytes of the last block. Only the
-- empty message has none in its last block.
pub record Holds (initial : List ℕ) (state : State) (message : List ℕ) : Type 0 where
  pub before : List ℕ
  pub compressed : IsAfter initial state.chain before
  pub parts : message ≡ before ++ state.last
  pub some : state.last ≡ [] → before ≡ []
