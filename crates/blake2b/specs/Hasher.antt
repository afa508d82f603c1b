-- What a contract states of a hasher.
use Rattle.std.specs.Prelude.{ℕ, List}
use Rattle.blake2b.specs.Blake2b.{initial_state}
use Rattle.blake2b.specs.State.{Holds}
use Rattle.blake2b.specs.declared.hasher.Blake2b.{Blake2b}

-- True if the hasher, of digests of nn bytes, has taken in exactly this message, in whatever pieces.
abbrev pub HasAbsorbed : (nn : ℕ) → Blake2b nn → List ℕ → Type 0
HasAbsorbed nn hasher message = Holds (initial_state nn) hasher.state message
