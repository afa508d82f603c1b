-- This file specifies the steps of a reader of trees.
use Rattle.std.specs.Prelude.{◌≡◌, ℕ, List, IsSome, Result, Ok, Err, MatchResult}
use Rattle.ipld_cid.specs.Bytes.{read_cid}
use Rattle.ipld_tree.specs.TreeOf.{tree_of}
use Rattle.ipld_tree.specs.declared.ipld.Ipld.{Ipld}
use Rattle.ipld_tokens.specs.LinkBytes.{read_link}
use Rattle.ipld_tokens.specs.Token.{TokenModel}
use Rattle.ipld_tokens.specs.ReadMachine as reading
use Rattle.ipld_tokens.specs.ReadMachine.{ReadState, done, rejected, bad_token, bad_cid, repeated_key, completed, after_link, step, Allocates}
use Rattle.ipld_tokens.specs.declared.consumer.Rejection.{Rejection}
use Rattle.ipld_tokens.specs.declared.consumer.Rejection.TheVariants as rejection
use Rattle.ipld_tokens.specs.declared.open_tree.BuildError.{BuildError}
use Rattle.ipld_tokens.specs.declared.open_tree.BuildError.TheVariants as error

-- True if the rejection is that of the expected state, or is `Memory` and `out_of_memory` holds.
abbrev pub Fails : Type 0 → ReadState → Rejection → Type 0
Fails out_of_memory expected rejection.Memory = out_of_memory
Fails out_of_memory expected rejection.Token = expected ≡ rejected bad_token
Fails out_of_memory expected (rejection.Cid cid_error) = expected ≡ rejected (bad_cid cid_error)
Fails out_of_memory expected rejection.DuplicateKey = expected ≡ rejected repeated_key

-- True if a successful call leads to the expected state, and a failed one returns the rejection of
-- the expected state, or `Memory` if `out_of_memory` holds.
abbrev pub Follows : {A : Type 0} → Type 0 → ReadState → ReadState → Result A Rejection → Type 0
Follows out_of_memory expected after result = MatchResult result (λ _. after ≡ expected) (Fails out_of_memory expected)

-- True if the rejection is possible for the token `t` in the state `s`.
abbrev pub Rejects : ReadState → TokenModel → Rejection → Type 0
Rejects s t = Fails (Allocates s t) (step s t)

-- True if the state is complete, with the tree of `v`.
abbrev pub HasTree : ReadState → Ipld → Type 0
HasTree s v = s ≡ done (tree_of v)

-- the rejection of a token, from the error of putting its part into the tree
abbrev pub rejection_of : BuildError → Rejection
rejection_of error.Memory = rejection.Memory
rejection_of error.Misplaced = rejection.Token
rejection_of error.DuplicateKey = rejection.DuplicateKey

-- True if the result is the link that the bytes encode, or the error of reading them as a CID.
abbrev pub MakesLink : List ℕ → Result Ipld Rejection → Type 0
MakesLink b (Ok v) = IsSome (read_link 64 b) × ((ls : List reading.Container) → after_link (read_link 64 b) (read_cid 64 b) ls ≡ completed (tree_of v) ls)
MakesLink b (Err rejection.Memory) = ⊥
MakesLink b (Err rejection.Token) = ⊥
MakesLink b (Err (rejection.Cid cid_error)) = (ls : List reading.Container) → after_link (read_link 64 b) (read_cid 64 b) ls ≡ rejected (bad_cid cid_error)
MakesLink b (Err rejection.DuplicateKey) = ⊥
