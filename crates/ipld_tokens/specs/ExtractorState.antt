-- This file defines the state of the extractor, and specifies its steps.
use Rattle.std.specs.Prelude.{◌≡◌, ℕ, Bool, true, false, List, [], ◌∷◌, ◌++◌, map, reverse, Result, Ok, Err}
use Rattle.ipld_cid.specs.Cid.{Link}
use Rattle.ipld_cid.specs.LinkOf.{link_of}
use Rattle.ipld_cid.specs.Bytes.{read_cid}
use Rattle.ipld_tokens.specs.Token.{TokenModel}
use Rattle.ipld_tokens.specs.ConsumerMachine as consuming
use Rattle.ipld_tokens.specs.ExtractMachine.{ExtractState, open_at, marked, done, rejected, kept, step, IsElsewhere, IsLinkError, AddsLink, Allocates}
use Rattle.ipld_tokens.specs.declared.extractor.Frame.{Frame}
use Rattle.ipld_tokens.specs.declared.extractor.Phase.{Phase}
use Rattle.ipld_tokens.specs.declared.extractor.Phase.TheVariants.{Item, ItemOrEnd, LinkBytes, Ended}
use Rattle.ipld_tokens.specs.declared.consumer.Rejection.{Rejection}
use Rattle.ipld_tokens.specs.declared.consumer.Rejection.TheVariants as rejection
use Rattle.ipld_tokens.specs.declared.extractor.Extractor.{Extractor}

-- the frames outside the innermost, innermost first
abbrev pub outer_of : {S : ℕ} → Extractor S → List Frame
outer_of e = reverse e.outer.items

abbrev pub links_found : {S : ℕ} → Extractor S → List Link
links_found e = map link_of e.links.items

abbrev pub in_phase : Phase → Bool → Frame → List Frame → List Link → ExtractState
in_phase Item keeps f outer out = open_at true keeps f outer out
in_phase ItemOrEnd keeps f outer out = open_at false keeps f outer out
in_phase LinkBytes keeps f outer out = marked keeps f outer out
in_phase Ended keeps f outer out = done out

abbrev pub state_of : {S : ℕ} → Extractor S → ExtractState
state_of e = in_phase e.phase e.keeps e.frame (outer_of e) (links_found e)

-- True if a successful call appends the link (if links are kept), and leaves `keeps` and the frames
-- unchanged. The only error is `Memory`, and only if links are kept.
abbrev pub Keeps : {A : Type 0} {S : ℕ} → Extractor S → Link → Extractor S → Result A Rejection → Type 0
Keeps before cid after (Ok u) =
    (after.keeps ≡ before.keeps) × (after.frame ≡ before.frame) × (outer_of after ≡ outer_of before)
    × (links_found after ≡ links_found before ++ kept before.keeps (cid ∷ []))
Keeps before cid after (Err rejection.Memory) = before.keeps ≡ true
Keeps before cid after (Err rejection.Token) = ⊥
Keeps before cid after (Err (rejection.Cid cid_error)) = ⊥
Keeps before cid after (Err rejection.DuplicateKey) = ⊥

-- True if a successful call leads to the expected state, and a failed one returns `Token` if the
-- expected state is rejected, or `Memory` if `out_of_memory` holds.
abbrev pub Follows : {A : Type 0} → Type 0 → ExtractState → ExtractState → Result A Rejection → Type 0
Follows out_of_memory expected after (Ok u) = after ≡ expected
Follows out_of_memory expected after (Err rejection.Memory) = out_of_memory
Follows out_of_memory expected after (Err rejection.Token) = expected ≡ rejected
Follows out_of_memory expected after (Err (rejection.Cid cid_error)) = ⊥
Follows out_of_memory expected after (Err rejection.DuplicateKey) = ⊥

-- True if a successful call leads to the expected state. A failed one returns the error of reading
-- the bytes as a CID if the expected state is rejected, or `Memory` if `AddsLink` holds.
abbrev pub Reads : {A : Type 0} → ℕ → Bool → List ℕ → ExtractState → ExtractState → Result A Rejection → Type 0
Reads S keeps bytes expected after (Ok u) = after ≡ expected
Reads S keeps bytes expected after (Err rejection.Memory) = AddsLink S keeps bytes
Reads S keeps bytes expected after (Err rejection.Token) = ⊥
Reads S keeps bytes expected after (Err (rejection.Cid cid_error)) = (expected ≡ rejected) × (read_cid S bytes ≡ Err cid_error)
Reads S keeps bytes expected after (Err rejection.DuplicateKey) = ⊥

-- True if the rejection is possible for the token `t` in the state `before`.
abbrev pub Rejects : ℕ → ExtractState → TokenModel → Rejection → Type 0
Rejects S before t rejection.Memory = Allocates S before t
Rejects S before t rejection.Token = (step S before t ≡ rejected) × IsElsewhere before t
Rejects S before t (rejection.Cid cid_error) = (step S before t ≡ rejected) × IsLinkError S before t cid_error
Rejects S before t rejection.DuplicateKey = ⊥

-- True if a successful call leads to the machine's state after the token, and a failed one returns
-- a possible rejection.
abbrev pub Takes : {A : Type 0} → ℕ → ExtractState → TokenModel → ExtractState → Result A Rejection → Type 0
Takes S = consuming.Takes (step S) (Rejects S)
