-- This file defines the state machine that extracts links: the state after a token, and the tokens
-- that need memory.
use Rattle.std.specs.Prelude.{◌≡◌, ◌≤◌, ◌^◌, ◌⊎◌, ℕ, Bool, true, false, List, [], ◌∷◌, ◌++◌, Option, Some, None, IsSome, Err}
use Rattle.ipld_cid.specs.declared.error.CidError.{CidError}
use Rattle.ipld_cid.specs.Cid.{Link}
use Rattle.ipld_cid.specs.Bytes.{read_cid}
use Rattle.ipld_tokens.specs.LinkBytes.{read_link}
use Rattle.ipld_tokens.specs.ConsumerMachine as consuming
use Rattle.ipld_tokens.specs.Token.{TokenModel, atom, bytes, some, variant, link, seq, seq_end, map, map_end}
use Rattle.ipld_tokens.specs.declared.extractor.Frame.{Frame}
use Rattle.ipld_tokens.specs.declared.extractor.Frame.TheVariants.{Whole, Key, InnerKey, Value}
use Rattle.ipld_tokens.specs.declared.extractor.Frame.TheVariants as frame

-- the states of the machine that the extractor follows, private to the proofs of the contracts. The
-- open containers are a frame and the frames outside it, innermost first. Links are kept if no key
-- is open.
pub data ExtractState : Type 0 where
  -- an item may come, or the end of a list or a map unless an item must come
  open_at : Bool → Bool → Frame → List Frame → List Link → ExtractState
  -- the bytes of a link must come
  marked : Bool → Frame → List Frame → List Link → ExtractState
  -- an item is complete
  done : List Link → ExtractState
  rejected : ExtractState

abbrev pub kept : Bool → List Link → List Link
kept true links = links
kept false links = []

-- the frame of a key: `Key` in a map whose own links are kept, otherwise `InnerKey`
abbrev pub key_frame : Bool → Frame
key_frame true = Key
key_frame false = InnerKey

-- the state after an item is complete in a frame
abbrev pub closed : Bool → Frame → List Frame → List Link → ExtractState
closed keeps Whole outer out = done out
closed keeps frame.List outer out = open_at false keeps frame.List outer out
closed keeps Key outer out = open_at false true Value outer out
closed keeps InnerKey outer out = open_at false false Value outer out
closed keeps Value outer out = open_at false false (key_frame keeps) outer out

-- the state after a list or a map is complete inside these frames
abbrev pub ended : Bool → List Frame → List Link → ExtractState
ended keeps [] out = rejected
ended keeps (f ∷ fs) out = closed keeps f fs out

abbrev pub list_ended : Bool → Frame → List Frame → List Link → ExtractState
list_ended keeps Whole outer out = rejected
list_ended keeps frame.List outer out = ended keeps outer out
list_ended keeps Key outer out = rejected
list_ended keeps InnerKey outer out = rejected
list_ended keeps Value outer out = rejected

abbrev pub map_ended : Bool → Frame → List Frame → List Link → ExtractState
map_ended keeps Whole outer out = rejected
map_ended keeps frame.List outer out = rejected
map_ended keeps Key outer out = ended true outer out
map_ended keeps InnerKey outer out = ended false outer out
map_ended keeps Value outer out = rejected

-- the state after an end, which is rejected if an item must come
abbrev pub unless_must : Bool → ExtractState → ExtractState
unless_must true s = rejected
unless_must false s = s

-- the state after the bytes of a link, which are rejected if they do not encode a CID
abbrev pub link_read : Option Link → Bool → Frame → List Frame → List Link → ExtractState
link_read None keeps f outer out = rejected
link_read (Some cid) keeps f outer out = closed keeps f outer (out ++ kept keeps (cid ∷ []))

-- the state after a token, if an item may come
abbrev pub item_step : Bool → Bool → Frame → List Frame → List Link → TokenModel → ExtractState
item_step must keeps f outer out (atom a) = closed keeps f outer out
item_step must keeps f outer out (bytes b) = closed keeps f outer out
item_step must keeps f outer out some = open_at true keeps f outer out
item_step must keeps f outer out (variant name) = open_at true keeps f outer out
item_step must keeps f outer out link = marked keeps f outer out
item_step must keeps f outer out seq = open_at false keeps frame.List (f ∷ outer) out
item_step must keeps f outer out seq_end = unless_must must (list_ended keeps f outer out)
item_step must keeps f outer out map = open_at false false (key_frame keeps) (f ∷ outer) out
item_step must keeps f outer out map_end = unless_must must (map_ended keeps f outer out)

-- the state after a token, if the bytes of a link must come
abbrev pub link_step : ℕ → Bool → Frame → List Frame → List Link → TokenModel → ExtractState
link_step S keeps f outer out (bytes b) = link_read (read_link S b) keeps f outer out
link_step S keeps f outer out _ = rejected

-- the state of the machine after a token
abbrev pub step : ℕ → ExtractState → TokenModel → ExtractState
step S (open_at must keeps f outer out) t = item_step must keeps f outer out t
step S (marked keeps f outer out) t = link_step S keeps f outer out t
step S (done out) t = rejected
step S rejected t = rejected

abbrev pub start : ExtractState
start = open_at true true Whole [] []

-- the state of the machine after some tokens
abbrev pub run : ℕ → ExtractState → List TokenModel → ExtractState
run S = consuming.run (step S)

-- True if the state is neither complete nor rejected.
abbrev pub IsGoing : ExtractState → Type 0
IsGoing (open_at must keeps f outer out) = Unit {0}
IsGoing (marked keeps f outer out) = Unit {0}
IsGoing (done out) = ⊥
IsGoing rejected = ⊥

abbrev pub is_done : ExtractState → Bool
is_done (open_at must keeps f outer out) = false
is_done (marked keeps f outer out) = false
is_done (done out) = true
is_done rejected = false

-- True if the token is not the bytes of a link after its mark.
abbrev pub IsElsewhere : ExtractState → TokenModel → Type 0
IsElsewhere (marked keeps f outer out) (bytes b) = ⊥
IsElsewhere _ _ = Unit {0}

-- True if the token is the bytes of a link after its mark, and reading them fails with `cid_error`.
abbrev pub IsLinkError : ℕ → ExtractState → TokenModel → CidError → Type 0
IsLinkError S (marked keeps f outer out) (bytes b) cid_error = read_cid S b ≡ Err cid_error
IsLinkError S _ _ cid_error = ⊥

-- True if the token begins a list or a map.
abbrev pub Opens : TokenModel → Type 0
Opens seq = Unit {0}
Opens map = Unit {0}
Opens _ = ⊥

-- True if the bytes are a CID and links are kept, or `S` is 2^62 or more. A CID of that size does
-- not fit in memory.
abbrev pub AddsLink : ℕ → Bool → List ℕ → Type 0
AddsLink S keeps b = ((keeps ≡ true) × IsSome (read_link S b)) ⊎ (2 ^ 62 ≤ S)

-- True if the call can run out of memory at the token.
abbrev pub Allocates : ℕ → ExtractState → TokenModel → Type 0
Allocates S (open_at must keeps f outer out) t = Opens t
Allocates S (marked keeps f outer out) (bytes b) = AddsLink S keeps b
Allocates S _ _ = ⊥
