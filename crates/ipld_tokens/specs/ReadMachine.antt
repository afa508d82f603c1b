-- This file defines the state machine that reads a tree: the state after a token, the state after a
-- list of tokens, and the tokens that need memory.
use Rattle.std.specs.Prelude.{◌≡◌, ℕ, Bool, true, false, not, List, [], ◌∷◌, Option, Some, None, IsSome, Result, Ok, Err, encode_utf8}
use Rattle.ipld_cid.specs.declared.error.CidError.{CidError}
use Rattle.ipld_cid.specs.Cid.{Link}
use Rattle.ipld_cid.specs.Bytes.{read_cid}
use Rattle.ipld_tree.specs.Tree.{Tree, Items, no_items, item, Members, no_members}
use Rattle.ipld_tree.specs.Tree as tree
use Rattle.ipld_tree.specs.Put.{put}
use Rattle.ipld_tokens.specs.LinkBytes.{read_link}
use Rattle.ipld_tokens.specs.ConsumerMachine as consuming
use Rattle.ipld_tokens.specs.Token.{Atom, character, text, TokenModel, atom, bytes, some, variant, link, seq, seq_end, map, map_end}
use Rattle.ipld_tokens.specs.ItemTree.{tree_of_atom, has_key}

-- an open container with its content so far: a list, a map before a key or its end, or a map after
-- a key
pub data Container : Type 0 where
  in_list : Items → Container
  in_key : Members → Container
  in_value : Members → List ℕ → Container

pub data Failure : Type 0 where
  bad_token : Failure
  bad_cid : CidError → Failure
  repeated_key : Failure
  -- after an end, or after bytes of a link that are read as a CID but do not encode it
  never : Failure

-- the states of the machine that models `read_ipld`, which are also those of a tree that is being
-- built. The levels are innermost first.
pub data ReadState : Type 0 where
  -- a part that the innermost container takes may come: a value or the end in a list, a key or the
  -- end in a map, or the value of a key. Without a container, a value may come.
  open_at : List Container → ReadState
  -- a value must come
  wanted : List Container → ReadState
  -- the bytes of a link must come
  marked : List Container → ReadState
  -- the value is complete
  done : Tree → ReadState
  rejected : Failure → ReadState

-- the list with one more tree at its end
abbrev pub and_item : Items → Tree → Items
and_item no_items t = item t no_items
and_item (item u us) t = item u (and_item us t)

abbrev pub if_new : Bool → ReadState → ReadState
if_new true s = rejected repeated_key
if_new false s = s

-- the state after a complete value. It is the tree, is put into the innermost container, or is
-- rejected.
abbrev pub completed : Tree → List Container → ReadState
completed t [] = done t
completed t (in_list ts ∷ ls) = open_at (in_list (and_item ts t) ∷ ls)
completed t (in_key ms ∷ ls) = rejected bad_token
completed t (in_value ms key ∷ ls) = if_new (has_key key ms) (open_at (in_key (put key t ms) ∷ ls))

abbrev pub completed_if : Option Tree → List Container → ReadState
completed_if None ls = rejected bad_token
completed_if (Some t) ls = completed t ls

-- the string of a token as a key, if the token is a string or a character
abbrev pub atom_key : TokenModel → Option (List ℕ)
atom_key (atom (text s)) = Some s
atom_key (atom (character c)) = Some (encode_utf8 c)
atom_key _ = None

abbrev pub after_key : Option (List ℕ) → Members → List Container → ReadState
after_key None ms ls = rejected bad_token
after_key (Some key) ms ls = open_at (in_value ms key ∷ ls)

-- the state after a token, if a value must come
abbrev pub value_step : List Container → TokenModel → ReadState
value_step ls (atom a) = completed_if (tree_of_atom a) ls
value_step ls (bytes b) = completed (tree.bytes b) ls
value_step ls some = wanted ls
value_step ls (variant name) = rejected bad_token
value_step ls link = marked ls
value_step ls seq = open_at (in_list no_items ∷ ls)
value_step ls seq_end = rejected bad_token
value_step ls map = open_at (in_key no_members ∷ ls)
value_step ls map_end = rejected bad_token

abbrev pub ends_list : TokenModel → Bool
ends_list seq_end = true
ends_list _ = false

abbrev pub either : Bool → ReadState → ReadState → ReadState
either true s other = s
either false s other = other

-- the state after a token in a list
abbrev pub list_step : Items → List Container → TokenModel → ReadState
list_step ts ls t = either (ends_list t) (completed (tree.list ts) ls) (value_step (in_list ts ∷ ls) t)

-- the state after a token, if a key or the end of the map may come
abbrev pub key_step : Members → List Container → TokenModel → ReadState
key_step ms ls map_end = completed (tree.entries ms) ls
key_step ms ls t = after_key (atom_key t) ms ls

abbrev pub open_step : List Container → TokenModel → ReadState
open_step [] t = value_step [] t
open_step (in_list ts ∷ ls) t = list_step ts ls t
open_step (in_key ms ∷ ls) t = key_step ms ls t
open_step (in_value ms key ∷ ls) t = value_step (in_value ms key ∷ ls) t

-- Returns whether a key may come in the innermost container.
abbrev pub is_at_key : List Container → Bool
is_at_key [] = false
is_at_key (in_list ts ∷ ls) = false
is_at_key (in_key ms ∷ ls) = true
is_at_key (in_value ms key ∷ ls) = false

-- Returns whether the innermost container is a list.
abbrev pub is_in_list : List Container → Bool
is_in_list [] = false
is_in_list (in_list ts ∷ ls) = true
is_in_list (in_key ms ∷ ls) = false
is_in_list (in_value ms key ∷ ls) = false

-- the list or the map in a container, with its content so far
abbrev pub held : Container → Tree
held (in_list ts) = tree.list ts
held (in_key ms) = tree.entries ms
held (in_value ms key) = tree.entries ms

-- the state after the end of the innermost list or map
abbrev pub closed : List Container → ReadState
closed [] = rejected bad_token
closed (l ∷ ls) = completed (held l) ls

-- the state after a key, which is rejected unless a key may come
abbrev pub key_kept : List ℕ → List Container → ReadState
key_kept key (in_key ms ∷ ls) = open_at (in_value ms key ∷ ls)
key_kept key _ = rejected bad_token

abbrev pub key_received : Option (List ℕ) → List Container → ReadState
key_received None ls = rejected bad_token
key_received (Some key) ls = key_kept key ls

-- the state after a token, if a key or the end of the map must come
abbrev pub key_taken : List Container → TokenModel → ReadState
key_taken ls map_end = closed ls
key_taken ls t = key_received (atom_key t) ls

-- the state after the bytes of a link. If they do not encode a CID, `read` (the result of reading
-- them) decides the failure.
abbrev pub after_link : Option Link → Result Link CidError → List Container → ReadState
after_link (Some cid) read ls = completed (tree.link cid) ls
after_link None (Err cid_error) ls = rejected (bad_cid cid_error)
after_link None (Ok cid) ls = rejected never

-- the state after a token, if the bytes of a link must come
abbrev pub link_step : List Container → TokenModel → ReadState
link_step ls (bytes b) = after_link (read_link 64 b) (read_cid 64 b) ls
link_step ls _ = rejected bad_token

-- the state of the machine after a token
abbrev pub step : ReadState → TokenModel → ReadState
step (open_at ls) t = open_step ls t
step (wanted ls) t = value_step ls t
step (marked ls) t = link_step ls t
step (done v) t = rejected never
step (rejected cid_error) t = rejected never

-- the state of the machine after some tokens
abbrev pub run : ReadState → List TokenModel → ReadState
run = consuming.run step

-- True if the state is neither complete nor rejected.
abbrev pub IsGoing : ReadState → Type 0
IsGoing (done v) = ⊥
IsGoing (rejected cid_error) = ⊥
IsGoing s = Unit {0}

-- Returns whether the value is complete.
abbrev pub is_done : ReadState → Bool
is_done (done v) = true
is_done s = false

-- Returns whether a value may come.
abbrev pub takes_value : ReadState → Bool
takes_value (open_at ls) = not (is_at_key ls)
takes_value (wanted ls) = true
takes_value s = false

abbrev pub start : ReadState
start = wanted []

-- ---- allocations

-- True if the container takes a value: it is a list, or a map after a new key.
abbrev pub PutsInto : Container → Type 0
PutsInto (in_list ts) = Unit {0}
PutsInto (in_key ms) = ⊥
PutsInto (in_value ms key) = has_key key ms ≡ false

-- True if the innermost container takes a value: it is a list, or a map after a new key.
abbrev pub PutsValue : List Container → Type 0
PutsValue [] = ⊥
PutsValue (l ∷ ls) = PutsInto l

abbrev pub PutsReceived : Option Tree → List Container → Type 0
PutsReceived None ls = ⊥
PutsReceived (Some t) ls = PutsValue ls

-- True if a scalar needs memory: it is a string or a character, or the innermost container takes
-- its tree.
abbrev pub AllocatesAtom : Atom → List Container → Type 0
AllocatesAtom (text s) ls = Unit {0}
AllocatesAtom (character c) ls = Unit {0}
AllocatesAtom a ls = PutsReceived (tree_of_atom a) ls

-- True if a token needs memory, at a place for a value.
abbrev pub AllocatesValue : List Container → TokenModel → Type 0
AllocatesValue ls (atom a) = AllocatesAtom a ls
AllocatesValue ls (bytes b) = Unit {0}
AllocatesValue ls seq = Unit {0}
AllocatesValue ls map = Unit {0}
AllocatesValue ls _ = ⊥

-- True if a token in a list needs memory.
abbrev pub AllocatesInList : Items → List Container → TokenModel → Type 0
AllocatesInList ts ls seq_end = PutsValue ls
AllocatesInList ts ls t = AllocatesValue (in_list ts ∷ ls) t

-- True if a token needs memory in a map inside the levels, at a place for a key or the end of the
-- map.
abbrev pub AllocatesKey : List Container → TokenModel → Type 0
AllocatesKey ls map_end = PutsValue ls
AllocatesKey ls t = IsSome (atom_key t)

abbrev pub AllocatesOpen : List Container → TokenModel → Type 0
AllocatesOpen [] t = AllocatesValue [] t
AllocatesOpen (in_list ts ∷ ls) t = AllocatesInList ts ls t
AllocatesOpen (in_key ms ∷ ls) t = AllocatesKey ls t
AllocatesOpen (in_value ms key ∷ ls) t = AllocatesValue (in_value ms key ∷ ls) t

-- True if the container around the innermost list or map takes a value.
abbrev pub PutsClosed : List Container → Type 0
PutsClosed [] = ⊥
PutsClosed (l ∷ ls) = PutsValue ls

-- True if a token needs memory in the innermost map of the levels, at a place for a key or the end
-- of the map.
abbrev pub AllocatesKeyToken : List Container → TokenModel → Type 0
AllocatesKeyToken ls map_end = PutsClosed ls
AllocatesKeyToken ls t = IsSome (atom_key t)

-- True if the bytes of a link encode a CID, and the innermost container takes a value.
abbrev pub PutsLinked : Option Link → List Container → Type 0
PutsLinked None ls = ⊥
PutsLinked (Some cid) ls = PutsValue ls

-- True if a token needs memory, at a place for the bytes of a link.
abbrev pub AllocatesLink : List Container → TokenModel → Type 0
AllocatesLink ls (bytes b) = PutsLinked (read_link 64 b) ls
AllocatesLink ls _ = ⊥

abbrev pub Allocates : ReadState → TokenModel → Type 0
Allocates (open_at ls) t = AllocatesOpen ls t
Allocates (wanted ls) t = AllocatesValue ls t
Allocates (marked ls) t = AllocatesLink ls t
Allocates _ t = ⊥
