-- A machine that reads a block token by token. Its state is the open frames, innermost first, and
-- the bytes that follow.
use Rattle.std.specs.Prelude.{ℕ, zero, suc, ◌+◌, ◌*◌, Bool, false, ◌||◌, if◌then◌else◌, List, [], ◌∷◌, length, Option, Some, None}
use Rattle.std.specs.Str.{bytes_eq}
use Rattle.std.specs.Ordering.{nat_cmp}
use Rattle.std.specs.Cmp.Lexicographic.{slice_cmp}
use Rattle.std.specs.BTreeSet.{insert_key}
use Rattle.ipld_tokens.specs.Token.{TokenModel, atom, text, bytes, seq, seq_end, map_end}
use Rattle.ipld_tokens.specs.Token as token
use Rattle.dag_cbor_format.specs.declared.error.CborError.{CborError}
use Rattle.dag_cbor_format.specs.declared.error.CborError.TheVariants.{End, DuplicateKey, TrailingBytes}
use Rattle.dag_cbor_format.specs.ItemHeader.{Beginning, scalar, list, map, link, key_at, link_at}
use Rattle.dag_cbor_format.specs.Errors.{key_error, link_error}
use Rattle.dag_cbor_format.specs.Floats.{beginning_at, beginning_error}

pub data Frame : Type 0 where
  -- an item
  one : Frame
  -- this many items, and then the end of a list
  many : ℕ → Frame
  -- this many pairs, whose keys are not among these, and then the end of a map
  pairs : ℕ → List (List ℕ) → Frame
  -- a value, and then this many such pairs and the end of the map
  value : ℕ → List (List ℕ) → Frame
  -- the bytes of a link
  mark : Frame

pub data Out : Type 0 where
  ended : Out
  rejected : CborError → Out
  yields : TokenModel → List Frame → List ℕ → Out

abbrev pub begin : List Frame → Beginning → List ℕ → Out
begin fs (scalar t) rest = yields t fs rest
begin fs (list n) rest = yields seq (many n ∷ fs) rest
begin fs (map n) rest = yields token.map (pairs n [] ∷ fs) rest
begin fs link rest = yields token.link (mark ∷ fs) rest

-- the step from the beginning of an item, or this error if that is nothing
abbrev pub begun : List Frame → CborError → Option (Beginning × List ℕ) → Out
begun fs error None = rejected error
begun fs error (Some (l, rest)) = begin fs l rest

-- the step at the beginning of an item, with floats or without: these frames are open after it
abbrev pub item_step_in : Bool → List Frame → List ℕ → Out
item_step_in floats fs bs = begun fs (beginning_error floats bs) (beginning_at floats bs)

abbrev pub item_step : List Frame → List ℕ → Out
item_step fs bs = item_step_in false fs bs

abbrev pub among : List ℕ → List (List ℕ) → Bool
among k [] = false
among k (x ∷ xs) = bytes_eq k x || among k xs

abbrev pub and_key : List ℕ → List (List ℕ) → List (List ℕ)
and_key k seen = insert_key (slice_cmp nat_cmp) seen k

abbrev pub after_key : ℕ → List (List ℕ) → List Frame → CborError → Option (List ℕ × List ℕ) → Out
after_key n seen fs error None = rejected error
after_key n seen fs error (Some (k, rest)) = if among k seen then rejected DuplicateKey else yields (atom (text k)) (value n (and_key k seen) ∷ fs) rest

abbrev pub after_link : List Frame → CborError → Option (List ℕ × List ℕ) → Out
after_link fs error None = rejected error
after_link fs error (Some (b, rest)) = yields (bytes b) fs rest

abbrev pub end_step : List ℕ → Out
end_step [] = ended
end_step (b ∷ bs) = rejected TrailingBytes

abbrev pub step_in : Bool → List Frame → List ℕ → Out
step_in floats [] bs = end_step bs
step_in floats (one ∷ fs) bs = item_step_in floats fs bs
step_in floats (many zero ∷ fs) bs = yields seq_end fs bs
step_in floats (many (suc n) ∷ fs) bs = item_step_in floats (many n ∷ fs) bs
step_in floats (pairs zero seen ∷ fs) bs = yields map_end fs bs
step_in floats (pairs (suc n) seen ∷ fs) bs = after_key n seen fs (key_error bs) (key_at bs)
step_in floats (value n seen ∷ fs) bs = item_step_in floats (pairs n seen ∷ fs) bs
step_in floats (mark ∷ fs) bs = after_link fs (link_error bs) (link_at bs)

-- the step without floats
abbrev pub step : List Frame → List ℕ → Out
step fs bs = step_in false fs bs

-- tokens, and the error that ends them, or nothing if the end is reached
pub record Ran : Type 0 where
  pub tokens : List TokenModel
  pub error : Option CborError

abbrev pub reached : Ran
reached = record { tokens = []; error = None }

abbrev pub stopped : CborError → Ran
stopped error = record { tokens = []; error = Some error }

abbrev pub preceded : TokenModel → Ran → Ran
preceded t r = record { tokens = t ∷ r.tokens; error = r.error }

-- the result, or nothing if there is an error
abbrev pub unless_error : {A : Type 0} → Option CborError → Option A → Option A
unless_error None found = found
unless_error (Some error) found = None

abbrev pub outcome : (List Frame → List ℕ → Ran) → Out → Ran
outcome more ended = reached
outcome more (rejected error) = stopped error
outcome more (yields t fs bs) = preceded t (more fs bs)

-- the run of at most this many steps, with the error `End` if it needs more
abbrev pub run : ℕ → List Frame → List ℕ → Ran
run zero fs bs = stopped End
run (suc k) fs bs = outcome (run k) (step fs bs)

-- the run from these frames and bytes, with enough steps to reach the end or an error
unfoldable pub ahead : List Frame → List ℕ → Ran
ahead fs bs = run (suc (2 * length bs + length fs)) fs bs

-- the run over a whole block
abbrev pub of_block : List ℕ → Ran
of_block bs = ahead (one ∷ []) bs
