-- A block that is read token by token, with floats or without: the number of bytes after every
-- token, and the place at which the machine stops.
use Rattle.std.specs.Prelude.{ℕ, zero, suc, ◌+◌, ◌*◌, ◌-◌, Bool, true, false, List, [], ◌∷◌, length, take, drop, map, Option, Some, None}
use Rattle.ipld_cid.specs.Cid.{Link}
use Rattle.ipld_tokens.specs.Token.{TokenModel, bytes, link}
use Rattle.dag_cbor_format.specs.declared.error.CborError.{CborError}
use Rattle.dag_cbor_format.specs.declared.error.CborError.TheVariants.{End}
use Rattle.dag_cbor_format.specs.Found.{links_among}
use Rattle.dag_cbor_format.specs.Reading.{Frame, one, value, Out, ended, rejected, yields, step_in, unless_error}

-- a token, the number of bytes that follow it, and whether it is a key
abbrev pub Event : Type 0
Event = TokenModel × ℕ × Bool

-- the tokens of events
abbrev pub tokens_in : List Event → List TokenModel
tokens_in es = map (λ e. e.0) es

-- The events, the error that ends them (nothing if the end is reached), and the number of bytes
-- left then. These begin with the item, the key or the byte string of a link that is not read, or
-- they follow the block's item.
pub record Trace : Type 0 where
  pub events : List Event
  pub error : Option CborError
  pub left : ℕ

-- the trace without events, with this error and this number of bytes left
abbrev pub halted : Option CborError → ℕ → Trace
halted error left = record { events = []; error = error; left = left }

-- a trace after one more event
abbrev pub led : Event → Trace → Trace
led e t = record { events = e ∷ t.events; error = t.error; left = t.left }

-- whether the innermost frame is that of a value after its key
abbrev pub after_a_key : List Frame → Bool
after_a_key (value n seen ∷ fs) = true
after_a_key _ = false

-- the trace from a step on, before which `left` bytes are left: `more` is the trace after the step
abbrev pub traced : ℕ → (List Frame → List ℕ → Trace) → Out → Trace
traced left more ended = halted None left
traced left more (rejected error) = halted (Some error) left
traced left more (yields t fs bs) = led (t, length bs, after_a_key fs) (more fs bs)

-- the trace of at most this many steps, with the error `End` if it needs more
abbrev pub trace : Bool → ℕ → List Frame → List ℕ → Trace
trace floats zero fs bs = halted (Some End) (length bs)
trace floats (suc k) fs bs = traced (length bs) (trace floats k) (step_in floats fs bs)

-- the trace from these frames and bytes, with enough steps to reach the end or an error
unfoldable pub trace_ahead : Bool → List Frame → List ℕ → Trace
trace_ahead floats fs bs = trace floats (suc (2 * length bs + length fs)) fs bs

-- The trace of a whole block, with floats or without: its tokens with the number of bytes after
-- every token, the first error, and the number of bytes left when the machine stops.
abbrev pub trace_of : Bool → List ℕ → Trace
trace_of floats block = trace_ahead floats (one ∷ []) block

-- ---- results of a trace

-- The first error of a block, with floats or without, or nothing if it has no error.
unfoldable pub error_in : Bool → List ℕ → Option CborError
error_in floats block = (trace_of floats block).error

-- The offset of the first error of a block, with floats or without. It is the start of the item,
-- the key or the byte string of a link that is not read, or the first byte after the item. Without
-- an error it is the length of the block.
unfoldable pub error_offset : Bool → List ℕ → ℕ
error_offset floats block = length block - (trace_of floats block).left

-- The links of a block, with floats or without, in the order of the bytes, or nothing if the bytes
-- have an error.
unfoldable pub links_read : Bool → List ℕ → Option (List Link)
links_read floats block = unless_error (trace_of floats block).error (Some (links_among (tokens_in (trace_of floats block).events)))

-- the offset of the bytes of a CID, and their number
abbrev pub Position : Type 0
Position = ℕ × ℕ

-- positions, after one more if there is one
abbrev pub position_before : Option Position → List Position → List Position
position_before None ps = ps
position_before (Some p) ps = p ∷ ps

-- the position of the CID's bytes that follow a link mark, in a block of `size` bytes
abbrev pub marked_position : ℕ → List Event → Option Position
marked_position size ((bytes b, left, key) ∷ es) = Some (size - left - length b, length b)
marked_position size _ = None

-- the positions of the links among events, in a block of `size` bytes
abbrev pub positions_among : ℕ → List Event → List Position
positions_among size [] = []
positions_among size ((link, left, key) ∷ es) = position_before (marked_position size es) (positions_among size es)
positions_among size (e ∷ es) = positions_among size es

-- The positions of the bytes of the links' CIDs in a block, with floats or without, in the order of
-- the bytes, or nothing if the bytes have an error.
unfoldable pub positions_read : Bool → List ℕ → Option (List Position)
positions_read floats block = unless_error (trace_of floats block).error (Some (positions_among (length block) (trace_of floats block).events))

-- the bytes at a position
abbrev pub cut : Position → List ℕ → List ℕ
cut p block = take p.1 (drop p.0 block)
