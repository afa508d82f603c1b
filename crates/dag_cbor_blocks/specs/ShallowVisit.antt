-- The events that a visitor has taken after a recursion has read a value.
use Rattle.std.specs.Prelude.{◌≡◌, ◌≤◌, ◌+◌, max, ℕ, Bool, false, List, length}
use Rattle.dag_cbor_format.specs.declared.major.Major.{Major}
use Rattle.dag_cbor_format.specs.Errors.{item_error}
use Rattle.dag_cbor_format.specs.ItemHeader.{item_header_after}
use Rattle.dag_cbor_format.specs.Reading.{Frame, begun, item_step_in}
use Rattle.dag_cbor_format.specs.Trace.{Event, Trace, after_a_key, traced, trace_ahead}
use Rattle.dag_cbor_blocks.specs.Measuring.{deepest_in}

-- True if the visitor `new` comes to the same answer after the rest of the trace as `old` after the
-- whole trace. Both end with the same error, and the events that were taken nest at most `levels`
-- levels deep.
pub record TakesUntil {V A : Type 0} (answer : V → List Event → A) (levels : ℕ) (old new : V) (trace rest : Trace) : Type 0 where
  pub same_error : rest.error ≡ trace.error
  pub same_answer : answer new rest.events ≡ answer old trace.events
  pub flat : (depth : ℕ) → deepest_in depth trace.events ≤ max (depth + levels) (deepest_in depth rest.events)

-- True if a visitor has taken the value that `bytes` begin with, up to `rest`, whatever is open
-- around it.
abbrev pub VisitsItem : {V A : Type 0} → Bool → (V → List Event → A) → ℕ → V → V → List ℕ → List ℕ → Type 0
VisitsItem floats answer levels old new bytes rest = (fs : List Frame) → after_a_key fs ≡ false
    → TakesUntil answer levels old new (traced (length bytes) (trace_ahead floats) (item_step_in floats fs bytes)) (trace_ahead floats fs rest)

-- True if a visitor has taken a value with this head, whose content `bytes` begin with, up to
-- `rest`.
abbrev pub VisitsContent : {V A : Type 0} → Bool → (V → List Event → A) → ℕ → Major → ℕ → V → V → List ℕ → List ℕ → Type 0
VisitsContent floats answer levels major argument old new bytes rest = (fs : List Frame) (left : ℕ) → after_a_key fs ≡ false
    → TakesUntil answer levels old new (traced left (trace_ahead floats) (begun fs (item_error major argument bytes) (item_header_after major argument bytes))) (trace_ahead floats fs rest)
