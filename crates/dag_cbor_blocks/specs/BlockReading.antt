-- The contracts of reading a part of a block: a visitor takes the part, and the rest is ahead.
use Rattle.std.specs.Prelude.{◌≡◌, ◌⊎◌, ◌<◌, ◌+◌, ℕ, Bool, true, false, List, length, Some, None, Result, Ok, Err}
use Rattle.dag_cbor_format.specs.declared.error.CborError.{CborError}
use Rattle.dag_cbor_format.specs.declared.error.CborError.TheVariants.{Memory}
use Rattle.dag_cbor_format.specs.declared.major.Major.{Major}
use Rattle.dag_cbor_format.specs.Floats.{error_of_float, if_finite}
use Rattle.dag_cbor_format.specs.ItemHeader.{front, item_header_at, item_header_after}
use Rattle.dag_cbor_format.specs.Errors.{item_error, item_header_error}
use Rattle.dag_cbor_format.specs.Reading.{begun, item_step_in}
use Rattle.dag_cbor_format.specs.Trace.{Event, Trace, traced, trace_ahead}
use Rattle.ipld_tree.specs.declared.limits.Limits.{Limits}
use Rattle.dag_cbor_blocks.specs.Counting.{OpenKind, counts, beyond, passed}
use Rattle.dag_cbor_blocks.specs.Counter.{levels_after, values_after, Ends}
use Rattle.dag_cbor_blocks.specs.Position.{frames_of, kinds_of, steps_left}
use Rattle.dag_cbor_blocks.specs.declared.counter.PartKind.{PartKind}
use Rattle.dag_cbor_blocks.specs.declared.position.Position.{Position}

-- the trace from a position
abbrev pub ahead_of : Bool → Position → Trace
ahead_of floats p = trace_ahead floats (frames_of p) p.rest.now

-- the trace from a position at the beginning of an item
abbrev pub item_ahead : Bool → Position → Trace
item_ahead floats p = traced (length p.rest.now) (trace_ahead floats) (item_step_in floats (frames_of p) p.rest.now)

-- the trace from a position after the head of an item
abbrev pub headed : Bool → Major → ℕ → Position → Trace
headed floats major n p = traced p.begun (trace_ahead floats) (begun (frames_of p) (item_error major n p.rest.now) (item_header_after major n p.rest.now))

-- True if the visitor and the position have moved past a part of the trace. The answer, the error
-- and the limits passed are those of the trace, the open levels are those after the part, and fewer
-- steps than `limit` are left.
pub record Advances {V A : Type 0} (floats : Bool) (answer : V → List Event → A) (old : V) (kinds : List OpenKind) (due : Bool) (part : PartKind) (trace : Trace) (left limit : ℕ) (new : V) (after : Position) : Type 0 where
  pub same_error : (ahead_of floats after).error ≡ trace.error
  pub same_left : (ahead_of floats after).left ≡ trace.left
  pub same_answer : answer new (ahead_of floats after).events ≡ answer old trace.events
  pub same_passed : (limits : Limits) (values from : ℕ) → beyond limits (length kinds) values ≡ None
      → passed limits (counts kinds due values) from left trace.events
      ≡ passed limits (counts (kinds_of after) false (values_after part values)) after.begun (length after.rest.now) (ahead_of floats after).events
  pub levels : length (kinds_of after) ≡ levels_after part (length kinds)
  pub ends : Ends part (length kinds)
  pub fewer : steps_left after < limit

-- True if `error` is the error of the trace, the machine stops there with `stop` bytes left, and no
-- limit is passed before it.
pub record Fails (kinds : List OpenKind) (due : Bool) (trace : Trace) (left : ℕ) (error : CborError) (stop : ℕ) : Type 0 where
  pub same_error : trace.error ≡ Some error
  pub same_left : trace.left ≡ stop
  pub none_passed : (limits : Limits) (values from : ℕ) → beyond limits (length kinds) values ≡ None → passed limits (counts kinds due values) from left trace.events ≡ None

-- True if the visitor and the position have moved past a part, an allocation failed, or this is the
-- error of the trace.
abbrev pub Reads : {V A : Type 0} → Bool → (V → List Event → A) → V → List OpenKind → Bool → Trace → ℕ → ℕ → Result PartKind CborError → V → Position → Type 0
Reads floats answer old kinds due trace left limit (Ok part) new after = Advances floats answer old kinds due part trace left limit new after
Reads floats answer old kinds due trace left limit (Err error) new after = (error ≡ Memory) ⊎ Fails kinds due trace left error after.begun

-- ---- the functions of the loop

-- a visitor and a position, before a part is read or after it
pub record Reading (V : Type 0) : Type 0 where
  pub visitor : V
  pub position : Position

-- True if the content of an item was read after its head, which has this major type and argument,
-- or its error is returned.
abbrev pub ReadsContent : {V A : Type 0} → Bool → (V → List Event → A) → Major × ℕ → Reading V → Result PartKind CborError → Reading V → Type 0
ReadsContent floats answer head old result new =
    Reads floats answer old.visitor (kinds_of old.position) true (headed floats head.0 head.1 old.position) old.position.begun (steps_left old.position + 3) result new.visitor new.position

-- True if a float was read after its first byte, or its error is returned.
abbrev pub ReadsFloat : {V A : Type 0} → Bool → (V → List Event → A) → Reading V → Result PartKind CborError → Reading V → Type 0
ReadsFloat floats answer old result new =
    let bits = front 8 old.position.rest.now in
    let step = begun (frames_of old.position) (error_of_float bits) (if_finite bits) in
    Reads floats answer old.visitor (kinds_of old.position) true (traced old.position.begun (trace_ahead floats) step) old.position.begun (steps_left old.position + 3) result new.visitor new.position

-- True if an item that is not a float was read, or its error is returned.
abbrev pub ReadsHeaded : {V A : Type 0} → Bool → (V → List Event → A) → Reading V → Result PartKind CborError → Reading V → Type 0
ReadsHeaded floats answer old result new =
    let bytes = old.position.rest.now in
    let step = begun (frames_of old.position) (item_header_error bytes) (item_header_at bytes) in
    Reads floats answer old.visitor (kinds_of old.position) true (traced (length bytes) (trace_ahead floats) step) (length bytes) (steps_left old.position) result new.visitor new.position

-- True if an item was read, or its error is returned.
abbrev pub ReadsItem : {V A : Type 0} → Bool → (V → List Event → A) → Reading V → Result PartKind CborError → Reading V → Type 0
ReadsItem floats answer old result new =
    Reads floats answer old.visitor (kinds_of old.position) true (item_ahead floats old.position) (length old.position.rest.now) (steps_left old.position) result new.visitor new.position

-- True if the next part of the open levels was read, or its error is returned.
abbrev pub ReadsPart : {V A : Type 0} → Bool → (V → List Event → A) → Reading V → Result PartKind CborError → Reading V → Type 0
ReadsPart floats answer old result new =
    Reads floats answer old.visitor (kinds_of old.position) false (ahead_of floats old.position) (length old.position.rest.now) (steps_left old.position) result new.visitor new.position
