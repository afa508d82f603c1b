-- The levels that are open at a position in a block, and the steps of the machine from there.
use Rattle.std.specs.Prelude.{◌≡◌, ◌⊎◌, ◌+◌, ◌*◌, ◌<◌, ◌≤◌, ℕ, Bool, true, false, List, [], ◌∷◌, length, Result, Ok, Err}
use Rattle.std.specs.Borrow.{Bor}
use Rattle.ipld_tokens.specs.Token.{atom, text, seq_end, map_end}
use Rattle.dag_cbor_format.specs.declared.error.CborError.{CborError}
use Rattle.dag_cbor_format.specs.declared.error.CborError.TheVariants.{Memory}
use Rattle.dag_cbor_format.specs.Reading.{Frame, one, many, pairs, value, mark, rejected, yields, item_step_in, step_in}
use Rattle.dag_cbor_format.specs.Trace.{after_a_key}
use Rattle.dag_cbor_blocks.specs.Counting.{OpenKind, in_list, in_map}
use Rattle.dag_cbor_blocks.specs.Keys.{seen_in}
use Rattle.dag_cbor_blocks.specs.declared.position.Level.{Level}
use Rattle.dag_cbor_blocks.specs.declared.position.Level.TheVariants as level
use Rattle.dag_cbor_blocks.specs.declared.position.Next.{Next}
use Rattle.dag_cbor_blocks.specs.declared.position.Next.TheVariants.{Item, Value, EndOfList, EndOfMap, Outside}
use Rattle.dag_cbor_blocks.specs.declared.position.UnreadMap.{UnreadMap}
use Rattle.dag_cbor_blocks.specs.declared.position.Position.{Position}

abbrev pub framed : Level → List Frame → List Frame
framed level.Whole fs = fs
framed (level.List n) fs = many n ∷ fs
framed (level.Map map) fs = pairs map.pairs (seen_in map.keys) ∷ fs

-- the frames of these levels, innermost last, and then the frames outside of them
abbrev pub inside : List Level → List Frame → List Frame
inside [] outer = outer
inside (o ∷ os) outer = inside os (framed o outer)

-- the frames of the format's machine, except that of a value that is to come
abbrev pub frames_of : Position → List Frame
frames_of p = framed p.innermost (inside p.outer.items [])

-- the kinds of the lists and maps among frames
abbrev pub kinds_in : List Frame → List OpenKind
kinds_in [] = []
kinds_in (one ∷ fs) = kinds_in fs
kinds_in (many n ∷ fs) = in_list ∷ kinds_in fs
kinds_in (pairs n seen ∷ fs) = in_map ∷ kinds_in fs
kinds_in (value n seen ∷ fs) = in_map ∷ kinds_in fs
kinds_in (mark ∷ fs) = kinds_in fs

abbrev pub kinds_of : Position → List OpenKind
kinds_of p = kinds_in (frames_of p)

abbrev pub is_open_level : Level → List Level → Bool
is_open_level level.Whole [] = false
is_open_level level.Whole (o ∷ os) = true
is_open_level (level.List n) outer = true
is_open_level (level.Map map) outer = true

abbrev pub is_open : Position → Bool
is_open p = is_open_level p.innermost p.outer.items

-- three times the number of bytes left, plus the number of frames and of outer levels
abbrev pub steps_left : Position → ℕ
steps_left p = 3 * length p.rest.now + length (frames_of p) + length p.outer.items

-- True if a key was read by the machine's step, after which the machine has a frame for the value.
-- An error is a failed allocation, which leaves the map unchanged, or the error of the machine.
abbrev pub TakesKey : UnreadMap → List ℕ → Result (Bor (List ℕ) × Bor (List ℕ)) CborError → UnreadMap → Type 0
TakesKey old bytes (Ok (key, rest)) new =
    (new.pairs + 1 ≡ old.pairs) × ((floats : Bool) (fs : List Frame) → step_in floats (pairs old.pairs (seen_in old.keys) ∷ fs) bytes ≡ yields (atom (text key.now)) (value new.pairs (seen_in new.keys) ∷ fs) rest.now)
TakesKey old bytes (Err error) new = ((error ≡ Memory) × (new.pairs ≡ old.pairs) × (seen_in new.keys ≡ seen_in old.keys)) ⊎ ((floats : Bool) (fs : List Frame) → step_in floats (pairs old.pairs (seen_in old.keys) ∷ fs) bytes ≡ rejected error)

-- True if the position follows the machine's next step, with floats or without. Before an item of a
-- list no byte is read.
abbrev pub Steps : Position → Next → Position → Type 0
Steps before Item after = (after.rest.now ≡ before.rest.now) × ((floats : Bool) → step_in floats (frames_of before) before.rest.now ≡ item_step_in floats (frames_of after) after.rest.now)
Steps before (Value key) after =
    (fs : List Frame) × (after_a_key fs ≡ true) × ((floats : Bool) → step_in floats (frames_of before) before.rest.now ≡ yields (atom (text key.now)) fs after.rest.now)
    × ((floats : Bool) → step_in floats fs after.rest.now ≡ item_step_in floats (frames_of after) after.rest.now)
Steps before EndOfList after = (floats : Bool) → step_in floats (frames_of before) before.rest.now ≡ yields seq_end (frames_of after) after.rest.now
Steps before EndOfMap after = (floats : Bool) → step_in floats (frames_of before) before.rest.now ≡ yields map_end (frames_of after) after.rest.now
Steps before Outside after = (frames_of before ≡ frames_of after) × (before.rest.now ≡ after.rest.now)

-- True if `steps_left` does not grow with an item or a key, and otherwise shrinks if a level was
-- open.
abbrev pub LeavesFewer : Position → Next → Position → Type 0
LeavesFewer before Item after = steps_left after ≤ steps_left before
LeavesFewer before (Value key) after = steps_left after ≤ steps_left before
LeavesFewer before _ after = is_open before ≡ true → steps_left after < steps_left before

-- True if an item comes in a list, a value in a map after its key, and an end is that of the
-- innermost level.
abbrev pub Stands : Position → Next → Position → Type 0
Stands before Item after = (outer : List OpenKind) × (kinds_of before ≡ in_list ∷ outer) × (kinds_of after ≡ in_list ∷ outer)
Stands before (Value key) after = (outer : List OpenKind) × (kinds_of before ≡ in_map ∷ outer) × (kinds_of after ≡ in_map ∷ outer)
Stands before EndOfList after = kinds_of before ≡ in_list ∷ kinds_of after
Stands before EndOfMap after = kinds_of before ≡ in_map ∷ kinds_of after
Stands before Outside after = kinds_of before ≡ kinds_of after

-- True if the position moves to its next part. An error is a failed allocation, which leaves the
-- position unchanged, or that of the key that begins there.
abbrev pub NextIn : Position → Result Next CborError → Position → Type 0
NextIn before (Ok next) after = Steps before next after × LeavesFewer before next after × Stands before next after
NextIn before (Err error) after =
    ((error ≡ Memory) × (frames_of after ≡ frames_of before) × (after.rest.now ≡ before.rest.now)) ⊎ (((floats : Bool) → step_in floats (frames_of before) before.rest.now ≡ rejected error) × (after.begun ≡ length before.rest.now))
