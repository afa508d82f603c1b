-- The events that a visitor of a block's parts takes.
use Rattle.std.specs.Prelude.{◌≡◌, ◌⊎◌, ◌++◌, ◌∷◌, ℕ, FitsSigned, Bool, true, false, List, [], Some, None, Result, Ok, Err}
use Rattle.std.specs.Int.{w128}
use Rattle.std.specs.declared.alloc.AllocError.{AllocError}
use Rattle.ipld_cid.specs.LinkOf.{link_of}
use Rattle.ipld_tokens.specs.LinkBytes.{read_link}
use Rattle.ipld_tokens.specs.Token.{atom, none, boolean, integer, text, bytes, link, seq, seq_end, map, map_end}
use Rattle.dag_cbor_format.specs.declared.error.CborError.{CborError}
use Rattle.dag_cbor_format.specs.declared.error.CborError.TheVariants.{Memory}
use Rattle.dag_cbor_format.specs.Trace.{Event, trace_of}
use Rattle.dag_cbor_blocks.specs.declared.visit.Event as part
use Rattle.dag_cbor_blocks.specs.declared.visit.Event.TheVariants.{Null, Bool as Truth, Integer, Str, Bytes, Link, List as ListBegins, EndOfList, Map, Key, EndOfMap}

-- True if an integer has 128 bits, and the CID of a link is the one that its bytes encode.
abbrev pub IsRead : part.Event → Type 0
IsRead (Link cid encoded left) = read_link 64 encoded.now ≡ Some (link_of cid)
IsRead (Integer number) = FitsSigned w128 number
IsRead _ = Unit {0}

-- The events of a part with `left` bytes after it, and with this mark of a key. A string is not
-- marked as a key, and a key always is. A link has two events: of its tag, with `left` bytes after
-- it, and of its bytes.
abbrev pub events_of : part.Event → ℕ → Bool → List Event
events_of Null left key = (atom none, left, key) ∷ []
events_of (Truth truth) left key = (atom (boolean truth), left, key) ∷ []
events_of (Integer number) left key = (atom (integer number), left, key) ∷ []
events_of (Str string) left key = (atom (text string.now), left, false) ∷ []
events_of (Bytes content) left key = (bytes content.now, left, key) ∷ []
events_of (Link cid encoded behind) left key = (link, left, false) ∷ (bytes encoded.now, behind, key) ∷ []
events_of (ListBegins hint) left key = (seq, left, key) ∷ []
events_of EndOfList left key = (seq_end, left, key) ∷ []
events_of Map left key = (map, left, key) ∷ []
events_of (Key string) left key = (atom (text string.now), left, true) ∷ []
events_of EndOfMap left key = (map_end, left, key) ∷ []

-- True if the visitor `new` comes to the same answer as `old` with these tokens or events first,
-- whatever follows, or if an allocation failed.
abbrev pub Takes : {V A E : Type 0} → (V → List E → A) → V → List E → Result (Unit {0}) AllocError → V → Type 0
Takes {E = E} answer old taken (Ok done) new = (more : List E) → answer new more ≡ answer old (taken ++ more)
Takes answer old taken (Err error) new = Unit {0}

-- True if a visitor has taken all events of a block that has no error, with floats or without. An
-- error is a failed allocation or the error of the bytes.
abbrev pub VisitsEvents : {V A : Type 0} → Bool → (V → List Event → A) → V → List ℕ → Result (Unit {0}) CborError → V → Type 0
VisitsEvents floats answer old block (Ok done) new = ((trace_of floats block).error ≡ None) × (answer new [] ≡ answer old (trace_of floats block).events)
VisitsEvents floats answer old block (Err error) new = (error ≡ Memory) ⊎ ((trace_of floats block).error ≡ Some error)
