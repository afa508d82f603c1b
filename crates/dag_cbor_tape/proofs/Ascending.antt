-- Keys that ascend differ.
use Rattle.std.proofs.Common.{◌≡◌, ℕ, zero, suc, Bool, true, false, List, [], ◌∷◌, length, Option, Some, None, Result, Ok, Err, refl, sym, ap, subst, ◌∙◌}
use Rattle.std.specs.Prelude.{if◌then◌else◌}
use Rattle.ipld_tokens.proofs.Putting.{or}
use Rattle.dag_cbor_format.specs.Canonical.{goes_first}
use Rattle.dag_cbor_format.specs.KeysAscend.{follows}
use Rattle.dag_cbor_format.specs.Reading.{among, and_key}
use Rattle.dag_cbor_format.proofs.Keys.{among-and_key}
use Rattle.dag_cbor_format.proofs.KeyOrder.{first_trans}
use Rattle.dag_cbor_blocks.specs.declared.tape.TapeEntry.{TapeEntry}
use Rattle.dag_cbor_blocks.proofs.KeyTracking.{differs}
use Rattle.dag_cbor_tape.specs.declared.error.Fault.{Fault}
use Rattle.dag_cbor_tape.specs.Errors.{◌>>=◌}
use Rattle.dag_cbor_tape.specs.Structure.{after_key, after_value, ends, is_new, pairs, ascending}

-- a key that may come next is none of those before it
abbrev Fresh : Option (List ℕ) → List (List ℕ) → Type 0
Fresh last seen = (q : List ℕ) → follows last q ≡ true → among q seen ≡ false

followed : (last : Option (List ℕ)) (k q : List ℕ) → follows last k ≡ true → goes_first k q ≡ true → follows last q ≡ true
followed None k q a b = refl
followed (Some j) k q a b = first_trans j k q a b

still_fresh : (last : Option (List ℕ)) (seen : List (List ℕ)) (k : List ℕ) → follows last k ≡ true → Fresh last seen → Fresh (Some k) (and_key k seen)
still_fresh last seen k next fresh q first =
    among-and_key q k seen ∙ ap (λ (b : Bool). or b (among q seen)) (differs k q first) ∙ fresh q (followed last k q next first)

-- what is said of ascending pairs is what is said of pairs
abbrev pub Agree : Result Bool Fault → Result (Unit {0}) Fault → Type 0
Agree (Ok true) whole = whole ≡ Ok tt
Agree (Ok false) whole = Unit {0}
Agree (Err f) whole = whole ≡ Err f

ended : (es : List TapeEntry) → Agree (ends es >>= λ done. Ok true) (ends es)
ended [] = refl
ended (e ∷ es) = refl

-- how many pairs agree where so many do
abbrev Agreeing : List ℕ → ℕ → Type 0
Agreeing over c = (last : Option (List ℕ)) (seen : List (List ℕ)) (es : List TapeEntry) → Fresh last seen → Agree (ascending over c last es) (pairs over c seen es)

with_value : (over : List ℕ) (c : ℕ) → Agreeing over c → (k : List ℕ) (seen : List (List ℕ)) (r : Result (List TapeEntry) Fault) → Fresh (Some k) seen
    → Agree (r >>= λ rest. ascending over c (Some k) rest) (r >>= λ rest. pairs over c seen rest)
with_value over c all k seen (Err f) fresh = refl
with_value over c all k seen (Ok rest) fresh = all (Some k) seen rest fresh

in_order : (over : List ℕ) (c : ℕ) → Agreeing over c → (last : Option (List ℕ)) (seen : List (List ℕ)) (left : ℕ) (k : List ℕ × List TapeEntry) (b : Bool) → follows last k.0 ≡ b → Fresh last seen
    → Agree (if b then (after_value k.1 >>= λ rest. ascending over c (Some k.0) rest) else Ok false)
    (is_new seen k.0 left >>= λ done. after_value k.1 >>= λ rest. pairs over c (and_key k.0 seen) rest)
in_order over c all last seen left k false is fresh = tt
in_order over c all last seen left k true is fresh =
    let none = fresh k.0 is in
    let new : is_new seen k.0 left ≡ Ok tt = rw none refl in
    subst (λ (r : Result (Unit {0}) Fault).
    Agree (after_value k.1 >>= λ rest. ascending over c (Some k.0) rest) (r >>= λ done. after_value k.1 >>= λ rest. pairs over c (and_key k.0 seen) rest)) (sym new)
    (with_value over c all k.0 (and_key k.0 seen) (after_value k.1) (still_fresh last seen k.0 is fresh))

with_key : (over : List ℕ) (c : ℕ) → Agreeing over c → (last : Option (List ℕ)) (seen : List (List ℕ)) (left : ℕ) (r : Result (List ℕ × List TapeEntry) Fault) → Fresh last seen
    → Agree (r >>= λ k. if follows last k.0 then (after_value k.1 >>= λ rest. ascending over c (Some k.0) rest) else Ok false)
    (r >>= λ k. is_new seen k.0 left >>= λ done. after_value k.1 >>= λ rest. pairs over c (and_key k.0 seen) rest)
with_key over c all last seen left (Err f) fresh = refl
with_key over c all last seen left (Ok k) fresh = in_order over c all last seen left k (follows last k.0) refl fresh

agree : (over : List ℕ) (c : ℕ) → Agreeing over c
agree over zero last seen es fresh = ended es
agree over (suc c) last seen es fresh = with_key over c (agree over c) last seen (length es) (after_key over es) fresh

pub agree_first : (over : List ℕ) (c : ℕ) (es : List TapeEntry) (r : Result Bool Fault) → r ≡ ascending over c None es → Agree r (pairs over c [] es)
agree_first over c es r is = subst (λ (x : Result Bool Fault). Agree x (pairs over c [] es)) (sym is) (agree over c None [] es (λ q next. refl))
