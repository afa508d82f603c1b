-- Keys in the order of their arrival.
use Rattle.std.specs.Prelude.{◌≡◌, ℕ, Bool, true, false, List, [], map, fold, Result, Ok, Err}
use Rattle.std.specs.declared.alloc.AllocError.{AllocError}
use Rattle.std.specs.Borrow.{Bor}
use Rattle.dag_cbor_format.specs.Canonical.{goes_first}
use Rattle.dag_cbor_format.specs.Reading.{among, and_key}

abbrev pub keys_now : List (Bor (List ℕ)) → List (List ℕ)
keys_now keys = map (λ k. k.now) keys

-- the keys of a map after these have come, one after another
abbrev pub seen_of : List (List ℕ) → List (List ℕ)
seen_of keys = fold (λ seen key. and_key key seen) [] keys

-- True if no key after `greatest` in length-first order is among `keys`.
abbrev pub IsGreatest : List ℕ → List (List ℕ) → Type 0
IsGreatest greatest keys = (key : List ℕ) → goes_first greatest key ≡ true → among key (seen_of keys) ≡ false

-- True if a new key was added, if the keys already have it, or if an allocation failed and the keys
-- are unchanged.
abbrev pub Adds : List ℕ → List (List ℕ) → Result Bool AllocError → List (List ℕ) → Type 0
Adds key old (Ok true) new = (among key old ≡ false) × (new ≡ and_key key old)
Adds key old (Ok false) new = among key old ≡ true
Adds key old (Err error) new = new ≡ old
