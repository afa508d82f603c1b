-- Keys that came in length-first order, held by a reader.
use Rattle.std.specs.Prelude.{◌≡◌, ℕ, Bool, true, false, List, Result, Ok, Err}
use Rattle.std.specs.declared.alloc.AllocError.{AllocError}
use Rattle.dag_cbor_format.specs.Reading.{among, and_key}
use Rattle.dag_cbor_blocks.specs.KeyList.{seen_of, keys_now}
use Rattle.dag_cbor_blocks.specs.declared.keys.AscendingKeys.{AscendingKeys}

-- the model of the keys
abbrev pub keys_in : AscendingKeys → List (List ℕ)
keys_in keys = seen_of (keys_now keys.keys.items)

-- True if a new key was added, or if the keys are unchanged, for example after a failed allocation.
abbrev pub AddsGreatest : List ℕ → List (List ℕ) → Result Bool AllocError → List (List ℕ) → Type 0
AddsGreatest key old (Ok true) new = (among key old ≡ false) × (new ≡ and_key key old)
AddsGreatest key old (Ok false) new = new ≡ old
AddsGreatest key old (Err error) new = new ≡ old
