-- The result of a checker of the order of keys.
use Rattle.std.specs.Prelude.{ℕ, Bool, ◌&&◌, List, [], ◌∷◌, Option, Some, None}
use Rattle.std.specs.Borrow.{Bor}
use Rattle.dag_cbor_format.specs.KeysAscend.{LastKeys, keys_ascend}
use Rattle.dag_cbor_format.specs.Trace.{Event}
use Rattle.dag_cbor_blocks.specs.declared.canonical.OrderChecker.{OrderChecker}

-- the key that came last in a map, if any
abbrev pub last_of : Option (Bor (List ℕ)) → Option (List ℕ)
last_of None = None
last_of (Some key) = Some key.now

-- the last keys of the open maps, innermost last, inside other maps
abbrev pub lasts_in : List (Option (Bor (List ℕ))) → LastKeys → LastKeys
lasts_in [] outer = outer
lasts_in (k ∷ ks) outer = lasts_in ks (last_of k ∷ outer)

-- the last keys of the open maps, innermost first
abbrev pub lasts_of : OrderChecker → LastKeys
lasts_of checker = lasts_in checker.lasts.items []

-- whether the keys are sorted after these events
abbrev pub sorted_with : OrderChecker → List Event → Bool
sorted_with checker events = checker.is_sorted && keys_ascend (lasts_of checker) events
