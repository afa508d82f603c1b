-- Whether the keys of every map of a block come in length-first order (RFC 8949, section 4.2.3;
-- DAG-CBOR specification, "Strictness").
use Rattle.std.specs.Prelude.{ℕ, Bool, true, ◌&&◌, List, [], ◌∷◌, Option, Some, None}
use Rattle.ipld_tokens.specs.Token.{TokenModel, atom, text, map, map_end}
use Rattle.dag_cbor_format.specs.Canonical.{goes_first}
use Rattle.dag_cbor_format.specs.Reading.{unless_error}
use Rattle.dag_cbor_format.specs.Trace.{Event, trace_of}

-- the key that came last in every open map, innermost first
abbrev pub LastKeys : Type 0
LastKeys = List (Option (List ℕ))

-- whether a key may come after the last key, if there is one
abbrev pub follows : Option (List ℕ) → List ℕ → Bool
follows None key = true
follows (Some last) key = goes_first last key

-- whether a key may come next in the innermost map
abbrev pub key_follows : LastKeys → List ℕ → Bool
key_follows [] key = true
key_follows (last ∷ outer) key = follows last key

-- the last keys after this key has come in the innermost map
abbrev pub with_key : LastKeys → List ℕ → LastKeys
with_key [] key = []
with_key (last ∷ outer) key = Some key ∷ outer

-- the last keys of the maps outside of the innermost one
abbrev pub outer_maps : LastKeys → LastKeys
outer_maps [] = []
outer_maps (last ∷ outer) = outer

-- whether an event may come next: if it is a key, it goes after the key before it
abbrev pub event_follows : LastKeys → TokenModel → Bool → Bool
event_follows lasts (atom (text s)) true = key_follows lasts s
event_follows lasts t key = true

-- the last keys after an event
abbrev pub lasts_after : LastKeys → TokenModel → Bool → LastKeys
lasts_after lasts (atom (text s)) true = with_key lasts s
lasts_after lasts map key = None ∷ lasts
lasts_after lasts map_end key = outer_maps lasts
lasts_after lasts t key = lasts

-- whether every key goes after the one before it in its map
abbrev pub keys_ascend : LastKeys → List Event → Bool
keys_ascend lasts [] = true
keys_ascend lasts ((t, left, key) ∷ es) = event_follows lasts t key && keys_ascend (lasts_after lasts t key) es

-- Whether every key of a block, with floats or without, goes after the one before it in its map, or
-- nothing if the bytes have an error (RFC 8949, section 4.2.3).
unfoldable pub is_sorted : Bool → List ℕ → Option Bool
is_sorted floats block = unless_error (trace_of floats block).error (Some (keys_ascend [] (trace_of floats block).events))
