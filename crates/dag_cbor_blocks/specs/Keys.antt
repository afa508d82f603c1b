-- The keys of an open map, held by a reader.
use Rattle.std.specs.Prelude.{ℕ, List}
use Rattle.dag_cbor_blocks.specs.KeyList.{keys_now}
use Rattle.dag_cbor_blocks.specs.Ascending.{keys_in}
use Rattle.dag_cbor_blocks.specs.declared.keys.Keys.{Keys}
use Rattle.dag_cbor_blocks.specs.declared.keys.Keys.TheVariants.{Ascending, Any}

-- the model of the keys
abbrev pub seen_in : Keys → List (List ℕ)
seen_in (Ascending keys) = keys_in keys
seen_in (Any keys) = keys_now keys.keys
