-- The encodings of a map's entries, one after the other.
use Rattle.std.specs.Prelude.{List, [], ℕ, Option, Some, None}
use Rattle.ipld_tree.specs.Tree.{Tree}
use Rattle.dag_cbor_format.specs.Canonical.{canonical, joined, written_text}

-- the encoding of a key and its value, empty without a value, or nothing if it has no encoding
abbrev pub written_entry : List ℕ → Option Tree → Option (List ℕ)
written_entry key None = Some []
written_entry key (Some t) = joined (written_text key) (canonical t)
