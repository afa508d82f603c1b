-- The order of the entries of a map in its encoding.
use Rattle.std.specs.Prelude.{ℕ, List, [], ◌∷◌, map, String, string_bytes}
use Rattle.std.specs.Borrow.{Bor}
use Rattle.std.specs.declared.alloc.Global.{Global}
use Rattle.ipld_tree.specs.declared.ipld.Ipld.{Ipld}
use Rattle.dag_cbor_format.specs.Canonical.{placed}

-- an entry of a map, with the bytes of its key
abbrev pub Keyed : Type 0
Keyed = List ℕ × Ipld

abbrev pub after_key : List (String Global × Ipld) → List Keyed
after_key es = map (λ e. (string_bytes e.0, e.1)) es

abbrev pub lent : List (Bor (String Global) × Bor Ipld) → List Keyed
lent es = map (λ e. (string_bytes e.0.now, e.1.now)) es

-- the entries in the order of the keys
abbrev pub in_order : List Keyed → List Keyed
in_order [] = []
in_order (e ∷ es) = placed e.0 e.1 (in_order es)
