-- The models of the code's indexes and lookup results, for the definitions on trees of the IPLD
-- data model.
use Rattle.std.specs.Prelude.{Option, option_map, Result, Ok, Err, string_bytes}
use Rattle.std.specs.Borrow.{Bor}
use Rattle.ipld_tree.specs.Tree.{Tree}
use Rattle.ipld_tree.specs.TreeOf.{tree_of}
use Rattle.ipld_tree.specs.Index.{Index, number, name, name_ref, LookupError, no_number, no_container}
use Rattle.ipld_tree.specs.declared.ipld.Ipld.{Ipld}
use Rattle.ipld_tree.specs.declared.index.IpldIndex.{IpldIndex}
use Rattle.ipld_tree.specs.declared.index.IpldIndex.TheVariants.{List, Map, MapRef}
use Rattle.ipld_tree.specs.declared.index.IndexError.{IndexError}
use Rattle.ipld_tree.specs.declared.index.IndexError.TheVariants.{ParseInteger, WrongKind}

-- the model of an index
abbrev pub index_of : IpldIndex → Index
index_of (List n) = number n
index_of (Map s) = name (string_bytes s)
index_of (MapRef s) = name_ref s.now

-- the model of a lookup's error, with the index or the kind that it carries
abbrev pub lookup_error_of : IndexError → LookupError
lookup_error_of (ParseInteger i) = no_number (index_of i)
lookup_error_of (WrongKind k) = no_container k

-- the model of a lookup that borrows the value: the tree that was found, nothing, or the error
abbrev pub outcome_of_get : Result (Option (Bor Ipld)) IndexError → Result (Option Tree) LookupError
outcome_of_get (Ok found) = Ok (option_map (λ v. tree_of v.now) found)
outcome_of_get (Err e) = Err (lookup_error_of e)

-- the model of a lookup that takes the value: the tree that was found, nothing, or the error
abbrev pub outcome_of_take : Result (Option Ipld) IndexError → Result (Option Tree) LookupError
outcome_of_take (Ok found) = Ok (option_map tree_of found)
outcome_of_take (Err e) = Err (lookup_error_of e)
