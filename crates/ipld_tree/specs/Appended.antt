-- Links of the IPLD data model that were added to a list or to a set.
use Rattle.std.specs.Prelude.{◌≡◌, List, [], ◌++◌, map, Bool, true}
use Rattle.ipld_cid.specs.Cid.{Link}
use Rattle.ipld_cid.specs.LinkOf.{link_of}
use Rattle.std.specs.BTreeSet.{BTreeSet}
use Rattle.std.specs.Ordering.{eq_by_cmp, on}
use Rattle.std.specs.Set.{IsUnion}
use Rattle.ipld_cid.specs.Order.{link_cmp}
use Rattle.ipld_cid.specs.declared.cid.CidGeneric.{CidGeneric}

-- True if a prefix of the links was appended to the list, and all of them if `done` is true.
pub record Appends (before after : List (CidGeneric 64)) (links : List Link) (done : Bool) : Type 0 where
  pub added : List (CidGeneric 64)
  pub left_out : List Link
  pub appended : after ≡ before ++ added
  pub beginning : links ≡ map link_of added ++ left_out
  pub whole : done ≡ true → left_out ≡ []

-- True if the set has its old links and a prefix of the links, and all of them if `done` is true.
pub record Inserts (before after : BTreeSet (CidGeneric 64)) (links : List Link) (done : Bool) : Type 0 where
  pub added : List (CidGeneric 64)
  pub left_out : List Link
  pub inserted : IsUnion (eq_by_cmp (on link_of link_cmp)) before.keys added after.keys
  pub beginning : links ≡ map link_of added ++ left_out
  pub whole : done ≡ true → left_out ≡ []
