-- The IPLD data model (ipld.io, "The IPLD Data Model"): the kinds and the contents of their values.
-- Floats are left out.
use Rattle.std.specs.Prelude.{ℕ, ℤ, List, Bool}
use Rattle.ipld_cid.specs.Cid.{Link}

mutual
  -- The values of the data model: null, a Boolean, an integer, a string, bytes, a list, a map as a
  -- sequence of its entries, or a link (The IPLD Data Model, kinds; floats are left out).
  pub data Tree : Type 0 where
    null : Tree
    boolean : Bool → Tree
    integer : ℤ → Tree
    text : List ℕ → Tree
    bytes : List ℕ → Tree
    list : Items → Tree
    entries : Members → Tree
    link : Link → Tree

  -- the items of a list, in order
  pub data Items : Type 0 where
    no_items : Items
    item : Tree → Items → Items

  -- the entries of a map, in order. A key is the bytes of a string.
  pub data Members : Type 0 where
    no_members : Members
    member : List ℕ → Tree → Members → Members
