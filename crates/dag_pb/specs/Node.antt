-- The blocks of DAG-PB (IPLD's DAG-PB specification). `PBLink` has Hash = 1, Name = 2 and Tsize =
-- 3, at most once and in this order. Here a link always has Hash, and it is the bytes of a CID.
-- `PBNode` has Links = 2, any number, and Data = 1, at most once. The data is before all links or
-- after all of them.
use Rattle.std.specs.Prelude.{◌≡◌, ◌⊎◌, ℕ, List, [], ◌∷◌, ◌++◌, Option, Some, None, IsUtf8}
use Rattle.ipld_cid.specs.Cid.{Link}
use Rattle.ipld_cid.specs.Bytes.{IsCid}
use Rattle.pb_wire.specs.Wire.{IsContent, IsNumberOf, IsContentOf}

-- a link of a node
pub record LinkParts : Type 0 where
  pub hash : Link
  pub name : Option (List ℕ)
  pub tsize : Option ℕ

-- a node: its links, and its data if it has any
pub record NodeParts : Type 0 where
  pub links : List LinkParts
  pub content : Option (List ℕ)

-- True if the bytes are the field Name, or are empty without a name.
abbrev pub IsName : Option (List ℕ) → List ℕ → Type 0
IsName None bytes = bytes ≡ []
IsName (Some name) bytes = IsUtf8 name × IsContent 2 name bytes

-- True if the bytes are the message `PBLink` of this link.
pub record IsLink (link : LinkParts) (bytes : List ℕ) : Type 0 where
  pub cid : List ℕ
  pub hash : List ℕ
  pub name : List ℕ
  pub tsize : List ℕ
  pub cid_encoded : IsCid 64 cid link.hash
  pub hash_encoded : IsContent 1 cid hash
  pub name_encoded : IsName link.name name
  pub tsize_encoded : IsNumberOf 3 link.tsize tsize
  pub encoded : bytes ≡ hash ++ (name ++ tsize)

-- True if the bytes begin with a field Links of this link, and `rest` follows.
pub record BeginsWithLink (link : LinkParts) (bytes rest : List ℕ) : Type 0 where
  pub message : List ℕ
  pub field : List ℕ
  pub message_encoded : IsLink link message
  pub field_encoded : IsContent 2 message field
  pub encoded : bytes ≡ field ++ rest

-- True if the bytes are fields Links, one for every link, in order.
abbrev pub IsLinks : List LinkParts → List ℕ → Type 0
IsLinks [] bytes = bytes ≡ []
IsLinks (link ∷ links) bytes = (rest : List ℕ) × BeginsWithLink link bytes rest × IsLinks links rest

-- True if the bytes are the message `PBNode` of this node (DAG-PB specification, Protocol Buffers).
pub record IsNode (node : NodeParts) (bytes : List ℕ) : Type 0 where
  pub links : List ℕ
  pub content : List ℕ
  pub links_encoded : IsLinks node.links links
  pub content_encoded : IsContentOf 1 node.content content
  pub encoded : (bytes ≡ links ++ content) ⊎ (bytes ≡ content ++ links)
