-- This file defines items, which are whole values of the kinds of serde's data model with links. It
-- also defines their tokens and their links.
use Rattle.std.specs.Prelude.{ℕ, List, [], ◌∷◌, ◌++◌}
use Rattle.ipld_cid.specs.Cid.{Link}
use Rattle.ipld_cid.specs.Bytes.{IsCid}
use Rattle.ipld_tokens.specs.Token.{Atom, TokenModel, atom, bytes, some, variant, link, seq, seq_end, map, map_end}

mutual
  -- the whole values: a scalar, bytes, an option with its content, a variant with its content, a
  -- list, a map of pairs of items, or a link. The bytes of a link are a CID with a digest of at
  -- most `S` bytes.
  pub data Item (S : ℕ) : Type 0 where
    atom_item : Atom → Item S
    bytes_item : List ℕ → Item S
    some_item : Item S → Item S
    variant_item : List ℕ → Item S → Item S
    list_item : Parts S → Item S
    map_item : Pairs S → Item S
    link_item : (encoded : List ℕ) (cid : Link) → IsCid S encoded cid → Item S

  -- the items of a list, in order
  pub data Parts (S : ℕ) : Type 0 where
    no_parts : Parts S
    part : Item S → Parts S → Parts S

  -- the keys and values of a map, in order
  pub data Pairs (S : ℕ) : Type 0 where
    no_pairs : Pairs S
    pair : Item S → Item S → Pairs S → Pairs S

abbrev mutual
  -- the tokens of an item
  pub tokens_of : {S : ℕ} → Item S → List TokenModel
  tokens_of (atom_item a) = atom a ∷ []
  tokens_of (bytes_item b) = bytes b ∷ []
  tokens_of (some_item i) = some ∷ tokens_of i
  tokens_of (variant_item name i) = variant name ∷ tokens_of i
  tokens_of (list_item is) = seq ∷ (parts_tokens is ++ seq_end ∷ [])
  tokens_of (map_item ps) = map ∷ (pairs_tokens ps ++ map_end ∷ [])
  tokens_of (link_item encoded cid is) = link ∷ bytes encoded ∷ []

  pub parts_tokens : {S : ℕ} → Parts S → List TokenModel
  parts_tokens no_parts = []
  parts_tokens (part i is) = tokens_of i ++ parts_tokens is

  pub pairs_tokens : {S : ℕ} → Pairs S → List TokenModel
  pairs_tokens no_pairs = []
  pairs_tokens (pair key value ps) = tokens_of key ++ (tokens_of value ++ pairs_tokens ps)

abbrev mutual
  -- the links of an item in the order of its tokens, with repetitions, except links in keys
  pub links_in : {S : ℕ} → Item S → List Link
  links_in (atom_item a) = []
  links_in (bytes_item b) = []
  links_in (some_item i) = links_in i
  links_in (variant_item name i) = links_in i
  links_in (list_item is) = parts_links is
  links_in (map_item ps) = pairs_links ps
  links_in (link_item encoded cid is) = cid ∷ []

  pub parts_links : {S : ℕ} → Parts S → List Link
  parts_links no_parts = []
  parts_links (part i is) = links_in i ++ parts_links is

  pub pairs_links : {S : ℕ} → Pairs S → List Link
  pairs_links no_pairs = []
  pairs_links (pair key value ps) = links_in value ++ pairs_links ps
