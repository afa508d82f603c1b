-- This file defines where the extraction of links can run out of memory (the kinds of serde's data
-- model, with links). It allocates at a link that is not in a key, and at the beginning of a list
-- or a map.
use Rattle.std.specs.Prelude.{◌≡◌, ◌≤◌, ◌^◌, ◌⊎◌, ℕ, List, [], ◌∷◌, ◌++◌}
use Rattle.ipld_cid.specs.Cid.{Link}
use Rattle.ipld_cid.specs.Bytes.{IsCid}
use Rattle.ipld_tokens.specs.Token.{TokenModel, bytes, some, variant, link, seq, map}
use Rattle.ipld_tokens.specs.Item.{Item, tokens_of, Parts, parts_tokens, Pairs, pairs_tokens}
use Rattle.ipld_tokens.specs.Fronts.{IsOpen}

-- the open items around a value that is not in a key, from the outside in
pub data Outside (S : ℕ) : Type 0 where
  whole : Outside S
  -- after the mark of an option
  inside_option : Outside S → Outside S
  -- after the name of a variant
  inside_variant : Outside S → List ℕ → Outside S
  -- in a list, after these items
  inside_list : Outside S → Parts S → Outside S
  -- in a map, after these pairs and this key
  inside_map : Outside S → Pairs S → Item S → Outside S

-- the tokens before the value
abbrev pub tokens_before : {S : ℕ} → Outside S → List TokenModel
tokens_before whole = []
tokens_before (inside_option o) = tokens_before o ++ some ∷ []
tokens_before (inside_variant o name) = tokens_before o ++ variant name ∷ []
tokens_before (inside_list o is) = tokens_before o ++ seq ∷ parts_tokens is
tokens_before (inside_map o ps key) = tokens_before o ++ map ∷ (pairs_tokens ps ++ tokens_of key)

-- True if the taken tokens end with a link that is not in a key.
abbrev pub EndsInLink : ℕ → List TokenModel → Type 0
EndsInLink S taken = (o : Outside S) × (b : List ℕ) × (cid : Link) × IsCid S b cid × (taken ≡ tokens_before o ++ link ∷ bytes b ∷ [])

-- True if the taken tokens are the beginning of an item, and end with the beginning of a list or a
-- map.
abbrev pub EndsInOpening : ℕ → List TokenModel → Type 0
EndsInOpening S taken = IsOpen S taken × (front : List TokenModel) × ((taken ≡ front ++ seq ∷ []) ⊎ (taken ≡ front ++ map ∷ []))

-- True if the taken tokens end with a token that allocates: a link that is not in a key, or the
-- beginning of a list or a map.
abbrev pub EndsAllocating : ℕ → List TokenModel → Type 0
EndsAllocating S taken = EndsInLink S taken ⊎ EndsInOpening S taken

-- True if the taken tokens end with bytes after a link mark, and `S` is 2^62 or more. A CID of that
-- size does not fit in memory.
abbrev pub EndsTooLarge : ℕ → List TokenModel → Type 0
EndsTooLarge S taken = (2 ^ 62 ≤ S) × (front : List TokenModel) × (b : List ℕ) × IsOpen S (front ++ link ∷ []) × (taken ≡ front ++ link ∷ bytes b ∷ [])

-- True if `EndsAllocating` or `EndsTooLarge` holds of the taken tokens, and `after` are the others.
abbrev pub RunsOut : ℕ → List TokenModel → List TokenModel → Type 0
RunsOut S before after = (taken : List TokenModel) × (before ≡ taken ++ after) × (EndsAllocating S taken ⊎ EndsTooLarge S taken)
