-- This file specifies the result of extracting links: the links of the first item, or a rejection
-- of the first token that makes an item impossible.
use Rattle.std.specs.Prelude.{◌≡◌, ℕ, List, [], ◌∷◌, ◌++◌, map, Err}
use Rattle.ipld_cid.specs.declared.error.CidError.{CidError}
use Rattle.ipld_cid.specs.Cid.{Link}
use Rattle.ipld_cid.specs.LinkOf.{link_of}
use Rattle.ipld_cid.specs.Bytes.{read_cid}
use Rattle.ipld_tokens.specs.Token.{TokenModel, bytes, link}
use Rattle.ipld_tokens.specs.Fronts.{IsItem, IsOpen}
use Rattle.ipld_tokens.specs.declared.extract_links.ExtractLinks.{ExtractLinks}

-- the links of the result, in order
abbrev pub links_at : {S : ℕ} → ExtractLinks S → List Link
links_at x = map link_of x.links.items

-- True if the taken tokens are the beginning of an item that has more tokens, and `after` are the
-- others.
abbrev pub LeavesOpen : ℕ → List TokenModel → List TokenModel → Type 0
LeavesOpen S before after = (taken : List TokenModel) × (before ≡ taken ++ after) × IsOpen S taken

-- True if `front` is the beginning of an item that has more tokens, and `front` with `t` is neither
-- an item nor the beginning of one.
abbrev pub IsRejected : ℕ → List TokenModel → TokenModel → Type 0
IsRejected S front t = IsOpen S front × (IsOpen S (front ++ t ∷ []) → ⊥) × (IsItem S (front ++ t ∷ []) → ⊥)

-- True if `t` is bytes, and `front` ends with a link mark.
abbrev pub IsLinkBytes : List TokenModel → TokenModel → Type 0
IsLinkBytes front t = (fore : List TokenModel) × (b : List ℕ) × (front ≡ fore ++ link ∷ []) × (t ≡ bytes b)

-- True if a token was rejected that is not bytes after a link mark, and `after` are the tokens
-- after it.
abbrev pub RejectsToken : ℕ → List TokenModel → List TokenModel → Type 0
RejectsToken S before after =
    (front : List TokenModel) × (t : TokenModel) × (before ≡ front ++ t ∷ after) × IsRejected S front t × (IsLinkBytes front t → ⊥)

-- True if bytes after a link mark were rejected, reading them as a CID fails with `cid_error`, and
-- `after` are the tokens after them.
abbrev pub RejectsCid : ℕ → CidError → List TokenModel → List TokenModel → Type 0
RejectsCid S cid_error before after =
    (fore : List TokenModel) × (b : List ℕ) × (before ≡ (fore ++ link ∷ []) ++ bytes b ∷ after) × IsRejected S (fore ++ link ∷ []) (bytes b) × (read_cid S b ≡ Err cid_error)
