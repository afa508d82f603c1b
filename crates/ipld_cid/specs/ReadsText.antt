-- The result of reading a text as a `Cid`, without allocation.
use Rattle.std.specs.Prelude.{◌≡◌, ℕ, List, Result, Ok, Err, MatchResult, IfOk, IsOkAnd}
use Rattle.ipld_cid.specs.declared.cid.CidGeneric.{CidGeneric}
use Rattle.ipld_cid.specs.declared.error.CidError.{CidError}
use Rattle.ipld_cid.specs.Cid.{Link}
use Rattle.ipld_cid.specs.LinkOf.{link_of}
use Rattle.ipld_cid.specs.TextReading.{IsText, read_text}

-- True if `result` is the result of reading `text` as a `Cid`. A returned CID is encoded by the
-- text, a CID that the text encodes is returned, and the CID or the error is that of `read_text`.
pub record ReadsText (text : List ℕ) (result : Result (CidGeneric 64) CidError) : Type 0 where
  pub found : IfOk result (λ c. IsText 64 (link_of c) text)
  pub only : (link : Link) → IsText 64 link text → IsOkAnd result (λ c. link_of c ≡ link)
  pub exact : MatchResult result (λ c. read_text 64 text ≡ Ok (link_of c)) (λ error. read_text 64 text ≡ Err error)
