-- The result of reading bytes as a CID.
use Rattle.std.specs.Prelude.{◌≡◌, ℕ, List, Result, Ok, Err, MatchResult, IfOk, IsOkAnd}
use Rattle.ipld_cid.specs.declared.cid.CidGeneric.{CidGeneric}
use Rattle.ipld_cid.specs.declared.error.CidError.{CidError}
use Rattle.ipld_cid.specs.Bytes.{IsCid, read_cid}
use Rattle.ipld_cid.specs.Cid.{Link}
use Rattle.ipld_cid.specs.LinkOf.{link_of}

-- True if `result` is the result of reading `bytes` as a CID. A returned CID is encoded by the
-- bytes, a CID that the bytes encode is returned, and the CID or the error is that of `read_cid`.
pub record Reads (S : ℕ) (bytes : List ℕ) (result : Result (CidGeneric S) CidError) : Type 0 where
  pub found : IfOk result (λ c. IsCid S bytes (link_of c))
  pub only : (link : Link) → IsCid S bytes link → IsOkAnd result (λ c. link_of c ≡ link)
  pub exact : MatchResult result (λ c. read_cid S bytes ≡ Ok (link_of c)) (λ error. read_cid S bytes ≡ Err error)
