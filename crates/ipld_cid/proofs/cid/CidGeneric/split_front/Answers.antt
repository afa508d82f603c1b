use Rattle.std.proofs.Common.{◌≡◌, ℕ, List, Result, Ok, Err, arith, Bor}
use Rattle.std.specs.Prelude.{MatchResult, IfOk, IfErr, IsOkAnd}
use Rattle.ipld_cid.specs.declared.cid.CidGeneric.{CidGeneric}
use Rattle.ipld_cid.specs.declared.error.CidError.{CidError}
use Rattle.ipld_cid.specs.Multihash.{IsBytes}
use Rattle.ipld_cid.specs.Cid.{Link}
use Rattle.ipld_cid.specs.LinkOf.{link_of}
use Rattle.ipld_cid.specs.Bytes.{read_cid}
use Rattle.ipld_cid.specs.Front.{BeginsWith, split_cid}
use Rattle.ipld_cid.proofs.Fronts.{split_found, split_same, split_none, split_error}
use Rattle.ipld_cid.proofs.cid.CidGeneric.split_front.Goals as goal

-- what is returned, with the bytes after the CID as they are lent
abbrev Split : ℕ → Type 0
Split S = Result (CidGeneric S × Bor (List ℕ)) CidError

-- the exact outcome
abbrev Exact : (S : ℕ) → List ℕ → Split S → Type 0
Exact S bytes result = MatchResult result (λ split. split_cid S bytes ≡ Ok (link_of split.0, split.1.now)) (λ error. split_cid S bytes ≡ Err error)

found : (S : ℕ) (bytes : List ℕ) (result : Split S) → IsBytes bytes → Exact S bytes result → IfOk result (λ split. BeginsWith S bytes (link_of split.0) split.1.now)
found S bytes (Ok split) is_bytes exact = split_found S bytes split.0 split.1.now is_bytes exact
found S bytes (Err error) is_bytes exact = tt

only : (S : ℕ) (bytes : List ℕ) (result : Split S) → Exact S bytes result → (link : Link) (rest : List ℕ) → BeginsWith S bytes link rest
    → IsOkAnd result (λ split. (link_of split.0 ≡ link) × (split.1.now ≡ rest))
only S bytes (Ok split) exact link rest begins = split_same S bytes split.0 split.1.now exact link rest begins
only S bytes (Err error) exact link rest begins = absurd (split_none S bytes error exact link rest begins)

same_error : (S : ℕ) (bytes : List ℕ) (result : Split S) → Exact S bytes result → IfErr result (λ error. read_cid S bytes ≡ Err error)
same_error S bytes (Ok split) exact = tt
same_error S bytes (Err error) exact = split_error S bytes error exact

pub returns-clause-found : goal.returns-clause-found
returns-clause-found g c = found g.row.S c.args.bytes.now c.split_cid.result (λ i. omega (arith, c.type_inv.bytes i)) c.split_cid.ensures

pub returns-clause-only : goal.returns-clause-only
returns-clause-only g c = only g.row.S c.args.bytes.now c.split_cid.result c.split_cid.ensures

pub returns-clause-error : goal.returns-clause-error
returns-clause-error g c = same_error g.row.S c.args.bytes.now c.split_cid.result c.split_cid.ensures
