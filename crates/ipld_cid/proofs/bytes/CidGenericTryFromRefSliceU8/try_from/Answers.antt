use Rattle.std.proofs.Common.{◌≡◌, ℕ, List, Result, Ok, Err, sym, ◌∙◌, arith}
use Rattle.std.specs.Prelude.{MatchResult}
use Rattle.ipld_cid.specs.declared.cid.CidGeneric.{CidGeneric}
use Rattle.ipld_cid.specs.declared.error.CidError.{CidError}
use Rattle.ipld_cid.specs.Multihash.{IsBytes}
use Rattle.ipld_cid.specs.Cid.{Link}
use Rattle.ipld_cid.specs.Bytes.{read_cid}
use Rattle.ipld_cid.specs.LinkOf.{link_of}
use Rattle.ipld_cid.specs.Reads.{Reads}
use Rattle.ipld_cid.proofs.Encodings.{read_is_encoded, encoded_is_read}
use Rattle.ipld_cid.proofs.bytes.CidGenericTryFromRefSliceU8.try_from.Goals as goal

same_link : (a b : Link) → ◌≡◌ {A = Result Link CidError} (Ok a) (Ok b) → a ≡ b
same_link a b e = cc

-- the exact outcome is the grammar, in both directions
reads : (S : ℕ) (bytes : List ℕ) (r : Result (CidGeneric S) CidError) → IsBytes bytes
    → MatchResult r (λ c. read_cid S bytes ≡ Ok (link_of c)) (λ error. read_cid S bytes ≡ Err error) → Reads S bytes r
reads S bytes (Ok c) is_bytes exact = record {
  found = read_is_encoded S bytes (link_of c) is_bytes exact;
  only = λ link encoded. same_link (link_of c) link (sym exact ∙ encoded_is_read S bytes link encoded);
  exact = exact;
}
reads S bytes (Err error) is_bytes exact = record {
  found = tt;
  only = λ link encoded. absurd (let given = sym exact ∙ encoded_is_read S bytes link encoded in cc);
  exact = exact;
}

pub returns : goal.returns
returns g c = reads g.row.S c.args.bytes.now c.read_cid.result (λ i. omega (arith, c.type_inv.bytes i)) c.read_cid.ensures
