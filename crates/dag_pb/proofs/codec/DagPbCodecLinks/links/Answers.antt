use Rattle.std.proofs.Common.{◌≡◌, ◌⊎◌, inl, inr, ℕ, List, None, Err, refl, sym, ap, subst}
use Rattle.std.specs.Prelude.{MatchOption}
use Rattle.std.specs.Result.{result_ok}
use Rattle.ipld_codec.specs.Codec.{memory}
use Rattle.dag_pb.specs.Codec.{pb_found, pb_failure, kind_failure}
use Rattle.dag_pb.specs.NodeReading.{links_found}
use Rattle.dag_pb.specs.Views.{IsOutOfMemory}
use Rattle.dag_pb.specs.declared.error.PbError.{PbError}
use Rattle.dag_pb.specs.declared.error.PbErrorKind.{PbErrorKind}
use Rattle.dag_pb.specs.declared.error.PbErrorKind.TheVariants as kind
use Rattle.dag_pb.proofs.codec.DagPbCodecLinks.links.Goals as goal

-- an error of this kind, where the bytes are no block
reported : (k : PbErrorKind) (P : Type 0) → P → MatchOption (kind_failure k) P (λ failure. failure ≡ memory)
reported kind.Memory P p = refl
reported kind.End P p = p
reported kind.VarintTooLarge P p = p
reported (kind.UnknownField key) P p = p
reported kind.FieldOrder P p = p
reported kind.NoHash P p = p
reported (kind.Cid error) P p = p
reported kind.Utf8 P p = p

no_links : (bytes : List ℕ) (e : PbError) → IsOutOfMemory e ⊎ (links_found bytes ≡ Err e) → MatchOption (pb_failure e) (pb_found bytes ≡ None) (λ failure. failure ≡ memory)
no_links bytes e (inl memory_is) = subst (λ (f : PbError). MatchOption (pb_failure f) (pb_found bytes ≡ None) (λ failure. failure ≡ memory)) (sym memory_is) refl
no_links bytes e (inr first) = reported e.kind (pb_found bytes ≡ None) (ap result_ok first)

pub returns-in-Err-clause-err : goal.returns-in-Err-clause-err
returns-in-Err-clause-err c = no_links c.args.bytes.now c.in-Err.error c.in-Err.ensures.exact
