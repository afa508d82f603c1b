-- What callers are told of the spans of a block.
use Rattle.std.proofs.Common.{◌≡◌, ◌≤◌, List, ℕ, length, Result, Ok, Err, inl, inr, sym, subst, ◌∙◌, arith}
use Rattle.std.specs.Prelude.{◌⊎◌, IfOk, IfErr, MatchResult}
use Rattle.ipld_cid.specs.Multihash.{IsBytes}
use Rattle.dag_pb.specs.declared.error.PbError.{PbError}
use Rattle.dag_pb.specs.declared.spans.PbNodeSpans.{PbNodeSpans}
use Rattle.dag_pb.specs.Node.{NodeParts, IsNode}
use Rattle.dag_pb.specs.NodeReading.{read_node}
use Rattle.dag_pb.specs.Spans.{NodeStandsAt, AreSpansOf}
use Rattle.dag_pb.specs.Views.{IsOutOfMemory}
use Rattle.pb_wire.proofs.Steps.{same_ok}
use Rattle.dag_pb.specs.Lemmas.NodeLaws.{node_sound, node_complete}
use Rattle.dag_pb.proofs.Collecting.{node_offset}

abbrev pub Told : List ℕ → Result PbNodeSpans PbError → Type 0
Told bytes result = MatchResult result (λ spans. ((n : NodeParts) × (read_node bytes ≡ Ok n) × NodeStandsAt n bytes spans) × AreSpansOf spans bytes) (λ error. IsOutOfMemory error ⊎ (read_node bytes ≡ Err error))

pub spans_found : (bytes : List ℕ) (result : Result PbNodeSpans PbError) → IsBytes bytes → Told bytes result → IfOk result (λ spans. (n : NodeParts) × IsNode n bytes × NodeStandsAt n bytes spans)
spans_found bytes (Ok spans) whole told = (told.0.0, node_sound bytes told.0.0 whole told.0.1, told.0.2)
spans_found bytes (Err error) whole told = tt

pub spans_only : (bytes : List ℕ) (n : NodeParts) (result : Result PbNodeSpans PbError) → IsNode n bytes → Told bytes result
    → MatchResult result (λ spans. NodeStandsAt n bytes spans) IsOutOfMemory
spans_only bytes n (Ok spans) is told = same_ok (λ (m : NodeParts). NodeStandsAt m bytes spans) told.0.0 n (sym told.0.1 ∙ node_complete bytes n is) told.0.2
spans_only bytes n (Err error) is (inl memory) = memory
spans_only bytes n (Err error) is (inr other) = let whole = node_complete bytes n is in absurd cc

pub spans_places : (bytes : List ℕ) (result : Result PbNodeSpans PbError) → Told bytes result → IfOk result (λ spans. AreSpansOf spans bytes)
spans_places bytes (Ok spans) told = told.1
spans_places bytes (Err error) told = tt

pub spans_errors : (bytes : List ℕ) (result : Result PbNodeSpans PbError) → Told bytes result → IfErr result (λ error. IsOutOfMemory error ⊎ (read_node bytes ≡ Err error))
spans_errors bytes (Ok spans) told = tt
spans_errors bytes (Err error) told = told

pub spans_offset : (bytes : List ℕ) (result : Result PbNodeSpans PbError) → Told bytes result → IfErr result (λ error. error.offset ≤ length bytes)
spans_offset bytes (Ok spans) told = tt
spans_offset bytes (Err error) (inl memory) = subst (λ (e : PbError). e.offset ≤ length bytes) (sym memory) (omega arith)
spans_offset bytes (Err error) (inr is) = node_offset bytes error is
