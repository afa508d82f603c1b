use Rattle.std.proofs.Common.{◌≡◌, ℕ, ◌/◌, ◌++◌, List, length, take, sym, ◌∙◌, arith}
use Rattle.std.proofs.lemmas.List.{take_all}
use Rattle.std.proofs.Output.{has_written_append, has_written_of_eq}
use Rattle.std.specs.List.{flat_map}
use Rattle.std.specs.Simd.{first_chunks}
use Rattle.ipld_cid.specs.Base32.{base32}
use Rattle.ipld_cid.proofs.Quintets.{base32-pieces}
use Rattle.ipld_cid.proofs.base32.write_base32.Goals as goal

pub returns : goal.returns
returns g c =
    let bytes = c.args.bytes.now in
    let pieces : List (List ℕ) = first_chunks 60 (length bytes / 60) bytes in
    let all : take c.loop-piece.piece-index c.as_chunks.result.0.now ≡ pieces =
    take_all c.loop-piece.piece-index c.as_chunks.result.0.now c.loop-piece-test.false ∙ c.as_chunks.ensures.front in
    let whole : flat_map base32 (take c.loop-piece.piece-index c.as_chunks.result.0.now) ++ base32 c.as_chunks.result.1.now ≡ base32 bytes =
    rw (all, c.as_chunks.ensures.back) (sym (base32-pieces 60 (length bytes / 60) bytes (omega arith) (omega arith))) in
    λ plain ok. has_written_of_eq _ _ _ _ _ whole (has_written_append _ _ _ _ _ _ (c.loop-piece.invariant plain) (c.write_piece-2.ensures (c.loop-piece.invariant plain).plain ok))
