use Rattle.std.proofs.Common.{◌≡◌, ℕ, ◌*◌, ◌/◌, ◌++◌, List, [], length, drop, sym, ap, ◌∙◌, arith, append_assoc}
use Rattle.std.proofs.lemmas.List.{append-nil, drop_all}
use Rattle.std.specs.List.{flat_map}
use Rattle.std.specs.Simd.{first_chunks}
use Rattle.ipld_cid.specs.Base32.{base32}
use Rattle.ipld_cid.proofs.Quintets.{base32-pieces}
use Rattle.ipld_cid.proofs.byte_buffer.ByteBuffer.push_base32.Goals as goal

pub returns-clause-written : goal.returns-clause-written
returns-clause-written g c =
    let bytes = c.args.bytes.now in
    let old = c.args.self.now in
    let text = c.loop-block.self in
    let blocks : List (List ℕ) = first_chunks 5 (length bytes / 5) bytes in
    let end : drop c.loop-block.block-index c.as_chunks.result.0.now ≡ [] = drop_all c.loop-block.block-index c.as_chunks.result.0.now c.loop-block-test.false in
    let written : text ≡ old ++ flat_map base32 blocks =
    sym (append-nil text) ∙ ap (λ (xs : List (List ℕ)). text ++ flat_map base32 xs) (sym end) ∙ c.loop-block.invariant.written
    ∙ ap (λ (xs : List (List ℕ)). old ++ flat_map base32 xs) c.as_chunks.ensures.front in
    let whole : base32 bytes ≡ flat_map base32 blocks ++ base32 (drop (length bytes / 5 * 5) bytes) = base32-pieces 5 (length bytes / 5) bytes (omega arith) (omega arith) in
    let last = c.last_letters-count.ensures.letters ∙ ap base32 c.as_chunks.ensures.back in
    c.extend-2.ensures ∙ rw (last, written, whole) (append_assoc old (flat_map base32 blocks) (base32 (drop (length bytes / 5 * 5) bytes)))
