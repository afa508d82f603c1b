use Rattle.std.proofs.Common.{◌≡◌, ◌+◌, ◌*◌, ◌++◌, drop, length}
use Rattle.std.specs.List.{flat_map}
use Rattle.ipld_cid.specs.Base32.{base32}
use Rattle.ipld_cid.proofs.byte_buffer.ByteBuffer.push_base32.Given as goal

abbrev pub invariant-loop-block : goal.invariant-loop-block
invariant-loop-block g l = record {
  written : l.self ++ flat_map base32 (drop l.block-index l.blocks) ≡ l.fn.self ++ flat_map base32 l.blocks;
  len : length l.self ≡ length l.fn.self + 8 * l.block-index;
}
