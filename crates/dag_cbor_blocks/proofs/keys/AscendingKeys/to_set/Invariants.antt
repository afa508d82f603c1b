use Rattle.std.proofs.Common.{◌≡◌, take}
use Rattle.dag_cbor_blocks.specs.KeyList.{keys_now, seen_of}
use Rattle.dag_cbor_blocks.proofs.keys.AscendingKeys.to_set.Given as goal

abbrev pub invariant-loop-key : goal.invariant-loop-key
invariant-loop-key l = keys_now l.set.keys ≡ seen_of (keys_now (take l.key-index l.self.keys.items))
