use Rattle.std.proofs.Common.{◌≡◌, Some, map, take}
use Rattle.ipld_ser.specs.Builders.{fed}
use Rattle.ipld_ser.specs.Composites.{all_of}
use Rattle.ipld_ser.proofs.composites.list_of.Given as goal

abbrev pub invariant-loop-item : goal.invariant-loop-item
invariant-loop-item g l = all_of (map g.T.Serialize.image (take l.item-index l.items)) ≡ Some (fed l.list)
