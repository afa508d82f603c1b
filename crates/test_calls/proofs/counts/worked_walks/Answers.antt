use Rattle.std.proofs.Common.{refl}
use Rattle.test_calls.proofs.Counting.{counted}
use Rattle.test_calls.proofs.counts.worked_walks.Goals as goal

pub returns : goal.returns
returns c = record {
  null = (refl, refl, refl, refl);
  empty_list = (refl, refl, refl, refl);
  two_empty = (refl, refl, refl, refl);
  map_of_a_list = (refl, refl, refl, refl);
  thousand = counted 999;
  any = counted;
}
