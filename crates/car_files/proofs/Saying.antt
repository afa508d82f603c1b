-- What is said of links that were added in another order.
use Rattle.std.proofs.Common.{◌≡◌, ℕ, Bool, not, ◌==◌, List, length, map, reverse, Option, subst}
use Rattle.ipld_cid.specs.LinkOf.{link_of}
use Rattle.ipld_cid.specs.declared.cid.CidGeneric.{CidGeneric}
use Rattle.car_files.specs.Carried.{carrier, CarriesFaults}
use Rattle.car_files.specs.Complaints.{ComplainsOfEach, SaysOfLinks}
use Rattle.car_files.specs.declared.adding.CarriedFault.{CarriedFault}
use Rattle.car_files.proofs.Naming.{faults_reversed}
use Rattle.car_files.proofs.Streams.{lines_to}

-- the lines about those at fault among links that were added in the reverse order
pub says_reversed : (label : List ℕ) (begin : ℕ) (cids other : List (CidGeneric 64)) (faults : List CarriedFault) (erred errs : Option (List ℕ)) (b : Bool)
    → other ≡ reverse cids → CarriesFaults (map link_of other) faults → ComplainsOfEach (lines_to label erred errs) begin (map carrier faults) → b ≡ not (length faults == 0)
    → SaysOfLinks (lines_to label erred errs) begin (map link_of cids) b
says_reversed label begin cids other faults erred errs b is c e n = record {
  lines = e.lines;
  said = record {
    faults = faults;
    carried = faults_reversed cids faults (subst (λ (xs : List (CidGeneric 64)). CarriesFaults (map link_of xs) faults) is c);
    are_lines = e.are_lines;
    is_invalid = n;
  };
  complained = e.complained;
}
