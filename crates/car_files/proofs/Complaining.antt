-- Lines about what is at fault, written one after the other.
use Rattle.std.proofs.Common.{◌≡◌, ℕ, ◌+◌, ◌<◌, List, [], ◌∷◌, ◌++◌, length, map, take, get_or, codes, decimal, Option, refl, sym, ap, subst, ◌∙◌, append_assoc, append-nil}
use Rattle.std.proofs.lemmas.List.{map-append, take_more}
use Rattle.std.proofs.KnownBytes.{Appends-nil, Appends-trans}
use Rattle.std.specs.Io.KnownBytes.{Appends}
use Rattle.ipld_cid.specs.Cid.{Link}
use Rattle.ipld_block.specs.Texts.{usual_text}
use Rattle.car_files.specs.Carried.{carrier}
use Rattle.car_files.specs.declared.adding.CarriedFault.{CarriedFault}
use Rattle.car_files.specs.Complaints.{Complains, AreComplaints, ComplainsOfEach}
use Rattle.car_files.specs.Written.{IsComplaint}
use Rattle.car_files.proofs.Writing.{five}
use Rattle.car_files.proofs.Streams.{lines_to}

-- a line about a block was written
pub complains : (label : List ℕ) (begin : ℕ) (cid : Link) (written sentence : List ℕ) (a b c d e f : Option (List ℕ)) → written ≡ label → Appends a b written
    → Appends b c (usual_text cid) → Appends c d (codes " at byte " ++ (decimal begin ++ codes ": ")) → Appends d e sentence → Appends e f (codes "\n")
    → Complains (lines_to label a f) begin cid
complains label begin cid written sentence a b c d e f same p q r s t = record {
  line = label ++ usual_text cid ++ (codes " at byte " ++ (decimal begin ++ codes ": ")) ++ sentence ++ codes "\n";
  is_line = (sentence, refl);
  complained = five a b c d e f label (usual_text cid) (codes " at byte " ++ (decimal begin ++ codes ": ")) sentence (codes "\n") (subst (Appends a b) same p) q r s t;
}

-- a line more
more_lines : (label : List ℕ) (begin : ℕ) (cids : List Link) (cid : Link) (lines line : List ℕ) → AreComplaints label begin cids lines → IsComplaint label begin cid line
    → AreComplaints label begin (cids ++ cid ∷ []) (lines ++ line)
more_lines label begin [] cid lines line a c = (line, [], ap (λ (xs : List ℕ). xs ++ line) a ∙ sym (append-nil line), c, refl)
more_lines label begin (x ∷ cids) cid lines line a c =
    (a.0, a.1 ++ line, ap (λ (xs : List ℕ). xs ++ line) a.2 ∙ append_assoc a.0 a.1 line, a.3, more_lines label begin cids cid a.1 line a.4 c)

pub none_complained : (label : List ℕ) (begin : ℕ) (erred : Option (List ℕ)) → ComplainsOfEach (lines_to label erred erred) begin []
none_complained label begin erred = record { lines = []; are_lines = refl; complained = Appends-nil erred }

one_complained : (label : List ℕ) (begin : ℕ) (cids : List Link) (cid : Link) (erred erring errs : Option (List ℕ)) → ComplainsOfEach (lines_to label erred erring) begin cids
    → Complains (lines_to label erring errs) begin cid → ComplainsOfEach (lines_to label erred errs) begin (cids ++ cid ∷ [])
one_complained label begin cids cid erred erring errs e c = record {
  lines = e.lines ++ c.line;
  are_lines = more_lines label begin cids cid e.lines c.line e.are_lines c.is_line;
  complained = Appends-trans erred erring errs e.lines c.line e.complained c.complained;
}

-- the line about the next of the CIDs at fault
pub next_complained : (label : List ℕ) (begin : ℕ) (faults : List CarriedFault) (i : ℕ) (fault : CarriedFault) (erred erring errs : Option (List ℕ)) → i < length faults
    → fault ≡ get_or faults i fault → ComplainsOfEach (lines_to label erred erring) begin (map carrier (take i faults)) → Complains (lines_to label erring errs) begin (carrier fault)
    → ComplainsOfEach (lines_to label erred errs) begin (map carrier (take (i + 1) faults))
next_complained label begin faults i fault erred erring errs within is e c =
    let one : map carrier (take (i + 1) faults) ≡ map carrier (take i faults) ++ carrier fault ∷ [] =
    ap (map carrier) (take_more faults i fault within ∙ ap (λ (f : CarriedFault). take i faults ++ f ∷ []) (sym is)) ∙ map-append carrier (take i faults) (fault ∷ []) in
    subst (λ (cids : List Link). ComplainsOfEach (lines_to label erred errs) begin cids) (sym one)
    (one_complained label begin (map carrier (take i faults)) (carrier fault) erred erring errs e c)
