-- The fields of a node, read one after the other.
use Rattle.std.proofs.Common.{◌≡◌, ℕ, zero, suc, ◌-◌, ◌<◌, ◌≤◌, Bool, true, false, cond, eqb, List, [], ◌∷◌, length, Option, Some, None, Result, Ok, Err, refl, ap, ◌∙◌, arith}
use Rattle.pb_wire.specs.declared.error.WireError.{WireError}
use Rattle.dag_pb.specs.declared.error.PbErrorKind.{PbErrorKind}
use Rattle.dag_pb.specs.declared.error.PbErrorKind.TheVariants.{UnknownField}
use Rattle.dag_pb.specs.declared.error.Fault.{Fault}
use Rattle.dag_pb.specs.declared.reader.Stage.{Stage}
use Rattle.pb_wire.specs.Steps.{◌>>=◌}
use Rattle.dag_pb.specs.Errors.{at, of_wire, before}
use Rattle.dag_pb.specs.Node.{LinkParts, NodeParts}
use Rattle.pb_wire.specs.Reading.{read_from, read_varint, read_content}
use Rattle.dag_pb.specs.LinkReading.{read_link}
use Rattle.dag_pb.specs.NodeReading.{Field, link, content, after_link, after_data, link_field, data_field, link_part, data_part, keyed, read_part, empty_node, with_field, run, read_fields}
use Rattle.pb_wire.proofs.Steps.{bind_ok, same_ok, same_then}
use Rattle.pb_wire.proofs.Shorter.{varint_shorter, content_shorter}

-- ---- what follows a field is shorter

pub at_ok : {A : Type 0} (left : ℕ) (r : Result A PbErrorKind) (x : A) → at left r ≡ Ok x → r ≡ Ok x
at_ok left (Ok y) x e = cc
at_ok left (Err k) x e = absurd cc

-- the value that reading the wire format returned
pub at_wire_ok : {A : Type 0} (left : ℕ) (r : Result A WireError) (x : A) → at left (of_wire r) ≡ Ok x → r ≡ Ok x
at_wire_ok left (Ok y) x e = cc
at_wire_ok left (Err d) x e = absurd cc

pub before_ok : {A : Type 0} (more : ℕ) (r : Result A Fault) (x : A) → before more r ≡ Ok x → r ≡ Ok x
before_ok more (Ok y) x e = cc
before_ok more (Err k) x e = absurd cc

-- the third parts of equal triples are as long
same_rest : (a b : Field) (s t : Stage) (x y : List ℕ) → ◌≡◌ {A = Result (Field × Stage × List ℕ) Fault} (Ok (a, s, x)) (Ok (b, t, y)) → length x ≡ length y
same_rest a b s t x y e = same_ok (λ (p : Field × Stage × List ℕ). length x ≡ length p.2) (a, s, x) (b, t, y) e refl

same_pair : (a b : LinkParts) (x y : List ℕ) → ◌≡◌ {A = Result (LinkParts × List ℕ) Fault} (Ok (a, x)) (Ok (b, y)) → length x ≡ length y
same_pair a b x y e = same_ok (λ (p : LinkParts × List ℕ). length x ≡ length p.1) (a, x) (b, y) e refl

link_field_shorter : (left : ℕ) (bytes : List ℕ) (l : LinkParts) (rest : List ℕ) → link_field left bytes ≡ Ok (l, rest) → length rest < length bytes
unfolding link_field
link_field_shorter left bytes l rest e =
    let found = bind_ok (at left (of_wire (read_content bytes))) (λ found. before (length found.1) (read_link found.0) >>= λ l. Ok (l, found.1)) (l, rest) e in
    let inner = bind_ok (before (length found.0.1) (read_link found.0.0)) (λ l. Ok (l, found.0.1)) (l, rest) found.2 in
    let same = same_pair inner.0 l found.0.1 rest inner.2 in
    let less = content_shorter bytes found.0.0 found.0.1 (at_wire_ok left (read_content bytes) found.0 found.1) in
    omega arith

link_part_shorter : (left : ℕ) (bytes : List ℕ) (next : Option Stage) (f : Field) (s : Stage) (rest : List ℕ) → link_part left bytes next ≡ Ok (f, s, rest) → length rest < length bytes
link_part_shorter left bytes None f s rest e = absurd cc
link_part_shorter left bytes (Some next) f s rest e =
    let found = bind_ok (link_field left bytes) (λ found. Ok (link found.0, next, found.1)) (f, s, rest) e in
    let same = same_rest (link found.0.0) f next s found.0.1 rest found.2 in
    let less = link_field_shorter left bytes found.0.0 found.0.1 found.1 in
    omega arith

data_part_shorter : (left : ℕ) (bytes : List ℕ) (next : Option Stage) (f : Field) (s : Stage) (rest : List ℕ) → data_part left bytes next ≡ Ok (f, s, rest) → length rest < length bytes
unfolding data_field
data_part_shorter left bytes None f s rest e = absurd cc
data_part_shorter left bytes (Some next) f s rest e =
    let found = bind_ok (at left (of_wire (read_content bytes))) (λ found. Ok (content found.0, next, found.1)) (f, s, rest) e in
    let same = same_rest (content found.0.0) f next s found.0.1 rest found.2 in
    let less = content_shorter bytes found.0.0 found.0.1 (at_wire_ok left (read_content bytes) found.0 found.1) in
    omega arith

-- a choice by two tests, whatever they say
chosen : {A : Type 0} (P : A → Type 0) (first second : Bool) (x y z : A) → P x → P y → P z → P (cond first x (cond second y z))
chosen P true second x y z p q r = p
chosen P false true x y z p q r = q
chosen P false false x y z p q r = r

keyed_shorter : (stage : Stage) (left key : ℕ) (bytes : List ℕ) (f : Field) (s : Stage) (rest : List ℕ) → keyed stage left key bytes ≡ Ok (f, s, rest) → length rest < length bytes
keyed_shorter stage left key bytes f s rest =
    chosen (λ (r : Result (Field × Stage × List ℕ) Fault). r ≡ Ok (f, s, rest) → length rest < length bytes) (eqb key 18) (eqb key 10)
    (link_part left bytes (after_link stage)) (data_part left bytes (after_data stage)) (Err (record { kind = UnknownField key; left = left }))
    (link_part_shorter left bytes (after_link stage) f s rest)
    (data_part_shorter left bytes (after_data stage) f s rest)
    (λ e. absurd cc)

pub part_shorter : (stage : Stage) (bytes : List ℕ) (part : Field × Stage × List ℕ) → read_part stage bytes ≡ Ok part → length part.2 < length bytes
unfolding read_part read_varint
part_shorter stage bytes part e =
    let key = bind_ok (at (length bytes) (of_wire (read_from 0 bytes))) (λ key. keyed stage (length bytes) key.0 key.1) part e in
    let less = varint_shorter 0 key.0.0 bytes key.0.1 (at_wire_ok (length bytes) (read_from 0 bytes) key.0 key.1) in
    let more = keyed_shorter stage (length bytes) key.0.0 key.0.1 part.0 part.1 part.2 key.2 in
    omega arith

-- ---- one field, and then the others

-- enough fields are enough
run_enough : (fields more : ℕ) (stage : Stage) (bytes : List ℕ) → length bytes ≤ fields → length bytes ≤ more → run fields stage bytes ≡ run more stage bytes
run_enough fields more stage [] few many = refl
run_enough zero more stage (b ∷ bytes) few many = absurd (omega arith)
run_enough (suc fields) zero stage (b ∷ bytes) few many = absurd (omega arith)
run_enough (suc fields) (suc more) stage (b ∷ bytes) few many =
    same_then (read_part stage (b ∷ bytes))
    (λ part. run fields part.1 part.2 >>= λ node. Ok (with_field part.0 node))
    (λ part. run more part.1 part.2 >>= λ node. Ok (with_field part.0 node))
    (λ part read.
    let less = part_shorter stage (b ∷ bytes) part read in
    ap (λ (r : Result NodeParts Fault). r >>= λ node. Ok (with_field part.0 node)) (run_enough fields more part.1 part.2 (omega arith) (omega arith)))

-- a field, and then the others
unwound : (stage : Stage) (b : ℕ) (bytes : List ℕ)
    → read_fields stage (b ∷ bytes) ≡ (read_part stage (b ∷ bytes) >>= λ part. read_fields part.1 part.2 >>= λ node. Ok (with_field part.0 node))
unfolding read_fields
unwound stage b bytes =
    same_then (read_part stage (b ∷ bytes))
    (λ part. run (length bytes) part.1 part.2 >>= λ node. Ok (with_field part.0 node))
    (λ part. run (length part.2) part.1 part.2 >>= λ node. Ok (with_field part.0 node))
    (λ part read.
    let less = part_shorter stage (b ∷ bytes) part read in
    ap (λ (r : Result NodeParts Fault). r >>= λ node. Ok (with_field part.0 node)) (run_enough (length bytes) (length part.2) part.1 part.2 (omega arith) (omega arith)))

-- nothing is left
pub ends : (stage : Stage) (bytes : List ℕ) → length bytes ≡ 0 → read_fields stage bytes ≡ Ok empty_node
unfolding read_fields
ends stage [] none = refl
ends stage (b ∷ bytes) none = absurd (omega arith)

-- a field was read
pub goes_on : (stage : Stage) (bytes : List ℕ) (f : Field) (next : Stage) (rest : List ℕ) → 0 < length bytes → read_part stage bytes ≡ Ok (f, next, rest)
    → read_fields stage bytes ≡ (read_fields next rest >>= λ node. Ok (with_field f node))
goes_on stage [] f next rest some read = absurd (omega arith)
goes_on stage (b ∷ bytes) f next rest some read =
    unwound stage b bytes ∙ ap (λ (r : Result (Field × Stage × List ℕ) Fault). r >>= λ part. read_fields part.1 part.2 >>= λ node. Ok (with_field part.0 node)) read

-- a field was at fault
pub stops_at : (stage : Stage) (bytes : List ℕ) (fault : Fault) → 0 < length bytes → read_part stage bytes ≡ Err fault → read_fields stage bytes ≡ Err fault
stops_at stage [] fault some read = absurd (omega arith)
stops_at stage (b ∷ bytes) fault some read =
    unwound stage b bytes ∙ ap (λ (r : Result (Field × Stage × List ℕ) Fault). r >>= λ part. read_fields part.1 part.2 >>= λ node. Ok (with_field part.0 node)) read
