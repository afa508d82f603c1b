-- The loops over the fields of a block, and what their callers are told.
use Rattle.std.proofs.Common.{◌≡◌, ℕ, ◌<◌, ◌≤◌, List, [], ◌∷◌, ◌++◌, length, Result, Ok, Err, inl, inr, refl, sym, ap, subst, ◌∙◌, arith}
use Rattle.std.specs.Prelude.{◌⊎◌, IfOk, IfErr, MatchResult}
use Rattle.std.proofs.lemmas.List.{append-nil}
use Rattle.ipld_cid.specs.Cid.{Link as CidLink}
use Rattle.ipld_cid.specs.Multihash.{IsBytes}
use Rattle.dag_pb.specs.declared.error.PbError.{PbError}
use Rattle.dag_pb.specs.declared.error.Fault.{Fault}
use Rattle.dag_pb.specs.declared.reader.NodeField.{NodeField}
use Rattle.dag_pb.specs.declared.reader.NodeField.TheVariants.{Link, Data}
use Rattle.dag_pb.specs.declared.reader.Stage.{Stage}
use Rattle.dag_pb.specs.declared.reader.Stage.TheVariants.{Nothing}
use Rattle.pb_wire.specs.Steps.{◌>>=◌}
use Rattle.dag_pb.specs.Errors.{error_in}
use Rattle.dag_pb.specs.Node.{LinkParts, NodeParts, IsNode}
use Rattle.dag_pb.specs.NodeReading.{Field, link, read_part, empty_node, with_field, joined, hashes, read_fields, in_block, read_node, links_found}
use Rattle.dag_pb.specs.Views.{parts_of_link, part_of, IsLinkField, IsOutOfMemory}
use Rattle.pb_wire.proofs.Steps.{bind_ok, same_ok}
use Rattle.dag_pb.specs.Lemmas.FieldSteps.{ends, goes_on, stops_at}
use Rattle.dag_pb.specs.Lemmas.NodeLaws.{node_sound, node_complete}

-- ---- the loops

-- what is in a block was read
in_block_ok : {A : Type 0} (len : ℕ) (r : Result A Fault) (x : A) → in_block len r ≡ Ok x → r ≡ Ok x
in_block_ok len (Ok y) x e = cc
in_block_ok len (Err d) x e = absurd cc

-- what a field adds is as before it
keeps : {X : Type 0} (f : Field) (old new : NodeParts → X) (r : Result NodeParts Fault) → ((rest : NodeParts) → old (with_field f rest) ≡ new rest)
    → (r >>= λ rest. Ok (new rest)) ≡ ((r >>= λ node. Ok (with_field f node)) >>= λ rest. Ok (old rest))
keeps f old new (Ok n) same = ap Ok (sym (same n))
keeps f old new (Err e) same = refl

-- a field more
pub loop_step : {X : Type 0} (stage : Stage) (bytes : List ℕ) (f : Field) (next : Stage) (rest : List ℕ) (old new : NodeParts → X) (whole : Result X Fault)
    → 0 < length bytes → read_part stage bytes ≡ Ok (f, next, rest) → ((rest : NodeParts) → old (with_field f rest) ≡ new rest)
    → (read_fields stage bytes >>= λ rest. Ok (old rest)) ≡ whole → (read_fields next rest >>= λ rest. Ok (new rest)) ≡ whole
loop_step {X} stage bytes f next rest old new whole some read same so_far =
    keeps f old new (read_fields next rest) same
    ∙ ap (λ (r : Result NodeParts Fault). r >>= λ rest. Ok (old rest)) (sym (goes_on stage bytes f next rest some read))
    ∙ so_far

-- a field is at fault
pub loop_stops : {X : Type 0} (stage : Stage) (bytes : List ℕ) (fault : Fault) (old : NodeParts → X) (whole : Result X Fault)
    → 0 < length bytes → read_part stage bytes ≡ Err fault → (read_fields stage bytes >>= λ rest. Ok (old rest)) ≡ whole → whole ≡ Err fault
loop_stops {X} stage bytes fault old whole some read so_far =
    sym so_far ∙ ap (λ (r : Result NodeParts Fault). r >>= λ rest. Ok (old rest)) (stops_at stage bytes fault some read)

-- no field is left
pub loop_ends : {X : Type 0} (stage : Stage) (bytes : List ℕ) (old : NodeParts → X) (whole : Result X Fault)
    → length bytes ≡ 0 → (read_fields stage bytes >>= λ rest. Ok (old rest)) ≡ whole → whole ≡ Ok (old empty_node)
loop_ends {X} stage bytes old whole none so_far =
    sym so_far ∙ ap (λ (r : Result NodeParts Fault). r >>= λ rest. Ok (old rest)) (ends stage bytes none)

-- a link that doesn't fit is one of what the block says
counted : {X : Type 0} (f : Field) (old : NodeParts → X) (P : X → Type 0) (x : X) (r : Result NodeParts Fault) → ((m : NodeParts) → P (old (with_field f m)))
    → ((r >>= λ node. Ok (with_field f node)) >>= λ rest. Ok (old rest)) ≡ Ok x → P x
counted f old P x (Ok m) holds e = same_ok P (old (with_field f m)) x e (holds m)
counted f old P x (Err d) holds e = absurd cc

link_of_part : (f : NodeField) → IsLinkField f → (l : LinkParts) × (part_of f ≡ link l)
link_of_part (Link l) is = (parts_of_link l.link, refl)
link_of_part (Data d) is = absurd is

pub loop_full : {X : Type 0} (stage : Stage) (bytes : List ℕ) (f : NodeField) (next : Stage) (rest : List ℕ) (old : NodeParts → X) (P : X → Type 0) (whole : Result X Fault) (x : X)
    → 0 < length bytes → read_part stage bytes ≡ Ok (part_of f, next, rest) → IsLinkField f → ((l : LinkParts) (m : NodeParts) → P (old (with_field (link l) m)))
    → (read_fields stage bytes >>= λ rest. Ok (old rest)) ≡ whole → whole ≡ Ok x → P x
loop_full {X} stage bytes f next rest old P whole x some read is holds so_far e =
    let l = link_of_part f is in
    let read' : read_part stage bytes ≡ Ok (link l.0, next, rest) = read ∙ ap (λ (g : Field). Ok (g, next, rest)) l.1 in
    counted (link l.0) old P x (read_fields next rest) (holds l.0)
    (ap (λ (r : Result NodeParts Fault). r >>= λ rest. Ok (old rest)) (sym (goes_on stage bytes (link l.0) next rest some read')) ∙ so_far ∙ e)

-- the fields of a block that is a node
pub fields_read : (bytes : List ℕ) (n : NodeParts) → read_node bytes ≡ Ok n → read_fields Nothing bytes ≡ Ok n
unfolding read_node
fields_read bytes n e = in_block_ok (length bytes) (read_fields Nothing bytes) n e

-- a block at fault is no node
pub fault_no_node : (bytes : List ℕ) (n : NodeParts) (fault : Fault) → read_fields Nothing bytes ≡ Err fault → read_node bytes ≡ Ok n → ⊥
fault_no_node bytes n fault e is = let read = fields_read bytes n is in let both : ◌≡◌ {A = Result NodeParts Fault} (Err fault) (Ok n) = sym e ∙ read in absurd cc

pub fault_no_links : (bytes : List ℕ) (n : NodeParts) (fault : Fault) → (read_fields Nothing bytes >>= λ node. Ok (hashes node)) ≡ Err fault → read_node bytes ≡ Ok n → ⊥
fault_no_links bytes n fault e is =
    let both : ◌≡◌ {A = Result (List CidLink) Fault} (Err fault) (Ok (hashes n)) = sym e ∙ ap (λ (r : Result NodeParts Fault). r >>= λ node. Ok (hashes node)) (fields_read bytes n is) in
    absurd cc

-- a link behind others is one
pub some_behind : {A : Type 0} (xs : List A) (y : A) (ys : List A) → xs ++ y ∷ ys ≡ [] → ⊥
some_behind [] y ys e = absurd cc
some_behind (x ∷ xs) y ys e = absurd cc

-- nothing follows
pub joined_empty : (n : NodeParts) → joined n empty_node ≡ n
joined_empty n = ap (λ (ls : List _). record { links = ls; content = n.content }) (append-nil n.links)

-- the node of a block, and its links
pub node_is : (bytes : List ℕ) (r : Result NodeParts Fault) → read_fields Nothing bytes ≡ r → read_node bytes ≡ in_block (length bytes) r
unfolding read_node
node_is bytes r e = ap (in_block (length bytes)) e

in_block_then : (len : ℕ) (r : Result NodeParts Fault) → (in_block len r >>= λ node. Ok (hashes node)) ≡ in_block len (r >>= λ node. Ok (hashes node))
in_block_then len (Ok n) = refl
in_block_then len (Err e) = refl

pub links_are : (bytes : List ℕ) (r : Result (List CidLink) Fault) → (read_fields Nothing bytes >>= λ node. Ok (hashes node)) ≡ r → links_found bytes ≡ in_block (length bytes) r
unfolding links_found read_node
links_are bytes r e = in_block_then (length bytes) (read_fields Nothing bytes) ∙ ap (in_block (length bytes)) e

-- ---- what callers are told

-- what was returned is what the block says
abbrev Exact : {X Y : Type 0} → (Y → X) → Result X PbError → Result Y PbError → Type 0
Exact view said result = MatchResult result (λ y. said ≡ Ok (view y)) (λ error. IsOutOfMemory error ⊎ (said ≡ Err error))

-- what holds of what the block says holds of what was returned
pub told : {X Y : Type 0} (view : Y → X) (said : Result X PbError) (P : X → Type 0) (result : Result Y PbError) → ((x : X) → said ≡ Ok x → P x) → Exact view said result → IfOk result (λ y. P (view y))
told view said P (Ok y) holds exact = holds (view y) exact
told view said P (Err e) holds exact = tt

-- what the block says is returned
pub told_only : {X Y : Type 0} (view : Y → X) (said : Result X PbError) (P : X → Type 0) (x : X) (result : Result Y PbError) → said ≡ Ok x → P x → Exact view said result → MatchResult result (λ y. P (view y)) IsOutOfMemory
told_only {X} view said P x (Ok y) is holds exact = same_ok P x (view y) (sym is ∙ exact) holds
told_only view said P x (Err e) is holds (inl memory) = memory
told_only view said P x (Err e) is holds (inr other) = absurd cc

-- an error in a block lies in it
in_block_offset : {A : Type 0} (len : ℕ) (r : Result A Fault) (error : PbError) → in_block len r ≡ Err error → error.offset ≤ len
in_block_offset len (Ok x) error e = absurd cc
in_block_offset {A} len (Err fault) error e =
    let same : error_in len fault ≡ error = cc in
    subst (λ (d : PbError). d.offset ≤ len) same (omega arith)

pub told_offset : {X Y : Type 0} (view : Y → X) (said : Result X PbError) (len : ℕ) (result : Result Y PbError) → ((error : PbError) → said ≡ Err error → error.offset ≤ len) → Exact view said result → IfErr result (λ error. error.offset ≤ len)
told_offset view said len (Ok y) within exact = tt
told_offset view said len (Err e) within (inl memory) = subst (λ (d : PbError). d.offset ≤ len) (sym memory) (omega arith)
told_offset view said len (Err e) within (inr is) = within e is

pub node_offset : (bytes : List ℕ) (error : PbError) → read_node bytes ≡ Err error → error.offset ≤ length bytes
unfolding read_node
node_offset bytes error e = in_block_offset (length bytes) (read_fields Nothing bytes) error e

pub links_offset : (bytes : List ℕ) (error : PbError) → links_found bytes ≡ Err error → error.offset ≤ length bytes
unfolding links_found read_node
links_offset bytes error e =
    in_block_offset (length bytes) (read_fields Nothing bytes >>= λ node. Ok (hashes node)) error (sym (in_block_then (length bytes) (read_fields Nothing bytes)) ∙ e)

-- the links of a block are those of its node
pub links_sound : (bytes : List ℕ) (links : List CidLink) → IsBytes bytes → links_found bytes ≡ Ok links → (n : NodeParts) × IsNode n bytes × (links ≡ hashes n)
unfolding links_found
links_sound bytes links whole e =
    let node = bind_ok (read_node bytes) (λ node. Ok (hashes node)) links e in
    (node.0, node_sound bytes node.0 whole node.1, same_ok (λ (ls : List CidLink). ls ≡ hashes node.0) (hashes node.0) links node.2 refl)

pub links_complete : (bytes : List ℕ) (n : NodeParts) → IsNode n bytes → links_found bytes ≡ Ok (hashes n)
unfolding links_found
links_complete bytes n is = ap (λ (r : Result NodeParts PbError). r >>= λ node. Ok (hashes node)) (node_complete bytes n is)
