-- The result of reading a node: the node, or the first error from the left.
use Rattle.std.specs.Prelude.{ℕ, zero, suc, ◌==◌, if◌then◌else◌, List, [], ◌∷◌, ◌++◌, length, Option, Some, None, Result, Ok, Err, map}
use Rattle.ipld_cid.specs.Cid.{Link}
use Rattle.dag_pb.specs.declared.error.PbErrorKind.TheVariants.{UnknownField, FieldOrder}
use Rattle.dag_pb.specs.declared.error.PbError.{PbError}
use Rattle.dag_pb.specs.declared.error.Fault.{Fault}
use Rattle.dag_pb.specs.declared.reader.Stage.{Stage}
use Rattle.dag_pb.specs.declared.reader.Stage.TheVariants.{Nothing, Links, Data, LinksAndData}
use Rattle.pb_wire.specs.Steps.{◌>>=◌}
use Rattle.pb_wire.specs.Reading.{read_varint, read_content}
use Rattle.dag_pb.specs.Errors.{at, of_wire, before, error_in}
use Rattle.dag_pb.specs.Node.{LinkParts, NodeParts}
use Rattle.dag_pb.specs.LinkReading.{read_link}

-- a field of a node
pub data Field : Type 0 where
  link : LinkParts → Field
  content : List ℕ → Field

-- the stage after another link, or nothing if no link may come
abbrev pub after_link : Stage → Option Stage
after_link Nothing = Some Links
after_link Links = Some Links
after_link Data = Some Data
after_link LinksAndData = None

-- the stage after the data, or nothing if no data may come
abbrev pub after_data : Stage → Option Stage
after_data Nothing = Some Data
after_data Links = Some LinksAndData
after_data Data = None
after_data LinksAndData = None

-- the link after its length, and the bytes after it; `left` bytes are left at the beginning of the
-- field
unfoldable pub link_field : ℕ → List ℕ → Result (LinkParts × List ℕ) Fault
link_field left bytes = at left (of_wire (read_content bytes)) >>= λ found. before (length found.1) (read_link found.0) >>= λ l. Ok (l, found.1)

-- the data after its length, and the bytes after it; `left` bytes are left at the beginning of the
-- field
unfoldable pub data_field : ℕ → List ℕ → Result (List ℕ × List ℕ) Fault
data_field left bytes = at left (of_wire (read_content bytes))

-- the link after its key, if a link may come there, and otherwise an error
abbrev pub link_part : ℕ → List ℕ → Option Stage → Result (Field × Stage × List ℕ) Fault
link_part left bytes None = Err (record { kind = FieldOrder; left = left })
link_part left bytes (Some next) = link_field left bytes >>= λ found. Ok (link found.0, next, found.1)

-- the data after its key, if data may come there, and otherwise an error
abbrev pub data_part : ℕ → List ℕ → Option Stage → Result (Field × Stage × List ℕ) Fault
data_part left bytes None = Err (record { kind = FieldOrder; left = left })
data_part left bytes (Some next) = data_field left bytes >>= λ found. Ok (content found.0, next, found.1)

-- the field after a key, the stage after it, and the bytes that follow
abbrev pub keyed : Stage → ℕ → ℕ → List ℕ → Result (Field × Stage × List ℕ) Fault
keyed stage left key bytes =
    if key == 18 then link_part left bytes (after_link stage)
    else if key == 10 then data_part left bytes (after_data stage)
    else Err (record { kind = UnknownField key; left = left })

-- the next field, the stage after it, and the bytes that follow
unfoldable pub read_part : Stage → List ℕ → Result (Field × Stage × List ℕ) Fault
read_part stage bytes = at (length bytes) (of_wire (read_varint bytes)) >>= λ key. keyed stage (length bytes) key.0 key.1

-- a node without links and data
abbrev pub empty_node : NodeParts
empty_node = record { links = []; content = None }

-- the first of two values, or the second if the first is missing
abbrev pub first_some : Option (List ℕ) → Option (List ℕ) → Option (List ℕ)
first_some (Some x) other = Some x
first_some None other = other

-- the node of a field and the fields after it
abbrev pub with_field : Field → NodeParts → NodeParts
with_field (link l) node = record { links = l ∷ node.links; content = node.content }
with_field (content d) node = record { links = node.links; content = first_some node.content (Some d) }

-- the node of at most `fields` fields, after this stage
abbrev pub run : ℕ → Stage → List ℕ → Result NodeParts Fault
run fields stage [] = Ok empty_node
run zero stage (b ∷ bytes) = Ok empty_node
run (suc fields) stage (b ∷ bytes) = read_part stage (b ∷ bytes) >>= λ part. run fields part.1 part.2 >>= λ node. Ok (with_field part.0 node)

-- the node of the fields in the bytes, after this stage; every field has at least a byte
unfoldable pub read_fields : Stage → List ℕ → Result NodeParts Fault
read_fields stage bytes = run (length bytes) stage bytes

-- the result, with the error of a block of `len` bytes
abbrev pub in_block : {A : Type 0} → ℕ → Result A Fault → Result A PbError
in_block len (Ok x) = Ok x
in_block len (Err fault) = Err (error_in len fault)

-- The node that reading returns, or the first error from the left.
unfoldable pub read_node : List ℕ → Result NodeParts PbError
read_node bytes = in_block (length bytes) (read_fields Nothing bytes)

-- the links of a node, in their order
abbrev pub hashes : NodeParts → List Link
hashes node = map (λ l. l.hash) node.links

-- The links of the node that reading returns, or the error.
unfoldable pub links_found : List ℕ → Result (List Link) PbError
links_found bytes = read_node bytes >>= λ node. Ok (hashes node)

-- the node of two runs of fields, the second after the first
abbrev pub joined : NodeParts → NodeParts → NodeParts
joined first rest = record { links = first.links ++ rest.links; content = first_some rest.content first.content }
