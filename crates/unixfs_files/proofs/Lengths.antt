-- A block is at least as long as the bytes of the file in it.
use Rattle.std.proofs.Common.{◌≡◌, ℕ, ◌≤◌, List, [], ◌++◌, length, Option, Some, None, Result, Ok, Err, inl, inr, ap, arith, length-append}
use Rattle.std.specs.Prelude.{◌⊎◌, IfOk, unwrap_or}
use Rattle.dag_pb.specs.Node.{LinkParts}
use Rattle.pb_wire.specs.Wire.{IsContentOf}
use Rattle.unixfs.specs.Data.{DataParts, IsData}
use Rattle.unixfs.specs.Nodes.{IsParsed}
use Rattle.unixfs_files.specs.declared.error.PartError.{PartError}
use Rattle.unixfs_files.specs.declared.part.FilePart.{FilePart}
use Rattle.unixfs_files.specs.Parts.{Part, part_of, IsPartIn, raw, node}

field_within : (field : ℕ) (o : Option (List ℕ)) (bytes : List ℕ) → IsContentOf field o bytes → length (unwrap_or o []) ≤ length bytes
field_within field None bytes is = omega arith
field_within field (Some c) bytes is = omega (arith, ap length is.encoded, length-append is.key (is.size ++ c), length-append is.size c)

side_within : (links content bytes : List ℕ) → (bytes ≡ links ++ content) ⊎ (bytes ≡ content ++ links) → length content ≤ length bytes
side_within links content bytes (inl is) = omega (arith, ap length is, length-append links content)
side_within links content bytes (inr is) = omega (arith, ap length is, length-append content links)

message_within : (d : DataParts) (bytes : List ℕ) → IsData d bytes → length (unwrap_or d.content []) ≤ length bytes
message_within d bytes is =
    let rest = is.filesize ++ (is.blocksizes ++ (is.hash_type ++ (is.fanout ++ (is.mode ++ is.mtime)))) in
    omega (arith, field_within 2 d.content is.content is.content_encoded, ap length is.encoded, length-append is.data_type (is.content ++ rest), length-append is.content rest)

node_within : (block : List ℕ) (links : List LinkParts) (d : DataParts) → IsParsed block links d → length (unwrap_or d.content []) ≤ length block
node_within block links d is =
    omega (
      arith,
      message_within d is.message is.is_data,
      ap (λ (o : Option (List ℕ)). length (unwrap_or o [])) is.has_message,
      field_within 1 is.node.content is.is_node.content is.is_node.content_encoded,
      side_within is.is_node.links is.is_node.content block is.is_node.encoded,
    )

part_within : (codec : ℕ) (block : List ℕ) (part : Part) → IsPartIn codec block part → length part.head ≤ length block
part_within codec block part (raw is same) = omega (arith, ap (λ (p : Part). length p.head) same)
part_within codec block part (node links d is parsed file) = omega (arith, node_within block links d parsed, ap length file.is_head)

pub found_within : (codec : ℕ) (block : List ℕ) (r : Result FilePart PartError) → IfOk r (λ part. IsPartIn codec block (part_of part)) → IfOk r (λ part. length part.head.now ≤ length block)
found_within codec block (Ok part) is = part_within codec block (part_of part) is
found_within codec block (Err error) is = tt
