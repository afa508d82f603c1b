-- The value of a map that was read as JSON: a link or bytes if it has their form, an error if it is
-- another reserved map, or the map itself (IPLD's DAG-JSON specification, "Links", "Bytes",
-- "Reserved namespace").
use Rattle.std.specs.Prelude.{ℕ, if◌then◌else◌, List, Option, Some, None, Result, Ok, Err}
use Rattle.base64.specs.GeneralPurpose.{decoded_of}
use Rattle.base64.specs.Engines.{standard_no_pad}
use Rattle.ipld_cid.specs.Cid.{Link}
use Rattle.ipld_tree.specs.Tree.{Tree, text, bytes, entries, link, Members, no_members, member}
use Rattle.dag_json.specs.LinkRead.{cid_of}
use Rattle.dag_json.specs.Reserved.{is_reserved}
use Rattle.dag_json.specs.declared.read_error.ReadErrorKind.{ReadErrorKind}
use Rattle.dag_json.specs.declared.read_error.ReadErrorKind.TheVariants as error

abbrev pub link_or_error : Option Link → Result Tree ReadErrorKind
link_or_error None = Err error.Link
link_or_error (Some l) = Ok (link l)

abbrev pub bytes_or_error : Option (List ℕ) → Result Tree ReadErrorKind
bytes_or_error None = Err error.Bytes
bytes_or_error (Some b) = Ok (bytes b)

-- the value of a map that has exactly one entry, or nothing
abbrev pub only_tree : Members → Option Tree
only_tree no_members = None
only_tree (member k t no_members) = Some t
only_tree (member k t (member q u ms)) = None

abbrev pub reserved_bytes : Option Tree → Result Tree ReadErrorKind
reserved_bytes (Some (text s)) = bytes_or_error (decoded_of standard_no_pad s)
reserved_bytes _ = Err error.Reserved

abbrev pub reserved_value : Option Tree → Result Tree ReadErrorKind
reserved_value (Some (text s)) = link_or_error (cid_of s)
reserved_value (Some (entries ms)) = reserved_bytes (only_tree ms)
reserved_value _ = Err error.Reserved

-- The value of a map that was read as JSON: the map itself if it is not reserved. A reserved map is
-- a link if its only value is the text of a CID. It is bytes if its only value is a map whose only
-- value is base64 without padding. Otherwise it is the error why it is neither (IPLD DAG-JSON,
-- links, bytes, reserved namespace).
abbrev pub object_tree : Members → Result Tree ReadErrorKind
object_tree ms = if is_reserved (entries ms) then reserved_value (only_tree ms) else Ok (entries ms)
