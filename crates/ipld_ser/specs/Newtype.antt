-- The image of a newtype. Under the name of CIDs, bytes become the link that they encode
-- (multiformats CID).
use Rattle.std.specs.Prelude.{◌≡◌, ◌⊎◌, ℕ, List, Option, Some, None, option_and_then, Result, Ok, Err, if◌then◌else◌}
use Rattle.std.specs.Result.{result_ok}
use Rattle.std.specs.Str.{bytes_eq}
use Rattle.ipld_cid.specs.Cid.{Link}
use Rattle.ipld_cid.specs.Bytes.{read_cid}
use Rattle.ipld_cid.specs.declared.cid.TheConstants.{CID_SERDE_PRIVATE_IDENTIFIER}
use Rattle.ipld_cid.specs.declared.error.CidError.{CidError}
use Rattle.ipld_tree.specs.Tree.{Tree, null, boolean, integer, text, bytes, list, entries, link}
use Rattle.ipld_ser.specs.declared.error.SerdeError.{SerdeError}
use Rattle.ipld_ser.specs.declared.error.SerdeError.TheVariants.{Memory, InvalidCid}

-- The link that was read, or the error of reading its bytes
abbrev pub as_link : Result Link CidError → Result Tree SerdeError
as_link (Ok l) = Ok (link l)
as_link (Err error) = Err (InvalidCid error)

-- The tree under the name of CIDs: for bytes the link that they encode or the error, and otherwise
-- the same tree
abbrev pub link_from_bytes : Tree → Result Tree SerdeError
link_from_bytes (bytes b) = as_link (read_cid 64 b)
link_from_bytes null = Ok null
link_from_bytes (boolean b) = Ok (boolean b)
link_from_bytes (integer n) = Ok (integer n)
link_from_bytes (text s) = Ok (text s)
link_from_bytes (list ts) = Ok (list ts)
link_from_bytes (entries ms) = Ok (entries ms)
link_from_bytes (link l) = Ok (link l)

-- The tree under a newtype's name. Only the name of CIDs changes it.
abbrev pub under_name : List ℕ → Tree → Result Tree SerdeError
under_name name t = if bytes_eq name CID_SERDE_PRIVATE_IDENTIFIER.now then link_from_bytes t else Ok t

-- The image of a newtype whose content has this image. Under the name of CIDs, bytes become the
-- link that they encode, and bytes that are not a CID have no image. Otherwise it is the image
-- itself.
abbrev pub newtype_image : List ℕ → Option Tree → Option Tree
newtype_image name image = option_and_then (λ t. result_ok (under_name name t)) image

-- True if `e` is an error of a newtype: one of the content if it has no image, and otherwise the
-- error of bytes that are not a CID
abbrev pub NewtypeError : List ℕ → Option Tree → (SerdeError → Type 0) → SerdeError → Type 0
NewtypeError name image error e = ((image ≡ None) × error e) ⊎ ((t : Tree) × (image ≡ Some t) × (under_name name t ≡ Err e))

-- True if a newtype may be rejected with `e`: any error if the content has no image, and otherwise
-- `Memory` or the error of bytes that are not a CID
abbrev pub RejectsNewtype : List ℕ → Option Tree → SerdeError → Type 0
RejectsNewtype name None e = Unit {0}
RejectsNewtype name (Some t) e = (e ≡ Memory) ⊎ (under_name name t ≡ Err e)
