-- This file defines the codec of plain bytes (multicodec "raw", 0x55). A block is its own content.
use Rattle.std.specs.Prelude.{◌≡◌, ℕ, Bool, List, [], Option, Some, None, codes, if◌then◌else◌}
use Rattle.ipld_cid.specs.Cid.{Link}
use Rattle.ipld_tree.specs.Tree.{Tree, null, boolean, integer, text, bytes, list, entries, link}
use Rattle.ipld_codec.specs.Codec.{Failure, memory, reading, writing}
use Rattle.ipld_codec.specs.declared.raw.RawError.{RawError}
use Rattle.ipld_codec.specs.declared.raw.RawError.TheVariants.{Memory, Read, Write, NotBytes}

-- True if the tree is the bytes of the block (multicodec `raw`, 0x55).
abbrev pub EncodesRaw : Tree → List ℕ → Type 0
EncodesRaw t block = t ≡ bytes block

-- the tree that a block decodes to: the bytes of the block
abbrev pub raw_decoded : List ℕ → Option Tree
raw_decoded block = Some (bytes block)

-- the links of a block: an empty list, whatever its bytes are
abbrev pub raw_found : List ℕ → Option (List Link)
raw_found block = Some []

-- the block that is written for a tree: its bytes if it is bytes, and otherwise nothing
abbrev pub raw_written : Tree → Option (List ℕ)
raw_written null = None
raw_written (boolean b) = None
raw_written (integer n) = None
raw_written (text s) = None
raw_written (bytes b) = Some b
raw_written (list ts) = None
raw_written (entries ms) = None
raw_written (link l) = None

-- the failure that an error reports. `NotBytes` is an error of the value, and not a failure.
abbrev pub raw_failure : RawError → Option Failure
raw_failure Memory = Some memory
raw_failure Read = Some reading
raw_failure Write = Some writing
raw_failure (NotBytes kind) = None

-- the printed name of an error
abbrev pub name_of : RawError → List ℕ
name_of Memory = codes "Memory"
name_of Read = codes "Read"
name_of Write = codes "Write"
name_of (NotBytes kind) = codes "NotBytes"

-- the sentence that describes an error. That of `NotBytes`, which ends with the derived `Debug` of
-- the kind, is not specified.
abbrev pub sentence_of : RawError → Option (List ℕ)
sentence_of Memory = Some (codes "out of memory")
sentence_of Read = Some (codes "the reader failed")
sentence_of Write = Some (codes "the writer failed")
sentence_of (NotBytes kind) = None

-- the printed form of an error: its sentence if the format has `#` (`{error:#}`), otherwise its
-- name
abbrev pub printed : Bool → RawError → Option (List ℕ)
printed alternate error = if alternate then sentence_of error else Some (name_of error)
