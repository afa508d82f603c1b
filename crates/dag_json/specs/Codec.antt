-- DAG-JSON as a codec (multicodec "dag-json", 0x0129).
use Rattle.std.specs.Prelude.{◌≡◌, ◌⊎◌, ℕ, if◌then◌else◌, Bool, false, List, length, max, Option, Some, None, Err, option_map, option_and_then}
use Rattle.std.specs.Result.{result_ok}
use Rattle.std.specs.Str.{is_utf8}
use Rattle.ipld_cid.specs.Cid.{Link}
use Rattle.ipld_codec.specs.Codec.{Failure, memory, reading, writing}
use Rattle.ipld_tree.specs.Equal.{tree_eq}
use Rattle.ipld_tree.specs.Tree.{Tree}
use Rattle.ipld_tree.specs.Walk.{links_of}
use Rattle.ipld_tree.specs.declared.limits.Limits.{Limits}
use Rattle.json.specs.Lex.{tokens}
use Rattle.dag_json.specs.Offset.{SaysWhere}
use Rattle.dag_json.specs.ReadContract.{ReadsBytes}
use Rattle.dag_json.specs.ReadMachine.{read_tokens}
use Rattle.dag_json.specs.Written.{written}
use Rattle.dag_json.specs.declared.read_error.ReadError.{ReadError}
use Rattle.dag_json.specs.declared.read_error.ReadErrorKind.TheVariants as kind
use Rattle.dag_json.specs.declared.error.DagJsonError.{DagJsonError}
use Rattle.dag_json.specs.declared.error.DagJsonError.TheVariants.{Memory, Read, Write, Text, Reserved}

-- limits that no JSON with the tokens of the text exceeds
abbrev pub no_limits : List ℕ → Limits
no_limits s = record { levels = length (tokens s); values = length (tokens s) }

-- The tree that a block encodes, with floats or without, or nothing if reading the block fails
-- (IPLD DAG-JSON; multicodec table, 0x0129).
unfoldable pub decoded_in : Bool → List ℕ → Option Tree
decoded_in floats s = if is_utf8 s then result_ok (read_tokens floats (no_limits s) (tokens s)) else None

-- The links of the tree that a block encodes, with floats or without, in the order of its walk, or
-- nothing.
abbrev pub links_in : Bool → List ℕ → Option (List Link)
links_in floats s = option_map links_of (decoded_in floats s)

-- The tree that a block encodes, without floats, or nothing.
abbrev pub decoded : List ℕ → Option Tree
decoded s = decoded_in false s

-- The links of the tree that a block encodes, without floats, in the order of its walk, or nothing.
abbrev pub links_found : List ℕ → Option (List Link)
links_found s = links_in false s

-- whether the tree is the one that was decoded
abbrev pub is_decoded : Tree → Option Tree → Bool
is_decoded t None = false
is_decoded t (Some u) = tree_eq u t

abbrev pub if_decoded : Tree → List ℕ → Option (List ℕ)
if_decoded t s = if is_decoded t (decoded s) then Some s else None

-- The text that is written for a tree, if it decodes to the tree, and otherwise nothing. The text
-- of an `Ipld` does, if it has one: its strings are UTF-8, its links valid, its integers within 128
-- bits, and its keys ascend.
unfoldable pub codec_text : Tree → Option (List ℕ)
codec_text t = option_and_then (if_decoded t) (written t)

-- The failure that an error reports, of an allocation, a reader or a writer. It is nothing if the
-- error is in the value or in the block.
abbrev pub codec_failure : DagJsonError → Option Failure
codec_failure Memory = Some memory
codec_failure Read = Some reading
codec_failure Write = Some writing
codec_failure (Text error) = None
codec_failure (Reserved place) = None

-- the limits for reading a block: the number of its bytes for levels and for values, but at least
-- one value; no block of a tree exceeds them
abbrev pub limits_of : List ℕ → Limits
limits_of s = record { levels = length s; values = max (length s) 1 }

-- True if the error is the first of the block, with floats or without, and its offset is the place
-- at which reading stops. If the bytes are not UTF-8, the error reports this and how long their
-- valid part is. The error is not a failed allocation.
abbrev pub IsBlockError : Bool → List ℕ → ReadError → Type 0
IsBlockError floats s e = (e.kind ≡ kind.Memory → ⊥) × ReadsBytes floats (limits_of s) s (Err e) × SaysWhere floats (limits_of s) s e

-- True if the error is the first of the block, without floats.
abbrev pub IsTextError : List ℕ → DagJsonError → Type 0
IsTextError s (Text e) = IsBlockError false s e
IsTextError s _ = ⊥

-- True if the error is the first of the block, if the bytes of the reader are known. Otherwise it
-- is the first error of some block.
abbrev pub IsTextErrorOf : Option (List ℕ) → DagJsonError → Type 0
IsTextErrorOf None error = (block : List ℕ) × IsTextError block error
IsTextErrorOf (Some block) error = IsTextError block error

-- True if `made` is `Memory` for a failed allocation, and otherwise the error of the text with its
-- offset.
abbrev pub IsErrorOfText : ReadError → DagJsonError → Type 0
IsErrorOfText e made = ((e.kind ≡ kind.Memory) × (made ≡ Memory)) ⊎ ((e.kind ≡ kind.Memory → ⊥) × (made ≡ Text e))
