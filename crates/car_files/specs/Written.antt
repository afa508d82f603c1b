-- The texts that are written about the blocks of a CAR.
use Rattle.std.specs.Prelude.{◌≡◌, ◌+◌, ℕ, Bool, true, false, List, [], ◌∷◌, ◌++◌, length, map, codes, decimal, Option, Some, None, ◌==◌, nat_lt, if◌then◌else◌}
use Rattle.std.specs.Fmt.{digits}
use Rattle.std.specs.List.{flat_map, join_by}
use Rattle.std.specs.Option.{unwrap_or}
use Rattle.std.specs.Int.{from_bool}
use Rattle.ipld_block.specs.Digest.{digest_by, IsVerifyError}
use Rattle.ipld_block.specs.declared.block_cid.error.VerifyError.{VerifyError}
use Rattle.ipld_block.specs.declared.block_cid.error.VerifyError.TheVariants.{UnknownHash, WrongDigest}
use Rattle.ipld_cid.specs.Cid.{Link}
use Rattle.ipld_cid.specs.LinkOf.{link_of}
use Rattle.ipld_cid.specs.Varint.{varint_of}
use Rattle.ipld_car.specs.Section.{Block, content_of}
use Rattle.ipld_car.specs.declared.reader.CarReader.{CarReader}
use Rattle.ipld_car.specs.declared.version.CarVersion.{CarVersion}
use Rattle.ipld_car.specs.declared.version.CarVersion.TheVariants.{V1, V2}
use Rattle.ipld_block.specs.ErrorTexts.{name_of, offset_of}
use Rattle.ipld_block.specs.Codes.{codec_of_code, codec_name_of}
use Rattle.ipld_block.specs.declared.error.InvalidBlock.{InvalidBlock}
use Rattle.ipld_block.specs.Texts.{usual_text}
use Rattle.car_files.specs.declared.list.Form.{Form}
use Rattle.car_files.specs.declared.list.Form.TheVariants.{Blocks, Links, Dot, Json}
use Rattle.car_files.specs.declared.verify.VerdictForm.{VerdictForm}
use Rattle.car_files.specs.declared.verify.VerdictForm.TheVariants.{Line, Object}
use Rattle.car_files.specs.Blocks.{BlockHas, BlockFault}

-- the number of bytes in the section of a block: its length as a varint, the CID, and the block
abbrev pub section_len : Block → ℕ
section_len block = length (varint_of (length (content_of block)) ++ content_of block)

-- the number of bytes in the sections of several blocks
abbrev pub sections_len : List Block → ℕ
sections_len [] = 0
sections_len (block ∷ blocks) = section_len block + sections_len blocks

-- the setting that the digits above nine are lower-case letters
abbrev pub in_capitals : Bool
in_capitals = false

-- a number in hexadecimal, after `0x`
abbrev pub hexadecimal : ℕ → List ℕ
hexadecimal n = codes "0x" ++ digits 16 in_capitals n

-- the name of a codec, or its code in hexadecimal if it has no name here
unfoldable pub codec_text : ℕ → List ℕ
codec_text code = unwrap_or (codec_name_of code) (hexadecimal code)

-- the text of a CID between `before` and `after`
abbrev pub text_between : List ℕ → List ℕ → Link → List ℕ
text_between before after link = before ++ usual_text link ++ after

abbrev pub texts_between : List ℕ → List ℕ → List Link → List ℕ
texts_between before after links = flat_map (text_between before after) links

-- CIDs as a JSON array
abbrev pub array_text : List Link → List ℕ
array_text links = codes "[" ++ join_by (text_between (codes "\"") (codes "\"")) (codes ",") links ++ codes "]"

-- the texts of a CID and of one that it links to, with the given bytes before, between and after
-- them
abbrev pub edge_text : List ℕ → List ℕ → List ℕ → Link → Link → List ℕ
edge_text before between after from to = before ++ usual_text from ++ between ++ usual_text to ++ after

abbrev pub edges_text : List ℕ → List ℕ → List ℕ → Link → List Link → List ℕ
edges_text before between after from links = flat_map (edge_text before between after from) links

-- The links of a block. They are unknown if blocks of its codec aren't read, and there is an error
-- instead if the block is invalid for its codec.
pub data Known : Type 0 where
  known : List Link → Known
  unknown : Known
  invalid : InvalidBlock → Known

-- True if these are the links of the block, or the reason why they are missing is right.
abbrev pub IsKnownOf : Block → Known → Type 0
IsKnownOf block (known links) = BlockHas block.cid.codec block.bytes links
IsKnownOf block unknown = codec_of_code block.cid.codec ≡ None
IsKnownOf block (invalid why) = BlockFault block.cid.codec block.bytes why

-- the links, or an empty list if they are unknown or the block is invalid
abbrev pub links_known : Known → List Link
links_known (known links) = links
links_known _ = []

-- whether the block is invalid for its codec
abbrev pub is_invalid : Known → Bool
is_invalid (invalid why) = true
is_invalid _ = false

-- ---- the list of the blocks

abbrev pub version_number : CarVersion → ℕ
version_number V1 = 1
version_number V2 = 2

-- the text before the blocks
abbrev pub front_text : Form → ℕ → List Link → List ℕ
front_text Blocks version roots = codes "version " ++ (decimal version ++ codes "\n") ++ texts_between (codes "root ") (codes "\n") roots
front_text Links version roots = []
front_text Dot version roots = codes "digraph car {\n" ++ texts_between (codes "  \"") (codes "\" [shape=box];\n") roots
front_text Json version roots = codes "{\"version\":" ++ (decimal version ++ codes ",\"roots\":") ++ array_text roots ++ codes "}\n"

-- the number of links as text, or a phrase if they are unknown or the block is invalid
abbrev pub count_text : Known → List ℕ
count_text (known links) = decimal (length links) ++ codes " links\n"
count_text unknown = codes "links not known\n"
count_text (invalid why) = codes "no block of its codec\n"

-- the offset of an error as a member of a JSON object, if there is one
abbrev pub offset_text : Option ℕ → List ℕ
offset_text None = []
offset_text (Some offset) = codes ",\"at\":" ++ decimal offset

-- the error of an invalid block as members of a JSON object: its name, and its offset
abbrev pub error_text : InvalidBlock → List ℕ
error_text why = codes ",\"error\":\"" ++ (name_of why ++ codes "\"") ++ offset_text (offset_of why)

-- the links as a member of a JSON object, the error of an invalid block, or nothing if the links
-- are unknown
abbrev pub member_text : Known → List ℕ
member_text (known links) = codes ",\"links\":" ++ array_text links
member_text unknown = []
member_text (invalid why) = error_text why

-- the text of a block with these links in this form. Its section begins at the byte `begin`.
abbrev pub linked_text : Form → ℕ → Block → Known → List ℕ
linked_text Blocks begin block links =
    usual_text block.cid ++ codes " " ++ codec_text block.cid.codec ++ (codes " " ++ (decimal (length block.bytes) ++ codes " bytes, ")) ++ count_text links
linked_text Links begin block links = edges_text [] (codes " ") (codes "\n") block.cid (links_known links)
linked_text Dot begin block links = edges_text (codes "  \"") (codes "\" -> \"") (codes "\";\n") block.cid (links_known links)
linked_text Json begin block links =
    codes "{\"cid\":\"" ++ usual_text block.cid ++ codes "\",\"codec\":\"" ++ codec_text block.cid.codec
    ++ (codes "\",\"offset\":" ++ (decimal begin ++ (codes ",\"size\":" ++ decimal (length block.bytes)))) ++ member_text links ++ codes "}\n"

-- True if `line` has the form of a line about a block: the label, the CID, the byte at which its
-- section begins, and a sentence.
abbrev pub IsComplaint : List ℕ → ℕ → Link → List ℕ → Type 0
IsComplaint label begin cid line = (sentence : List ℕ) × (line ≡ label ++ usual_text cid ++ (codes " at byte " ++ (decimal begin ++ codes ": ")) ++ sentence ++ codes "\n")

-- True if `line` is the line about an invalid block, or empty for a valid one. It is also empty for
-- `Json`, because the objects contain the errors.
abbrev pub IsSaid : Form → List ℕ → ℕ → Link → Known → List ℕ → Type 0
IsSaid Json label begin cid links line = line ≡ []
IsSaid form label begin cid (invalid why) line = IsComplaint label begin cid line
IsSaid form label begin cid links line = line ≡ []

-- True if these are the text of the blocks in this form, the lines about the blocks that are
-- invalid for their codec (`IsSaid`), and the number of these blocks. The first section begins at
-- the byte `begin`.
pub data AreListed (form : Form) (label : List ℕ) (begin : ℕ) : List Block → List ℕ → List ℕ → ℕ → Type 0 where
  no_block : AreListed form label begin [] [] [] 0
  block_more : (blocks : List Block) (block : Block) (text lines : List ℕ) (count : ℕ) (links : Known) (line : List ℕ)
      → AreListed form label begin blocks text lines count → IsKnownOf block links → IsSaid form label (begin + sections_len blocks) block.cid links line
      → AreListed form label begin (blocks ++ block ∷ []) (text ++ linked_text form (begin + sections_len blocks) block links) (lines ++ line)
      (count + from_bool (is_invalid links))

-- the text after the blocks
abbrev pub end_text : Form → List ℕ
end_text Blocks = []
end_text Links = []
end_text Dot = codes "}\n"
end_text Json = []

-- the text before the blocks of a CAR
abbrev pub begun_text : {R : Type 0} → Form → CarReader R → List ℕ
begun_text form car = front_text form (version_number car.version) (map link_of car.roots.items)

-- ---- the blocks that don't match their CIDs

-- the number of bytes of a digest of SHA2-256, SHA2-512 or BLAKE2b-256, and 0 for other hash
-- functions
abbrev pub digest_len : ℕ → ℕ
digest_len code = if code == 0x12 then 32 else if code == 0x13 then 64 else if code == 0xb220 then 32 else 0

-- whether the CID has only the first bytes of a digest
abbrev pub is_truncated : Link → Bool
is_truncated cid = nat_lt (length cid.digest) (digest_len cid.code)

-- the end of a line: the reason why a block is not verified
abbrev pub complaint : Link → VerifyError → List ℕ
complaint cid (UnknownHash code) = codes ": the hash function " ++ (hexadecimal code ++ codes " is not computed here\n")
complaint cid WrongDigest =
    if is_truncated cid then codes ": the digest is truncated to " ++ (decimal (length cid.digest) ++ codes " bytes, which is not supported\n")
    else codes ": the block has another digest\n"

-- the last members of a JSON object, with the same reason
abbrev pub complaint_members : VerifyError → List ℕ
complaint_members (UnknownHash code) = codes ",\"error\":\"UnknownHash\",\"hash\":\"" ++ (hexadecimal code ++ codes "\"}\n")
complaint_members WrongDigest = codes ",\"error\":\"WrongDigest\"}\n"

-- the line about a block whose section begins at the byte `begin`
abbrev pub verdict_line : ℕ → Link → VerifyError → List ℕ
verdict_line begin cid error = usual_text cid ++ (codes " at byte " ++ decimal begin) ++ complaint cid error

-- the same as a JSON object
abbrev pub verdict_object : ℕ → Link → VerifyError → List ℕ
verdict_object begin cid error = codes "{\"cid\":\"" ++ usual_text cid ++ (codes "\",\"offset\":" ++ decimal begin) ++ complaint_members error

abbrev pub verdict_text : VerdictForm → ℕ → Link → VerifyError → List ℕ
verdict_text Line begin cid error = verdict_line begin cid error
verdict_text Object begin cid error = verdict_object begin cid error

-- True if the text has the lines, in order, about the blocks that don't have the digest of their
-- CID or whose hash function is not known. The first section begins at the byte `begin`.
pub data Reports (form : VerdictForm) (begin : ℕ) : List Block → List ℕ → Type 0 where
  no_lines : Reports form begin [] []
  no_line : (blocks : List Block) (block : Block) (text : List ℕ) → Reports form begin blocks text
      → digest_by block.cid.code block.bytes ≡ Some block.cid.digest → Reports form begin (blocks ++ block ∷ []) text
  line : (blocks : List Block) (block : Block) (error : VerifyError) (text : List ℕ) → Reports form begin blocks text
      → IsVerifyError block.cid block.bytes error → Reports form begin (blocks ++ block ∷ []) (text ++ verdict_text form (begin + sections_len blocks) block.cid error)
