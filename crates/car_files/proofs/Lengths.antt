-- How many bytes sections have, and where the next begins.
use Rattle.std.proofs.Common.{◌≡◌, ℕ, ◌+◌, List, [], ◌∷◌, ◌++◌, length, Option, ap, ◌∙◌, append_assoc, length-append}
use Rattle.ipld_cid.specs.Varint.{varint_of}
use Rattle.ipld_cid.proofs.Encodings.{one_encoding}
use Rattle.ipld_cid.proofs.Varints.{varint_alone}
use Rattle.ipld_car.specs.declared.reader.CarReader.{CarReader}
use Rattle.ipld_car.specs.Section.{Block, AreSections, IsSection, content_of}
use Rattle.car_files.specs.Reading.{Reads}
use Rattle.car_files.specs.Written.{section_len, sections_len}
use Rattle.car_files.proofs.Streams.{read_from}

section_is : (bytes : List ℕ) (block : Block) → IsSection bytes block → length bytes ≡ section_len block
section_is bytes block s =
    let content : s.cid ++ block.bytes ≡ content_of block = ap (λ (c : List ℕ). c ++ block.bytes) (one_encoding 64 s.cid block.cid s.cid_encoded) in
    let size : s.size ≡ varint_of (length (content_of block)) =
    varint_alone (length (s.cid ++ block.bytes)) s.size s.size_encoded ∙ ap (λ (c : List ℕ). varint_of (length c)) content in
    ap length (s.encoded ∙ append_assoc s.size s.cid block.bytes ∙ ap (λ (c : List ℕ). s.size ++ c) content ∙ ap (λ (z : List ℕ). z ++ content_of block) size)

pub sections_are : (bytes : List ℕ) (blocks : List Block) → AreSections bytes blocks → length bytes ≡ sections_len blocks
sections_are bytes [] s = ap length s
sections_are bytes (block ∷ blocks) s =
    ap length s.2 ∙ length-append s.0 s.1 ∙ ap (λ (n : ℕ). n + length s.1) (section_is s.0 block s.3) ∙ ap (λ (n : ℕ). section_len block + n) (sections_are s.1 blocks s.4)

-- behind the sections of the blocks begins the next
pub begins_behind : {R : Type 0} (before after : Option (List ℕ)) (old new : CarReader R) (blocks : List Block) → Reads (read_from before after old new) blocks
    → new.offset ≡ old.offset + sections_len blocks
begins_behind before after old new blocks r = r.moves.offset ∙ ap (λ (n : ℕ). old.offset + n) (sections_are r.bytes blocks r.sections)
