-- A section that stands next in known bytes is what is read of them.
use Rattle.std.proofs.Common.{◌≡◌, ℕ, ◌-◌, ◌<◌, ◌≤◌, Bool, true, false, List, [], ◌∷◌, ◌++◌, length, Option, Some, None, Result, Ok, Err, inl, inr, refl, sym, ap, subst, ◌∙◌, arith, append_assoc, length-append}
use Rattle.std.specs.Io.KnownBytes.{Consumes}
use Rattle.ipld_cid.specs.Cid.{Link}
use Rattle.ipld_cid.specs.Front.{BeginsWith, split_cid}
use Rattle.ipld_cid.specs.declared.error.CidError.{CidError}
use Rattle.ipld_cid.proofs.Encodings.{one_encoding}
use Rattle.ipld_cid.proofs.Fronts.{split_complete}
use Rattle.ipld_car.specs.declared.error.CarError.{CarError}
use Rattle.ipld_car.specs.declared.error.CarErrorKind.{CarErrorKind}
use Rattle.ipld_car.specs.declared.error.CarErrorKind.TheVariants.{ShortPayload, Cid}
use Rattle.ipld_car.specs.Reading.{ReadsSection, SectionFault, UnlessReaderFails}
use Rattle.ipld_car.specs.Section.{Block, no_block, content_of, IsSection}
use Rattle.ipld_car.specs.Taking.{Ends, IsReaderError}
use Rattle.ipld_car.proofs.OnlyFramed.{StandsNext, same_content, long_enough, not_cut, no_framing_fault}
use Rattle.ipld_car.proofs.SectionReading.{content_is, not_true}
use Rattle.ipld_car.proofs.Takings.{taking}

-- a section of a block, and known bytes that begin with it, of which some were taken
pub record Standing (limit room : ℕ) (block : Block) (taken left : List ℕ) : Type 0 where
  pub content : List ℕ
  pub named : BeginsWith 64 content block.cid block.bytes
  pub next : StandsNext limit room content taken left

no_cid : (content : List ℕ) (block : Block) → BeginsWith 64 content block.cid block.bytes → content ≡ [] → ⊥
unfolding split_cid
no_cid content block b none = let read = sym (split_complete 64 content block.cid block.bytes b) ∙ ap (split_cid 64) none in cc

pub some_of : (content : List ℕ) (block : Block) → BeginsWith 64 content block.cid block.bytes → 0 < length content
some_of [] block b = absurd (no_cid [] block b refl)
some_of (x ∷ content) block b = omega arith

pub standing : (limit room : ℕ) (block : Block) (bytes rest taken left : List ℕ) → IsSection bytes block → length (content_of block) ≤ limit → length bytes ≤ room
    → bytes ++ rest ≡ taken ++ left → Standing limit room block taken left
standing limit room block bytes rest taken left s few fits e =
    let named : BeginsWith 64 (s.cid ++ block.bytes) block.cid block.bytes = record { front = s.cid; encoded = s.cid_encoded; parts = refl } in
    let whole : bytes ≡ s.size ++ (s.cid ++ block.bytes) = s.encoded ∙ append_assoc s.size s.cid block.bytes in
    record {
      content = s.cid ++ block.bytes;
      named = named;
      next = record {
        size = s.size;
        rest = rest;
        sized = s.size_encoded;
        some = some_of (s.cid ++ block.bytes) block named;
        within_limit = subst (λ xs. length (xs ++ block.bytes) ≤ limit) (sym (one_encoding 64 s.cid block.cid s.cid_encoded)) few;
        within_room = let n = ap length whole ∙ length-append s.size (s.cid ++ block.bytes) in omega arith;
        taken_is = sym e ∙ ap (λ l. l ++ rest) whole ∙ append_assoc s.size (s.cid ++ block.bytes) rest;
      };
    }

abbrev as_block : Result (Link × List ℕ) CidError → Block
as_block (Ok p) = record { cid = p.0; bytes = p.1 }
as_block (Err e) = no_block

-- the block that was read
pub same_block : (limit room : ℕ) (block found : Block) (taken left : List ℕ) → Standing limit room block taken left → IsSection taken found → found ≡ block
same_block limit room block found taken left s f =
    let content : s.content ≡ f.cid ++ found.bytes =
    same_content limit room s.content taken left f.size (f.cid ++ found.bytes) s.next f.size_encoded (f.encoded ∙ append_assoc f.size f.cid found.bytes) in
    let first = split_complete 64 s.content block.cid block.bytes s.named in
    let second = split_complete 64 s.content found.cid found.bytes (record { front = f.cid; encoded = f.cid_encoded; parts = content }) in
    ap as_block (sym second ∙ first)

-- nothing is at fault
pub no_fault : (limit room : ℕ) (block : Block) (taken left : List ℕ) (bytes : List ℕ) (new : Option (List ℕ)) (kind : CarErrorKind) (place : ℕ) → Standing limit room block taken left → new ≡ Some left
    → SectionFault limit room (Some bytes) new taken kind place → IsReaderError kind
no_fault limit room block taken left bytes new (ShortPayload expected found) place s is f =
    absurd (not_cut limit room s.content taken left s.next (long_enough limit room s.content taken left new bytes s.next is (inr f.0.ends)) f.0.cut)
no_fault limit room block taken left bytes new (Cid error) place s is f =
    let content : s.content ≡ f.framed.content =
    same_content limit room s.content taken left f.framed.size f.framed.content s.next f.framed.size_encoded f.framed.encoded in
    absurd (f.none block.cid block.bytes (subst (λ xs. BeginsWith 64 xs block.cid block.bytes) (content ∙ sym (content_is limit room taken place f.framed)) s.named))
no_fault limit room block taken left bytes new kind place s is f = no_framing_fault limit room s.content taken left bytes new kind s.next is f.0

-- what is returned where the section stands next
pub only_section : (limit begin end : ℕ) (old new : Option (List ℕ)) (taken : List ℕ) (found : Block) (result : Result Bool CarError) → Consumes old new taken
    → ReadsSection false (taking limit begin end old new taken) found result → (block : Block) (bytes rest : List ℕ) → old ≡ Some (bytes ++ rest) → IsSection bytes block
    → length (content_of block) ≤ limit → length bytes ≤ end - begin → UnlessReaderFails result (λ has. (has ≡ true) × (found ≡ block))
only_section limit begin end None new taken found result c r block bytes rest known is few fits = absurd (let no = known in cc)
only_section limit begin end (Some xs) None taken found result c r block bytes rest known is few fits = absurd c
only_section limit begin end (Some xs) (Some left) taken found (Ok true) c r block bytes rest known is few fits =
    (refl, same_block limit (end - begin) block found taken left (standing limit (end - begin) block bytes rest taken left is few fits (let e : xs ≡ bytes ++ rest = cc in sym e ∙ c)) r.0)
only_section limit begin end (Some xs) (Some left) taken found (Ok false) c (none, inr padded) block bytes rest known is few fits =
    absurd (not_true padded.0)
only_section limit begin end (Some xs) (Some left) taken found (Ok false) c (none, inl ends) block bytes rest known is few fits =
    let s = standing limit (end - begin) block bytes rest taken left is few fits (let e : xs ≡ bytes ++ rest = cc in sym e ∙ c) in
    absurd (let long = long_enough limit (end - begin) s.content taken left (Some left) xs s.next refl (subst (Ends (end - begin) (Some xs) (Some left)) (sym none) ends) in
    let empty : length taken ≡ 0 = ap length none in let some = s.next.some in omega arith)
only_section limit begin end (Some xs) (Some left) taken found (Err error) c r block bytes rest known is few fits =
    no_fault limit (end - begin) block taken left xs (Some left) error.kind r.place
    (standing limit (end - begin) block bytes rest taken left is few fits (let e : xs ≡ bytes ++ rest = cc in sym e ∙ c)) refl r.why
