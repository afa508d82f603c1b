-- The blocks that were found in a damaged CAR are written one after the other.
use Rattle.std.proofs.Common.{◌≡◌, ℕ, ◌+◌, ◌-◌, ◌≤◌, Bool, List, [], ◌∷◌, ◌++◌, refl, sym, ap, ap₂, subst, ◌∙◌, arith, append_assoc, append-nil, length, length-append, take, drop, map}
use Rattle.std.proofs.Math.Seq.{take-append_seam, drop-append_seam}
use Rattle.std.proofs.lemmas.List.{take-append-drop}
use Rattle.ipld_cid.specs.Cid.{Link}
use Rattle.ipld_cid.specs.Front.{BeginsWith}
use Rattle.ipld_cid.specs.LinkOf.{link_of}
use Rattle.ipld_cid.specs.Varint.{IsVarint}
use Rattle.ipld_cid.specs.declared.cid.CidGeneric.{CidGeneric}
use Rattle.ipld_car.specs.InMemory.{between, SpansSection}
use Rattle.ipld_car.specs.Section.{Block}
use Rattle.ipld_car.specs.declared.span.SectionSpan.{SectionSpan}
use Rattle.ipld_cli.specs.NewCar.{Puts, Sink}
use Rattle.ipld_cli.specs.Salvage.{BeginsSection}
use Rattle.ipld_cli.proofs.NewCars.{puts_more, puts_none}

-- the CIDs of entries
abbrev pub links_in : List (CidGeneric 64 × ℕ) → List Link
links_in entries = map (λ (entry : CidGeneric 64 × ℕ). link_of entry.0) entries

-- True if the blocks of `all` but those of the entries that are left were written.
pub record PutsUpTo (h u : Bool) (left : List (CidGeneric 64 × ℕ)) (all : List Link) (old new : Sink) : Type 0 where
  pub done : List Link
  pub parts : done ++ links_in left ≡ all
  pub puts : Puts h u done old new

pub puts_first : (h u : Bool) (left : List (CidGeneric 64 × ℕ)) (state : Sink) → PutsUpTo h u left (links_in left) state state
puts_first h u left state = record { done = []; parts = refl; puts = puts_none h u state }

pub puts_next : (h u : Bool) (entry : CidGeneric 64 × ℕ) (left : List (CidGeneric 64 × ℕ)) (all : List Link) (old mid new : Sink)
    → PutsUpTo h u (entry ∷ left) all old mid → Puts h u (link_of entry.0 ∷ []) mid new → PutsUpTo h u left all old new
puts_next h u entry left all old mid new p q = record {
  done = p.done ++ link_of entry.0 ∷ [];
  parts = append_assoc p.done (link_of entry.0 ∷ []) (links_in left) ∙ p.parts;
  puts = puts_more h u p.done (link_of entry.0 ∷ []) old mid new p.puts q;
}

pub puts_last : (h u : Bool) (all : List Link) (old new : Sink) → PutsUpTo h u [] all old new → Puts h u all old new
puts_last h u all old new p = subst (λ (it : List Link). Puts h u it old new) (sym (append-nil p.done) ∙ p.parts) p.puts

-- the bytes after a section, also those behind the ones that were looked at
whole_parts : (end : ℕ) (bytes : List ℕ) (span : SectionSpan) (block : Block) (s : SpansSection (between 0 end bytes) 0 block span)
    → bytes ≡ s.section ++ (s.rest ++ drop end bytes)
whole_parts end bytes span block s =
    let same : end - 0 ≡ end = omega arith in
    sym (take-append-drop end bytes)
    ∙ ap (λ (xs : List ℕ). xs ++ drop end bytes) (sym (ap (λ (n : ℕ). take n bytes) same) ∙ s.parts)
    ∙ append_assoc s.section s.rest (drop end bytes)

-- the content of a section
content_there : (end : ℕ) (bytes : List ℕ) (span : SectionSpan) (block : Block) (s : SpansSection (between 0 end bytes) 0 block span)
    → take (span.end - span.cid) (drop span.cid bytes) ≡ s.is_section.cid ++ block.bytes
content_there end bytes span block s =
    let size = s.is_section.size in
    let content = s.is_section.cid ++ block.bytes in
    let tail = s.rest ++ drop end bytes in
    let section : s.section ≡ size ++ content = s.is_section.encoded ∙ append_assoc size s.is_section.cid block.bytes in
    let all : bytes ≡ size ++ (content ++ tail) =
    whole_parts end bytes span block s ∙ ap (λ (xs : List ℕ). xs ++ tail) section ∙ append_assoc size content tail in
    let begins : span.cid ≡ length size = s.cid_begins ∙ omega arith in
    let behind : drop span.cid bytes ≡ content ++ tail = ap₂ (λ (n : ℕ) (xs : List ℕ). drop n xs) begins all ∙ drop-append_seam size (content ++ tail) in
    let l = ap length section ∙ length-append size content in
    let e = s.ends in
    let count : span.end - span.cid ≡ length content = omega arith in
    ap₂ (λ (n : ℕ) (xs : List ℕ). take n xs) count behind ∙ take-append_seam content tail

pub section_found : (limit end : ℕ) (bytes : List ℕ) (span : SectionSpan) (block found : Block) → SpansSection (between 0 end bytes) 0 block span → span.end - span.cid ≤ limit
    → BeginsWith 64 (take (span.end - span.cid) (drop span.cid bytes)) found.cid found.bytes → BeginsSection limit bytes found span.end
section_found limit end bytes span block found s short b =
    let there = content_there end bytes span block s in
    let content : s.is_section.cid ++ block.bytes ≡ b.front ++ found.bytes = sym there ∙ b.parts in
    let l = ap length s.is_section.encoded ∙ ap length (append_assoc s.is_section.size s.is_section.cid block.bytes) ∙ length-append s.is_section.size (s.is_section.cid ++ block.bytes) in
    let c = s.cid_begins in
    let e = s.ends in
    let same = ap length content in
    record {
      section = s.section;
      rest = s.rest ++ drop end bytes;
      parts = whole_parts end bytes span block s;
      is_section = record {
        size = s.is_section.size;
        cid = b.front;
        size_encoded = subst (λ (xs : List ℕ). IsVarint (length xs) s.is_section.size) content s.is_section.size_encoded;
        cid_encoded = b.encoded;
        encoded = s.is_section.encoded ∙ append_assoc s.is_section.size s.is_section.cid block.bytes
            ∙ ap (λ (xs : List ℕ). s.is_section.size ++ xs) content ∙ sym (append_assoc s.is_section.size b.front found.bytes);
      };
      within = omega arith;
      counted = e ∙ omega arith;
    }
