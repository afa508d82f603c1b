-- A block that is looked for, one block after the other.
use Rattle.std.proofs.Common.{◌≡◌, ℕ, Bool, true, false, List, [], ◌∷◌, ◌++◌, Option, Ok, Err, refl, sym, ◌∙◌}
use Rattle.ipld_cid.specs.Cid.{Link}
use Rattle.ipld_cid.specs.Order.{link_eq}
use Rattle.ipld_cid.specs.Lemmas.OrderLaws.{link_decides}
use Rattle.ipld_car.specs.declared.reader.CarReader.{CarReader}
use Rattle.ipld_car.specs.Section.{Block}
use Rattle.car_files.specs.Has.{has}
use Rattle.car_files.specs.declared.error.CarFileError.{CarFileError}
use Rattle.car_files.specs.Finding.{LooksFor}
use Rattle.car_files.specs.Missing.{cids_of}
use Rattle.car_files.specs.Reading.{Reads, ReadsNext}
use Rattle.car_files.proofs.Sections.{reads_none, reads_more, reads_all, stops_later}
use Rattle.car_files.proofs.Naming.{cids_more}
use Rattle.car_files.proofs.Streams.{read_from}

-- these blocks were read, and none has the CID
pub record LookedSoFar {R : Type 0} (before after : Option (List ℕ)) (old new : CarReader R) (cid : Link) : Type 0 where
  pub blocks : List Block
  pub reads : Reads (read_from before after old new) blocks
  pub none : has cid (cids_of blocks) ≡ false

pub looked_none : {R : Type 0} (bytes : Option (List ℕ)) (car : CarReader R) (cid : Link) → LookedSoFar bytes bytes car car cid
looked_none bytes car cid = record { blocks = []; reads = reads_none bytes car; none = refl }

-- a link isn't another, whichever comes first
apart : (a b : Link) (v : Bool) → link_eq b a ≡ v → link_eq a b ≡ false → v ≡ false
apart a b true is not = let same = (link_decides b a).0 is in let yes = (link_decides a b).1 (sym same) in cc
apart a b false is not = refl

pub looked_more : {R : Type 0} (before between after : Option (List ℕ)) (old mid new : CarReader R) (cid : Link) (block : Block)
    → LookedSoFar before between old mid cid → ReadsNext (read_from between after mid new) block (Ok true) → link_eq block.cid cid ≡ false → LookedSoFar before after old new cid
looked_more before between after old mid new cid block s r other = record {
  blocks = s.blocks ++ block ∷ [];
  reads = reads_more before between after old mid new s.blocks (block ∷ []) s.reads r;
  none = cids_more cid s.blocks block ∙ rw (apart block.cid cid (link_eq cid block.cid) refl other) s.none;
}

pub looked_found : {R : Type 0} (before between after : Option (List ℕ)) (old mid new : CarReader R) (cid : Link) (block : Block)
    → LookedSoFar before between old mid cid → ReadsNext (read_from between after mid new) block (Ok true) → link_eq block.cid cid ≡ true
    → LooksFor (read_from before after old new) cid block (Ok true)
looked_found before between after old mid new cid block s r same = record {
  others = s.blocks;
  reads = reads_more before between after old mid new s.blocks (block ∷ []) s.reads r;
  found = (link_decides block.cid cid).0 same;
  first = s.none;
}

pub looked_all : {R : Type 0} (before between after : Option (List ℕ)) (old mid new : CarReader R) (cid : Link) (block : Block)
    → LookedSoFar before between old mid cid → ReadsNext (read_from between after mid new) block (Ok false) → LooksFor (read_from before after old new) cid block (Ok false)
looked_all before between after old mid new cid block s r =
    record { blocks = s.blocks; reads = reads_all before between after old mid new s.blocks s.reads r; none = s.none }

pub looked_until : {R : Type 0} (before between after : Option (List ℕ)) (old mid new : CarReader R) (cid : Link) (block : Block) (error : CarFileError)
    → LookedSoFar before between old mid cid → ReadsNext (read_from between after mid new) block (Err error) → LooksFor (read_from before after old new) cid block (Err error)
looked_until before between after old mid new cid block error s r = stops_later before between after old mid new s.blocks error s.reads r
