-- Blocks, listed and verified one after the other.
use Rattle.std.proofs.Common.{◌≡◌, ℕ, ◌+◌, ◌-◌, ◌≤◌, Bool, true, false, List, [], ◌∷◌, ◌++◌, length, map, Option, Some, Ok, Err, refl, sym, ap, subst, ◌∙◌, arith, append_assoc, append-nil, length-append}
use Rattle.std.proofs.KnownBytes.{Appends-nil, Appends-trans}
use Rattle.std.specs.Io.KnownBytes.{Appends}
use Rattle.std.specs.Int.{from_bool}
use Rattle.ipld_block.specs.Digest.{digest_by, IsVerifyError}
use Rattle.ipld_block.specs.declared.block_cid.error.VerifyError.{VerifyError}
use Rattle.ipld_block.specs.declared.block_cid.error.VerifyError.TheVariants.{WrongDigest, UnknownHash}
use Rattle.ipld_cid.specs.Cid.{Link}
use Rattle.ipld_cid.specs.LinkOf.{link_of}
use Rattle.ipld_cid.specs.declared.cid.CidGeneric.{CidGeneric}
use Rattle.ipld_car.specs.declared.reader.CarReader.{CarReader}
use Rattle.ipld_car.specs.Section.{Block}
use Rattle.car_files.specs.declared.error.CarFileError.{CarFileError}
use Rattle.car_files.specs.declared.error.CarFileError.TheVariants.{Memory, Write, Car}
use Rattle.car_files.specs.declared.list.Form.{Form}
use Rattle.car_files.specs.declared.list.Form.TheVariants.{Blocks, Links, Dot, Json}
use Rattle.car_files.specs.declared.places.SectionPlaces.{SectionPlaces}
use Rattle.car_files.specs.declared.verify.VerdictForm.{VerdictForm}
use Rattle.car_files.specs.Listing.{ListsBlocks, Lists, ListingFault, ListsBlock}
use Rattle.car_files.specs.Places.{Adds, places_of}
use Rattle.car_files.specs.Reading.{Reads, ReadsNext, IsWritingError}
use Rattle.car_files.specs.Verifying.{Tallies, nothing, right_one, wrong_one, unknown_one, Writes, Verifies, VerifyingFault}
use Rattle.car_files.specs.Written.{Known, known, unknown as not_read, invalid, IsKnownOf, IsSaid, is_invalid, sections_len, version_number, front_text, linked_text, AreListed, no_block, block_more, begun_text, end_text, verdict_text, no_lines, no_line, line}
use Rattle.car_files.proofs.Sections.{reads_none, reads_more, reads_all, none_later}
use Rattle.car_files.proofs.Lengths.{begins_behind}
use Rattle.car_files.proofs.Placing.{adds_none, adds_section}
use Rattle.car_files.proofs.Streams.{read_from, output_to, lines_to, listed_of, verified_of}

-- so many blocks were listed in this form, and so many of them are none of their codec
pub record ListsSoFar {R : Type 0} (before after : Option (List ℕ)) (old new : CarReader R) (form : Form) (label : List ℕ) (held holds erred errs : Option (List ℕ))
    (count wrong : ℕ) : Type 0 where
  pub blocks : List Block
  pub reads : Reads (read_from before after old new) blocks
  pub counted : count ≡ length blocks
  pub few : wrong ≤ count
  pub lists : ListsBlocks form (output_to held holds) (lines_to label erred errs) old blocks wrong []

-- what stands before the blocks was written
pub lists_none : {R : Type 0} (bytes : Option (List ℕ)) (car : CarReader R) (form : Form) (label : List ℕ) (held holds erred : Option (List ℕ)) (version : ℕ)
    (roots : List (CidGeneric 64)) → version ≡ version_number car.version → roots ≡ car.roots.items → Appends held holds (front_text form version (map link_of roots))
    → ListsSoFar bytes bytes car car form label held holds erred erred 0 0
lists_none bytes car form label held holds erred version roots v r a = record {
  blocks = [];
  reads = reads_none bytes car;
  counted = refl;
  few = omega arith;
  lists = record {
    text = [];
    lines = [];
    listed = no_block;
    written = subst (Appends held holds)
        (ap (λ (n : ℕ). front_text form n (map link_of roots)) v ∙ ap (λ (cids : List (CidGeneric 64)). front_text form (version_number car.version) (map link_of cids)) r
        ∙ sym (append-nil (begun_text form car)) ∙ sym (append-nil (begun_text form car ++ []))) a;
    complained = Appends-nil erred;
  };
}

few_more : (count wrong : ℕ) (b : Bool) → wrong ≤ count → wrong + from_bool b ≤ count + 1
few_more count wrong true e = omega arith
few_more count wrong false e = omega arith

-- a block more was listed
blocks_more : {R : Type 0} (form : Form) (label : List ℕ) (car : CarReader R) (blocks : List Block) (block : Block) (held holding holds erred erring errs : Option (List ℕ))
    (wrong : ℕ) (b : Bool) → ListsBlocks form (output_to held holding) (lines_to label erred erring) car blocks wrong []
    → ListsBlock form (output_to holding holds) (lines_to label erring errs) (car.offset + sections_len blocks) block b
    → ListsBlocks form (output_to held holds) (lines_to label erred errs) car (blocks ++ block ∷ []) (wrong + from_bool b) []
blocks_more form label car blocks block held holding holds erred erring errs wrong b s l =
    let here : List ℕ = linked_text form (car.offset + sections_len blocks) block l.links in
    record {
      text = s.text ++ here;
      lines = s.lines ++ l.line;
      listed = subst (λ (w : Bool). AreListed form label car.offset (blocks ++ block ∷ []) (s.text ++ here) (s.lines ++ l.line) (wrong + from_bool w)) (sym l.is_wrong)
          (block_more blocks block s.text s.lines wrong l.links l.line s.listed l.is_known l.is_said);
      written = subst (Appends held holds)
          (ap (λ (t : List ℕ). t ++ here) (append-nil (begun_text form car ++ s.text)) ∙ append_assoc (begun_text form car) s.text here
          ∙ sym (append-nil (begun_text form car ++ (s.text ++ here))))
          (Appends-trans held holding holds (begun_text form car ++ s.text ++ []) here s.written l.written);
      complained = Appends-trans erred erring errs s.lines l.line s.complained l.complained;
    }

pub lists_more : {R : Type 0} (before between after : Option (List ℕ)) (old mid new : CarReader R) (form : Form) (label : List ℕ)
    (held holding holds erred erring errs : Option (List ℕ)) (count wrong place : ℕ) (block : Block) (b : Bool)
    → ListsSoFar before between old mid form label held holding erred erring count wrong → ReadsNext (read_from between after mid new) block (Ok true) → place ≡ mid.offset
    → ListsBlock form (output_to holding holds) (lines_to label erring errs) place block b → ListsSoFar before after old new form label held holds erred errs (count + 1) (wrong + from_bool b)
lists_more before between after old mid new form label held holding holds erred erring errs count wrong place block b s r at l = record {
  blocks = s.blocks ++ block ∷ [];
  reads = reads_more before between after old mid new s.blocks (block ∷ []) s.reads r;
  counted = let e = length-append s.blocks (block ∷ []) in let c = s.counted in omega arith;
  few = few_more count wrong b s.few;
  lists = blocks_more form label old s.blocks block held holding holds erred erring errs wrong b s.lists
      (subst (λ (n : ℕ). ListsBlock form (output_to holding holds) (lines_to label erring errs) n block b) (at ∙ begins_behind before between old mid s.blocks s.reads) l);
}

pub lists_all : {R : Type 0} (before between after : Option (List ℕ)) (old mid new : CarReader R) (form : Form) (label : List ℕ)
    (held holding holds erred errs : Option (List ℕ)) (count wrong : ℕ) (block : Block)
    → ListsSoFar before between old mid form label held holding erred errs count wrong → ReadsNext (read_from between after mid new) block (Ok false)
    → Appends holding holds (end_text form) → Lists form (read_from before after old new) (output_to held holds) (lines_to label erred errs) (listed_of count wrong)
lists_all before between after old mid new form label held holding holds erred errs count wrong block s r a = record {
  blocks = s.blocks;
  reads = reads_all before between after old mid new s.blocks s.reads r;
  counted = s.counted;
  lists = record {
    text = s.lists.text;
    lines = s.lists.lines;
    listed = s.lists.listed;
    written = subst (Appends held holds) (ap (λ (t : List ℕ). t ++ end_text form) (append-nil (begun_text form old ++ s.lists.text)))
        (Appends-trans held holding holds (begun_text form old ++ s.lists.text ++ []) (end_text form) s.lists.written a);
    complained = s.lists.complained;
  };
}

true_false : ◌≡◌ {A = Bool} true false → ⊥
true_false e = cc

-- of a block that isn't known to be none of its codec nothing is said
quiet : (form : Form) (label : List ℕ) (begin : ℕ) (cid : Link) (links : Known) → is_invalid links ≡ false → IsSaid form label begin cid links []
quiet Json label begin cid links e = refl
quiet Blocks label begin cid (known ls) e = refl
quiet Blocks label begin cid not_read e = refl
quiet Blocks label begin cid (invalid why) e = absurd (true_false e)
quiet Links label begin cid (known ls) e = refl
quiet Links label begin cid not_read e = refl
quiet Links label begin cid (invalid why) e = absurd (true_false e)
quiet Dot label begin cid (known ls) e = refl
quiet Dot label begin cid not_read e = refl
quiet Dot label begin cid (invalid why) e = absurd (true_false e)

pub listed_quietly : (form : Form) (label : List ℕ) (begin : ℕ) (block : Block) (held holds erred : Option (List ℕ)) (links : Known) → IsKnownOf block links
    → Appends held holds (linked_text form begin block links) → is_invalid links ≡ false → ListsBlock form (output_to held holds) (lines_to label erred erred) begin block false
listed_quietly form label begin block held holds erred links k w e = record {
  links = links;
  is_known = k;
  written = w;
  line = [];
  is_said = quiet form label begin block.cid links e;
  complained = Appends-nil erred;
  is_wrong = sym e;
}

-- what was written could not be
pub unwritten : {R : Type 0} (before after : Option (List ℕ)) (old new : CarReader R) (form : Form) (label : List ℕ) (held holds erred errs : Option (List ℕ))
    (error : CarFileError) → IsWritingError error → ListingFault form (read_from before after old new) (output_to held holds) (lines_to label erred errs) error
unwritten before after old new form label held holds erred errs Memory e = tt
unwritten before after old new form label held holds erred errs (Write kind) e = e
unwritten before after old new form label held holds erred errs (Car error) e = absurd e

pub unlisted_car : {R : Type 0} (before between after : Option (List ℕ)) (old mid new : CarReader R) (form : Form) (label : List ℕ)
    (held holds erred errs : Option (List ℕ)) (count wrong : ℕ) (block : Block) (error : CarFileError)
    → ListsSoFar before between old mid form label held holds erred errs count wrong → ReadsNext (read_from between after mid new) block (Err error)
    → ListingFault form (read_from before after old new) (output_to held holds) (lines_to label erred errs) error
unlisted_car before between after old mid new form label held holds erred errs count wrong block Memory s r = tt
unlisted_car before between after old mid new form label held holds erred errs count wrong block (Car error) s r =
    let later = none_later before between after old mid new s.blocks error s.reads r.0 r.1 in
    (later.0, wrong, subst (λ (bs : List Block). ListsBlocks form (output_to held holds) (lines_to label erred errs) old bs wrong []) (sym later.1) s.lists)
unlisted_car before between after old mid new form label held holds erred errs count wrong block (Write kind) s r = absurd r

-- so many blocks were seen, and so many of them are wrong or not known
pub record TalliesSoFar {R : Type 0} (verdict : VerdictForm) (before after : Option (List ℕ)) (old new : CarReader R) (first last : SectionPlaces) (held holds : Option (List ℕ)) (count wrong unknown : ℕ) : Type 0 where
  pub blocks : List Block
  pub reads : Reads (read_from before after old new) blocks
  pub right : ℕ
  pub tallies : Tallies blocks right wrong unknown
  pub total : right + wrong + unknown ≡ count
  pub adds : Adds first last (places_of old.offset blocks)
  pub writes : Writes verdict old.offset blocks (output_to held holds)

pub tallies_none : {R : Type 0} (verdict : VerdictForm) (bytes : Option (List ℕ)) (car : CarReader R) (places : SectionPlaces) (held : Option (List ℕ)) → TalliesSoFar verdict bytes bytes car car places places held held 0 0 0
tallies_none verdict bytes car places held = record {
  blocks = [];
  reads = reads_none bytes car;
  right = 0;
  tallies = nothing;
  total = refl;
  adds = adds_none places;
  writes = record { text = []; reports = no_lines; appends = Appends-nil held };
}

-- nothing is written about a block
right_written : (verdict : VerdictForm) (begin : ℕ) (blocks : List Block) (block : Block) (held holds : Option (List ℕ)) → Writes verdict begin blocks (output_to held holds)
    → digest_by block.cid.code block.bytes ≡ Some block.cid.digest → Writes verdict begin (blocks ++ block ∷ []) (output_to held holds)
right_written verdict begin blocks block held holds w d = record { text = w.text; reports = no_line blocks block w.text w.reports d; appends = w.appends }

-- a line is
other_written : {R : Type 0} (verdict : VerdictForm) (before between : Option (List ℕ)) (old mid : CarReader R) (held holding holds : Option (List ℕ)) (place : ℕ) (blocks : List Block) (block : Block) (error : VerifyError)
    → Reads (read_from before between old mid) blocks → place ≡ mid.offset → Writes verdict old.offset blocks (output_to held holding) → IsVerifyError block.cid block.bytes error
    → Appends holding holds (verdict_text verdict place block.cid error) → Writes verdict old.offset (blocks ++ block ∷ []) (output_to held holds)
other_written verdict before between old mid held holding holds place blocks block error r at w e a = record {
  text = w.text ++ verdict_text verdict (old.offset + sections_len blocks) block.cid error;
  reports = line blocks block error w.text w.reports e;
  appends = Appends-trans held holding holds w.text (verdict_text verdict (old.offset + sections_len blocks) block.cid error) w.appends
      (subst (λ (n : ℕ). Appends holding holds (verdict_text verdict n block.cid error)) (at ∙ begins_behind before between old mid blocks r) a);
}

pub tallies_right : {R : Type 0} (verdict : VerdictForm) (before between after : Option (List ℕ)) (old mid new : CarReader R) (first middle last : SectionPlaces) (held holds : Option (List ℕ)) (count wrong unknown place : ℕ) (block : Block)
    → TalliesSoFar verdict before between old mid first middle held holds count wrong unknown → ReadsNext (read_from between after mid new) block (Ok true)
    → place ≡ mid.offset → Adds middle last ((block.cid, place) ∷ [])
    → digest_by block.cid.code block.bytes ≡ Some block.cid.digest → TalliesSoFar verdict before after old new first last held holds (count + 1) wrong unknown
tallies_right verdict before between after old mid new first middle last held holds count wrong unknown place block s r at a d = record {
  blocks = s.blocks ++ block ∷ [];
  reads = reads_more before between after old mid new s.blocks (block ∷ []) s.reads r;
  right = s.right + 1;
  tallies = right_one s.blocks block s.right wrong unknown s.tallies d;
  total = let t = s.total in omega arith;
  adds = adds_section first middle last old.offset place s.blocks block s.adds (at ∙ begins_behind before between old mid s.blocks s.reads) a;
  writes = right_written verdict old.offset s.blocks block held holds s.writes d;
}

pub tallies_wrong : {R : Type 0} (verdict : VerdictForm) (before between after : Option (List ℕ)) (old mid new : CarReader R) (first middle last : SectionPlaces) (held holding holds : Option (List ℕ)) (count wrong unknown place : ℕ) (block : Block)
    → TalliesSoFar verdict before between old mid first middle held holding count wrong unknown → ReadsNext (read_from between after mid new) block (Ok true)
    → IsVerifyError block.cid block.bytes WrongDigest → place ≡ mid.offset → Adds middle last ((block.cid, place) ∷ []) → Appends holding holds (verdict_text verdict place block.cid WrongDigest)
    → TalliesSoFar verdict before after old new first last held holds (count + 1) (wrong + 1) unknown
tallies_wrong verdict before between after old mid new first middle last held holding holds count wrong unknown place block s r d at p a = record {
  blocks = s.blocks ++ block ∷ [];
  reads = reads_more before between after old mid new s.blocks (block ∷ []) s.reads r;
  right = s.right;
  tallies = wrong_one s.blocks block s.right wrong unknown s.tallies d;
  total = let t = s.total in omega arith;
  adds = adds_section first middle last old.offset place s.blocks block s.adds (at ∙ begins_behind before between old mid s.blocks s.reads) p;
  writes = other_written verdict before between old mid held holding holds place s.blocks block WrongDigest s.reads at s.writes d a;
}

pub tallies_unknown : {R : Type 0} (verdict : VerdictForm) (before between after : Option (List ℕ)) (old mid new : CarReader R) (first middle last : SectionPlaces) (held holding holds : Option (List ℕ)) (count wrong unknown code place : ℕ) (block : Block)
    → TalliesSoFar verdict before between old mid first middle held holding count wrong unknown → ReadsNext (read_from between after mid new) block (Ok true)
    → IsVerifyError block.cid block.bytes (UnknownHash code) → place ≡ mid.offset → Adds middle last ((block.cid, place) ∷ []) → Appends holding holds (verdict_text verdict place block.cid (UnknownHash code))
    → TalliesSoFar verdict before after old new first last held holds (count + 1) wrong (unknown + 1)
tallies_unknown verdict before between after old mid new first middle last held holding holds count wrong unknown code place block s r d at p a = record {
  blocks = s.blocks ++ block ∷ [];
  reads = reads_more before between after old mid new s.blocks (block ∷ []) s.reads r;
  right = s.right;
  tallies = unknown_one s.blocks block s.right wrong unknown s.tallies d.1;
  total = let t = s.total in omega arith;
  adds = adds_section first middle last old.offset place s.blocks block s.adds (at ∙ begins_behind before between old mid s.blocks s.reads) p;
  writes = other_written verdict before between old mid held holding holds place s.blocks block (UnknownHash code) s.reads at s.writes d a;
}

-- the digest of the block, by its parts
pub right_block : (block : Block) (cid : Link) (bytes : List ℕ) → cid ≡ block.cid → bytes ≡ block.bytes → digest_by cid.code bytes ≡ Some cid.digest
    → digest_by block.cid.code block.bytes ≡ Some block.cid.digest
right_block block cid bytes c b d =
    subst (λ (l : Link). digest_by l.code block.bytes ≡ Some l.digest) c (subst (λ (xs : List ℕ). digest_by cid.code xs ≡ Some cid.digest) b d)

-- the error of the block, by its parts
pub error_of : (block : Block) (cid : Link) (bytes : List ℕ) (error kind : VerifyError) → cid ≡ block.cid → bytes ≡ block.bytes → error ≡ kind
    → IsVerifyError cid bytes error → IsVerifyError block.cid block.bytes kind
error_of block cid bytes error kind c b k e =
    subst (IsVerifyError block.cid block.bytes) k (subst (λ xs. IsVerifyError block.cid xs error) b (subst (λ l. IsVerifyError l bytes error) c e))

-- the line about the block, by the parts of its error
pub line_of : (verdict : VerdictForm) (held holds : Option (List ℕ)) (place : ℕ) (block : Block) (cid : Link) (error kind : VerifyError) → cid ≡ block.cid → error ≡ kind
    → Appends held holds (verdict_text verdict place cid error) → Appends held holds (verdict_text verdict place block.cid kind)
line_of verdict held holds place block cid error kind c k a =
    subst (λ (e : VerifyError). Appends held holds (verdict_text verdict place block.cid e)) k (subst (λ (l : Link). Appends held holds (verdict_text verdict place l error)) c a)

pub tallies_all : {R : Type 0} (verdict : VerdictForm) (before between after : Option (List ℕ)) (old mid new : CarReader R) (first last : SectionPlaces) (held holds : Option (List ℕ)) (count wrong unknown right : ℕ) (block : Block)
    → TalliesSoFar verdict before between old mid first last held holds count wrong unknown → ReadsNext (read_from between after mid new) block (Ok false) → right ≡ count - wrong - unknown
    → Verifies verdict (read_from before after old new) first last (output_to held holds) (verified_of right wrong unknown)
tallies_all verdict before between after old mid new first last held holds count wrong unknown right block s r is = record {
  blocks = s.blocks;
  reads = reads_all before between after old mid new s.blocks s.reads r;
  tallies = subst (λ n. Tallies s.blocks n wrong unknown) (let t = s.total in let is_right : s.right ≡ right = omega arith in is_right) s.tallies;
  adds = s.adds;
  writes = s.writes;
}

pub unverified_car : {R : Type 0} (verdict : VerdictForm) (before between after : Option (List ℕ)) (old mid new : CarReader R) (first last : SectionPlaces) (held holds : Option (List ℕ)) (count wrong unknown : ℕ) (block : Block) (error : CarFileError)
    → TalliesSoFar verdict before between old mid first last held holds count wrong unknown → ReadsNext (read_from between after mid new) block (Err error) → VerifyingFault verdict (read_from before after old new) (output_to held holds) error
unverified_car verdict before between after old mid new first last held holds count wrong unknown block (Write kind) s r = absurd r
unverified_car verdict before between after old mid new first last held holds count wrong unknown block Memory s r = tt
unverified_car verdict before between after old mid new first last held holds count wrong unknown block (Car error) s r =
    let later = none_later before between after old mid new s.blocks error s.reads r.0 r.1 in
    (later.0, subst (λ (bs : List Block). Writes verdict old.offset bs (output_to held holds)) (sym later.1) s.writes)

pub unverified : {R : Type 0} (verdict : VerdictForm) (before after : Option (List ℕ)) (old new : CarReader R) (held holds : Option (List ℕ)) (error : CarFileError)
    → IsWritingError error → VerifyingFault verdict (read_from before after old new) (output_to held holds) error
unverified verdict before after old new held holds Memory e = tt
unverified verdict before after old new held holds (Write kind) e = e
unverified verdict before after old new held holds (Car error) e = absurd e
