-- What is missing, one block after the other.
use Rattle.std.proofs.Common.{◌≡◌, ℕ, ◌+◌, ◌≤◌, Bool, true, false, cond, not, ◌&&◌, ◌||◌, List, [], ◌∷◌, ◌++◌, length, map, filter, Option, None, Ok, Err, Vec, inl, inr, ◌⊎◌, refl, sym, ap, subst, ◌∙◌, arith, append_assoc, append-nil, length-append}
use Rattle.std.proofs.KnownBytes.{Appends-nil, Appends-trans}
use Rattle.std.specs.Bool.{Decides}
use Rattle.std.specs.List.{IsDistinct}
use Rattle.std.specs.Option.{is_some}
use Rattle.std.specs.Int.{from_bool}
use Rattle.ipld_cid.specs.Cid.{Link}
use Rattle.ipld_cid.specs.LinkOf.{link_of}
use Rattle.ipld_cid.specs.Order.{link_eq}
use Rattle.ipld_cid.specs.Lemmas.OrderLaws.{link_decides}
use Rattle.std.specs.declared.alloc.Global.{Global}
use Rattle.ipld_cid.specs.declared.cid.CidGeneric.{CidGeneric}
use Rattle.ipld_block.specs.Codes.{codec_of_code}
use Rattle.ipld_block.specs.declared.error.InvalidBlock.{InvalidBlock}
use Rattle.ipld_car.specs.declared.reader.CarReader.{CarReader}
use Rattle.ipld_car.specs.Section.{Block}
use Rattle.car_files.specs.Blocks.{BlockHas, BlockFault, links_in}
use Rattle.car_files.specs.Complaints.{Complains, SaidOfLinks, SaysOfLinks, SaysOfBlock, Says, of_roots, of_block}
use Rattle.car_files.specs.Has.{has}
use Rattle.car_files.specs.Index.{Search, Comes, with_link, with_links}
use Rattle.car_files.specs.Names.{Names}
use Rattle.car_files.specs.Reached.{Reaches}
use Rattle.car_files.specs.declared.missing.Seen.{Seen}
use Rattle.car_files.specs.declared.error.CarFileError.{CarFileError}
use Rattle.car_files.specs.declared.error.CarFileError.TheVariants.{Memory, Write, Car}
use Rattle.car_files.specs.Missing.{links_of_block, links_of_blocks, cids_of, is_known, unknown_in, Exactly, AddsBlock, AddsBlocks, AddsCar, AddingFault, Finds, FindingFault}
use Rattle.car_files.specs.Reading.{Reads, ReadsNext, IsWritingError}
use Rattle.car_files.specs.Written.{IsComplaint, sections_len}
use Rattle.car_files.proofs.Lengths.{begins_behind}
use Rattle.car_files.proofs.Naming.{exactly_both, exactly_none, reaches_none, links_more, cids_more, or_comm}
use Rattle.car_files.proofs.Sections.{reads_none, reads_more, reads_all, none_later}
use Rattle.car_files.proofs.Taking.{read_links, no_links, fault_links, block_of_links, has_append}
use Rattle.car_files.proofs.Streams.{read_from, lines_to, seen_of}

-- the blocks that were read so far, what the index knows of them, and what was said of them
pub record AddsSoFar {R : Type 0} (before after : Option (List ℕ)) (old new : CarReader R) (label : List ℕ) (erred errs : Option (List ℕ))
    (first index : Search) (count unknown invalid : ℕ) : Type 0 where
  pub blocks : List Block
  pub reads : Reads (read_from before after old new) blocks
  pub adds : AddsBlocks (map link_of old.roots.items) blocks first index
  pub says : Says (lines_to label erred errs) old blocks invalid
  pub counted : count ≡ length blocks
  pub unread : unknown ≡ unknown_in blocks
  pub few : unknown ≤ count
  pub fewer : invalid ≤ count + 1

at_most_one : (b : Bool) → from_bool b ≤ 0 + 1
at_most_one true = omega arith
at_most_one false = omega arith

or_false : (a : Bool) → (a || false) ≡ a
or_false true = refl
or_false false = refl

or_true : (a : Bool) → (a || true) ≡ true
or_true true = refl
or_true false = refl

and_true : (a : Bool) → (a && true) ≡ a
and_true true = refl
and_true false = refl

and_false : (a : Bool) → (a && false) ≡ false
and_false true = refl
and_false false = refl

true_or_false : (b : Bool) → (b ≡ true) ⊎ (b ≡ false)
true_or_false true = inl refl
true_or_false false = inr refl

already : (c m : Bool) → (c || m) ≡ true → m ≡ (m || (true && not c))
already true true e = refl
already true false e = refl
already false true e = refl
already false false e = absurd (let no : ◌≡◌ {A = Bool} false true = e in cc)

fresh : (c m : Bool) → (c || m) ≡ false → (m || (true || false)) ≡ (m || (true && not c))
fresh true m e = absurd (let no : ◌≡◌ {A = Bool} true false = e in cc)
fresh false true e = refl
fresh false false e = refl

both_links : (m a b d : Bool) → ((m || (a && d)) || (b && d)) ≡ (m || ((a || b) && d))
both_links true a b d = refl
both_links false true true true = refl
both_links false true true false = refl
both_links false true false true = refl
both_links false true false false = refl
both_links false false b d = refl

-- what one block more changes
one_block : (m c b a s d : Bool) → (((((m && not c) || (a && not d)) && not b) || (s && not (b || d)))) ≡ ((m && not (c || b)) || ((a || s) && not (b || d)))
one_block m c true a s d =
    ap (λ (x : Bool). x || (s && false)) (and_false ((m && not c) || (a && not d))) ∙ and_false s
    ∙ sym (ap (λ (x : Bool). (m && not x) || ((a || s) && false)) (or_true c) ∙ ap (λ (x : Bool). x || ((a || s) && false)) (and_false m) ∙ and_false (a || s))
one_block m c false a s d =
    ap (λ (x : Bool). x || (s && not d)) (and_true ((m && not c) || (a && not d))) ∙ both_links (m && not c) a s (not d)
    ∙ ap (λ (x : Bool). (m && not x) || ((a || s) && not d)) (sym (or_false c))

-- whether a link is missing after one is added
has_one : (l link : Link) (came missing : List Link) → has l (with_link link came missing) ≡ (has l missing || (link_eq l link && not (has l came)))
has_one l link came missing = elim (true_or_false (has link came || has link missing)) [
  | inl there ↦ elim (true_or_false (link_eq l link)) [
    | inl same ↦
        let is : l ≡ link = (link_decides l link).0 same in
        rw (there, same) (already (has l came) (has l missing) (subst (λ (k : Link). (has k came || has k missing) ≡ true) (sym is) there))
    | inr apart ↦ rw (there, apart) (sym (or_false (has l missing)))
  ]
  | inr new ↦ rw new (has_append l missing (link ∷ []) ∙ elim (true_or_false (link_eq l link)) [
    | inl same ↦
        let is : l ≡ link = (link_decides l link).0 same in
        rw same (fresh (has l came) (has l missing) (subst (λ (k : Link). (has k came || has k missing) ≡ false) (sym is) new))
    | inr apart ↦ rw apart refl
  ])
]

-- and after several are
has_links : (l : Link) (links came missing : List Link) → has l (with_links links came missing) ≡ (has l missing || (has l links && not (has l came)))
has_links l [] came missing = sym (or_false (has l missing))
has_links l (link ∷ links) came missing =
    has_links l links came (with_link link came missing) ∙ ap (λ (b : Bool). b || (has l links && not (has l came))) (has_one l link came missing)
    ∙ both_links (has l missing) (link_eq l link) (has l links) (not (has l came))

-- the roots were added
roots_added : (roots : List Link) (first index : Search) → Names roots first index → AddsBlocks roots [] first index
roots_added roots first index n = record {
  added = n.added;
  exactly = rw (append-nil roots) n.exactly;
  came = λ l. ap (has l) n.adds.came;
  missing = λ l. ap (has l) n.adds.missing ∙ has_links l n.added first.came first.missing
      ∙ ap (λ (b : Bool). b || (has l n.added && not (has l first.came))) (sym (and_true (has l first.missing)))
      ∙ ap (λ (ls : List Link). (has l first.missing && true) || (has l n.added && not (has l ls))) (sym n.adds.came);
}

pub adds_roots : {R : Type 0} (bytes : Option (List ℕ)) (car : CarReader R) (label : List ℕ) (erred errs : Option (List ℕ)) (first index : Search) (b : Bool)
    → Names (map link_of car.roots.items) first index → SaysOfLinks (lines_to label erred errs) 0 (map link_of car.roots.items) b
    → AddsSoFar bytes bytes car car label erred errs first index 0 0 (from_bool b)
adds_roots bytes car label erred errs first index b n s = record {
  blocks = [];
  reads = reads_none bytes car;
  adds = roots_added (map link_of car.roots.items) first index n;
  says = record { lines = s.lines; said = of_roots s.lines b s.said; complained = s.complained };
  counted = refl;
  unread = refl;
  few = omega arith;
  fewer = at_most_one b;
}

-- how many blocks there are of codecs that aren't known, one more
unknown_more : (blocks : List Block) (block : Block) → unknown_in (blocks ++ block ∷ []) ≡ unknown_in blocks + cond (is_known block) 0 1
unknown_more [] block = omega arith
unknown_more (b ∷ blocks) block = let e = unknown_more blocks block in omega arith

few_more : (count unknown : ℕ) (b : Bool) → unknown ≤ count → unknown + from_bool b ≤ count + 1
few_more count unknown true e = omega arith
few_more count unknown false e = omega arith

-- how many a block adds to those that aren't known
one_more : (n : ℕ) (b : Bool) → n + from_bool (not b) ≡ n + cond b 0 1
one_more n true = refl
one_more n false = refl

or_twice : (a b c : Bool) → (a || (b || c)) ≡ ((b || a) || c)
or_twice true true c = refl
or_twice true false c = refl
or_twice false true c = refl
or_twice false false c = refl

-- among the blocks, one more
among_more : (l : Link) (blocks : List Block) (block : Block) → has l (cids_of (blocks ++ block ∷ [])) ≡ (has l (cids_of blocks) || link_eq l block.cid)
among_more l blocks block = cids_more l blocks block ∙ or_comm (link_eq l block.cid) (has l (cids_of blocks))

blocks_more : (roots : List Link) (blocks : List Block) (block : Block) (first index next : Search) (b : Bool) → AddsBlocks roots blocks first index
    → AddsBlock block index next b → AddsBlocks roots (blocks ++ block ∷ []) first next
blocks_more roots blocks block first index next b s a = record {
  added = s.added ++ a.added;
  exactly = subst (Exactly (s.added ++ a.added))
      (append_assoc roots (links_of_blocks blocks) (links_of_block block) ∙ ap (λ (ls : List Link). roots ++ ls) (sym (links_more blocks block)))
      (exactly_both s.added a.added (roots ++ links_of_blocks blocks) (links_of_block block) s.exactly a.exactly);
  came = λ l. a.came l ∙ ap (λ (c : Bool). link_eq l block.cid || c) (s.came l) ∙ or_twice (link_eq l block.cid) (has l (cids_of blocks)) (has l first.came)
      ∙ ap (λ (c : Bool). c || has l first.came) (sym (among_more l blocks block));
  missing = λ l. a.missing l
      ∙ ap (λ (x : Bool). (x && not (link_eq l block.cid)) || (has l a.added && not (has l next.came))) (s.missing l)
      ∙ ap (λ (c : Bool). (((has l first.missing && not (has l (cids_of blocks))) || (has l s.added && not (has l index.came))) && not (link_eq l block.cid))
      || (has l a.added && not c)) (a.came l)
      ∙ one_block (has l first.missing) (has l (cids_of blocks)) (link_eq l block.cid) (has l s.added) (has l a.added) (has l index.came)
      ∙ ap (λ (c : Bool). (has l first.missing && not (has l (cids_of blocks) || link_eq l block.cid)) || ((has l s.added || has l a.added) && not c))
      (sym (a.came l))
      ∙ ap (λ (x : Bool). (has l first.missing && not x) || ((has l s.added || has l a.added) && not (has l next.came))) (sym (among_more l blocks block))
      ∙ ap (λ (x : Bool). (has l first.missing && not (has l (cids_of (blocks ++ block ∷ [])))) || (x && not (has l next.came)))
      (sym (has_append l s.added a.added));
}

says_more : {R : Type 0} (label : List ℕ) (car : CarReader R) (blocks : List Block) (block : Block) (erred erring errs : Option (List ℕ)) (invalid : ℕ) (c : Bool)
    → Says (lines_to label erred erring) car blocks invalid → SaysOfBlock (lines_to label erring errs) (car.offset + sections_len blocks) block c
    → Says (lines_to label erred errs) car (blocks ++ block ∷ []) (invalid + from_bool c)
says_more label car blocks block erred erring errs invalid c s t = record {
  lines = s.lines ++ t.lines;
  said = of_block blocks block s.lines t.lines invalid c s.said t.said;
  complained = Appends-trans erred erring errs s.lines t.lines s.complained t.complained;
}

-- a block more
pub adds_more : {R : Type 0} (before between after : Option (List ℕ)) (old mid new : CarReader R) (label : List ℕ) (erred erring errs : Option (List ℕ))
    (first index next : Search) (count unknown invalid place : ℕ) (block : Block) (b c : Bool)
    → AddsSoFar before between old mid label erred erring first index count unknown invalid → ReadsNext (read_from between after mid new) block (Ok true)
    → AddsBlock block index next b → place ≡ mid.offset → SaysOfBlock (lines_to label erring errs) place block c
    → AddsSoFar before after old new label erred errs first next (count + 1) (unknown + from_bool b) (invalid + from_bool c)
adds_more before between after old mid new label erred erring errs first index next count unknown invalid place block b c s r a at t = record {
  blocks = s.blocks ++ block ∷ [];
  reads = reads_more before between after old mid new s.blocks (block ∷ []) s.reads r;
  adds = blocks_more (map link_of old.roots.items) s.blocks block first index next b s.adds a;
  says = says_more label old s.blocks block erred erring errs invalid c s.says
      (subst (λ (n : ℕ). SaysOfBlock (lines_to label erring errs) n block c) (at ∙ begins_behind before between old mid s.blocks s.reads) t);
  counted = let e = length-append s.blocks (block ∷ []) in let c = s.counted in omega arith;
  unread = ap (λ n. n + from_bool b) s.unread ∙ ap (λ c. unknown_in s.blocks + from_bool c) a.is_unknown ∙ one_more (unknown_in s.blocks) (is_known block) ∙ sym (unknown_more s.blocks block);
  few = few_more count unknown b s.few;
  fewer = few_more (count + 1) invalid c s.fewer;
}

-- all blocks were read
pub adds_all : {R : Type 0} (before between after : Option (List ℕ)) (old mid new : CarReader R) (label : List ℕ) (erred errs : Option (List ℕ))
    (first index : Search) (count unknown invalid : ℕ) (block : Block)
    → AddsSoFar before between old mid label erred errs first index count unknown invalid → ReadsNext (read_from between after mid new) block (Ok false)
    → AddsCar (read_from before after old new) (lines_to label erred errs) first index (seen_of count unknown invalid)
adds_all before between after old mid new label erred errs first index count unknown invalid block s r = record {
  blocks = s.blocks;
  reads = reads_all before between after old mid new s.blocks s.reads r;
  adds = s.adds;
  says = s.says;
  counted = s.counted;
  unread = s.unread;
}

-- a line could not be written
pub fault_of_writing : {R : Type 0} (before after : Option (List ℕ)) (old new : CarReader R) (label : List ℕ) (erred errs : Option (List ℕ)) (first last : Search)
    (error : CarFileError) → IsWritingError error → AddingFault (read_from before after old new) (lines_to label erred errs) first last error
fault_of_writing before after old new label erred errs first last Memory e = tt
fault_of_writing before after old new label erred errs first last (Write kind) e = e
fault_of_writing before after old new label erred errs first last (Car error) e = absurd e

-- the bytes are no section
pub fault_of_car : {R : Type 0} (before between after : Option (List ℕ)) (old mid new : CarReader R) (label : List ℕ) (erred errs : Option (List ℕ))
    (first index : Search) (count unknown invalid : ℕ) (block : Block) (error : CarFileError)
    → AddsSoFar before between old mid label erred errs first index count unknown invalid → ReadsNext (read_from between after mid new) block (Err error)
    → AddingFault (read_from before after old new) (lines_to label erred errs) first index error
fault_of_car before between after old mid new label erred errs first index count unknown invalid block Memory s r = tt
fault_of_car before between after old mid new label erred errs first index count unknown invalid block (Write kind) s r = absurd r
fault_of_car before between after old mid new label erred errs first index count unknown invalid block (Car error) s r =
    let later = none_later before between after old mid new s.blocks error s.reads r.0 r.1 in (
      later.0,
      subst (λ (bs : List Block). AddsBlocks (map link_of old.roots.items) bs first index) (sym later.1) s.adds,
      invalid,
      subst (λ (bs : List Block). Says (lines_to label erred errs) old bs invalid) (sym later.1) s.says,
    )

-- a link is missing where it is named and its block isn't there
both_ways : {P Q : Type 0} (m a c d : Bool) → Decides a (P × Q) → m ≡ (a && not c) → c ≡ d → Decides m (P × Q × (d ≡ false))
both_ways m true true d f e same = ((λ is. absurd (let no : ◌≡◌ {A = Bool} false true = sym e ∙ is in cc)), (λ p. absurd (let no : ◌≡◌ {A = Bool} true false = same ∙ p.2 in cc)))
both_ways m false true d f e same = ((λ is. absurd (let no : ◌≡◌ {A = Bool} false true = sym e ∙ is in cc)), (λ p. absurd (let no : ◌≡◌ {A = Bool} true false = same ∙ p.2 in cc)))
both_ways m true false d f e same = ((λ is. let p = f.0 refl in (p.0, p.1, sym same)), (λ p. e))
both_ways m false false d f e same = ((λ is. absurd (let no : ◌≡◌ {A = Bool} false true = sym e ∙ is in cc)), (λ p. absurd (let no : ◌≡◌ {A = Bool} false true = f.1 (p.0, p.1) in cc)))

-- what the index then says is missing
pub finds_all : {R : Type 0} (before after : Option (List ℕ)) (old new : CarReader R) (label : List ℕ) (erred errs : Option (List ℕ))
    (first last : Search) (seen : Seen) (missing : Vec (CidGeneric 64) Global) → first ≡ record { came = []; missing = [] }
    → AddsCar (read_from before after old new) (lines_to label erred errs) first last seen → IsDistinct link_eq (map link_of missing.items)
    → map link_of missing.items ≡ last.missing → Finds (read_from before after old new) (lines_to label erred errs) (record { seen = seen; missing = missing })
finds_all before after old new label erred errs first last seen missing none a once same =
    let adds : AddsBlocks (map link_of old.roots.items) a.blocks (record { came = []; missing = [] }) last =
    subst (λ (s : Search). AddsBlocks (map link_of old.roots.items) a.blocks s last) none a.adds in
    record {
      blocks = a.blocks;
      reads = a.reads;
      exactly = λ l. both_ways (has l (map link_of missing.items)) (has l adds.added) (has l (cids_of a.blocks)) (has l (cids_of a.blocks)) (adds.exactly l)
          (ap (has l) same ∙ adds.missing l ∙ ap (λ (b : Bool). has l adds.added && not b) (adds.came l ∙ or_false (has l (cids_of a.blocks)))) refl;
      once = once;
      says = a.says;
      counted = a.counted;
      unread = a.unread;
    }

pub fault_of_adding : {R : Type 0} (before after : Option (List ℕ)) (old new : CarReader R) (label : List ℕ) (erred errs : Option (List ℕ))
    (first last : Search) (error : CarFileError) → AddingFault (read_from before after old new) (lines_to label erred errs) first last error
    → FindingFault (read_from before after old new) (lines_to label erred errs) error
fault_of_adding before after old new label erred errs first last Memory f = tt
fault_of_adding before after old new label erred errs first last (Write kind) f = f
fault_of_adding before after old new label erred errs first last (Car error) f = (f.0, f.2, f.3)

-- ---- one block

-- a link isn't another, whichever comes first
apart_too : (a b : Link) (v : Bool) → link_eq b a ≡ v → link_eq a b ≡ false → v ≡ false
apart_too a b true is not = let same = (link_decides b a).0 is in let yes = (link_decides a b).1 (sym same) in cc
apart_too a b false is not = refl

dropped : (e r : Bool) → (r && not e) ≡ ((e || r) && not e)
dropped true r = and_false r
dropped false r = refl

kept : (h r e : Bool) → (h ≡ true → e ≡ false) → (h || (r && not e)) ≡ ((h || r) && not e)
kept true r e other = ap not (sym (other refl))
kept false r e other = refl

-- whether a link is among others without one
has_without : (l c : Link) (ls : List Link) → has l (filter (λ m. not (link_eq c m)) ls) ≡ (has l ls && not (link_eq l c))
has_without l c [] = refl
has_without l c (m ∷ ls) = elim (true_or_false (link_eq c m)) [
  | inl same ↦
      let is : c ≡ m = (link_decides c m).0 same in
      rw same (has_without l c ls ∙ dropped (link_eq l c) (has l ls) ∙ ap (λ (k : Link). (link_eq l k || has l ls) && not (link_eq l c)) is)
  | inr apart ↦
      let other : link_eq l m ≡ true → link_eq l c ≡ false =
      λ here. apart_too c l (link_eq l c) refl (subst (λ (k : Link). link_eq c k ≡ false) (sym ((link_decides l m).0 here)) apart) in
      rw apart (ap (λ (b : Bool). link_eq l m || b) (has_without l c ls) ∙ kept (link_eq l m) (has l ls) (link_eq l c) other)
]

-- what is missing after a block came
lost : (l : Link) (block : Block) (cid : Link) (old new : Search) → cid ≡ block.cid → Comes cid old new
    → has l new.missing ≡ (has l old.missing && not (link_eq l block.cid))
lost l block cid old new is c =
    ap (has l) c.missing ∙ has_without l cid old.missing ∙ ap (λ (k : Link). has l old.missing && not (link_eq l k)) is

came_too : (l : Link) (block : Block) (cid : Link) (old new : Search) → cid ≡ block.cid → Comes cid old new → has l new.came ≡ (link_eq l block.cid || has l old.came)
came_too l block cid old new is c = c.came l ∙ ap (λ (k : Link). link_eq l k || has l old.came) is

-- a block whose links are known
pub adds_known : (block : Block) (cid : Link) (old mid new : Search) (links : List Link) → cid ≡ block.cid → Comes cid old mid
    → BlockHas block.cid.codec block.bytes links → Names links mid new → AddsBlock block old new false
adds_known block cid old mid new links is c h n = record {
  added = n.added;
  exactly = subst (Exactly n.added) (read_links block.cid.codec block.bytes links h) n.exactly;
  came = λ l. ap (has l) n.adds.came ∙ came_too l block cid old mid is c;
  missing = λ l. ap (has l) n.adds.missing ∙ has_links l n.added mid.came mid.missing
      ∙ ap (λ (b : Bool). b || (has l n.added && not (has l mid.came))) (lost l block cid old mid is c)
      ∙ ap (λ (ls : List Link). (has l old.missing && not (link_eq l block.cid)) || (has l n.added && not (has l ls))) (sym n.adds.came);
  is_unknown = sym (ap (λ c. not (is_some c)) h.1);
}

-- a block without links
adds_alone : (block : Block) (cid : Link) (old new : Search) (b : Bool) → cid ≡ block.cid → Comes cid old new → [] ≡ links_of_block block → b ≡ not (is_known block)
    → AddsBlock block old new b
adds_alone block cid old new b is c none u = record {
  added = [];
  exactly = exactly_none (links_of_block block) none;
  came = λ l. came_too l block cid old new is c;
  missing = λ l. lost l block cid old new is c ∙ sym (or_false (has l old.missing && not (link_eq l block.cid)));
  is_unknown = u;
}

-- a block of another codec
pub adds_unknown : (block : Block) (cid : Link) (old new : Search) → cid ≡ block.cid → Comes cid old new → codec_of_code block.cid.codec ≡ None
    → AddsBlock block old new true
adds_unknown block cid old new is c none =
    adds_alone block cid old new true is c (no_links block.cid.codec block.bytes none) (sym (ap (λ c. not (is_some c)) none))

-- a block that is none of its codec
pub adds_invalid : (block : Block) (cid : Link) (old new : Search) (why : InvalidBlock) → cid ≡ block.cid → Comes cid old new
    → BlockFault block.cid.codec block.bytes why → AddsBlock block old new false
adds_invalid block cid old new why is c wrong =
    adds_alone block cid old new false is c (fault_links block.cid.codec block.bytes why wrong) (sym (ap (λ c. not (is_some c)) wrong.1))

-- nothing is reached from no links, so nothing is said of them
nothing_said : (label : List ℕ) (begin : ℕ) (from : List Link) → [] ≡ from → SaidOfLinks label begin from [] false
nothing_said label begin from e = record {
  faults = [];
  carried = record { only = tt; each = λ l r same. absurd (reaches_none l (subst (λ (ls : List Link). Reaches ls l) (sym e) r)) };
  are_lines = refl;
  is_invalid = refl;
}

-- what was said of the links of a block is said of it
pub says_known : (label : List ℕ) (begin : ℕ) (block : Block) (links : List Link) (erred errs : Option (List ℕ)) (b : Bool)
    → BlockHas block.cid.codec block.bytes links → SaysOfLinks (lines_to label erred errs) begin links b → SaysOfBlock (lines_to label erred errs) begin block b
says_known label begin block links erred errs b h s = record {
  lines = s.lines;
  said = inr (
    block_of_links block.cid.codec block.bytes links h,
    subst (λ (ls : List Link). SaidOfLinks label begin ls s.lines b) (read_links block.cid.codec block.bytes links h) s.said,
  );
  complained = s.complained;
}

-- of one of another codec nothing is said
pub says_unknown : (label : List ℕ) (begin : ℕ) (block : Block) (erred : Option (List ℕ)) → codec_of_code block.cid.codec ≡ None
    → SaysOfBlock (lines_to label erred erred) begin block false
says_unknown label begin block erred none = record {
  lines = [];
  said = inr (inl none, nothing_said label begin (links_in block.cid.codec block.bytes) (no_links block.cid.codec block.bytes none));
  complained = Appends-nil erred;
}

pub says_invalid : (label : List ℕ) (begin : ℕ) (block : Block) (cid : Link) (erred errs : Option (List ℕ)) (why : InvalidBlock) → cid ≡ block.cid
    → BlockFault block.cid.codec block.bytes why → Complains (lines_to label erred errs) begin cid → SaysOfBlock (lines_to label erred errs) begin block true
says_invalid label begin block cid erred errs why is wrong c = record {
  lines = c.line;
  said = inl ((why, wrong), subst (λ (l : Link). IsComplaint label begin l c.line) is c.is_line, refl);
  complained = c.complained;
}
