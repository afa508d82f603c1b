-- A file that is written part by part.
use Rattle.std.proofs.Common.{◌≡◌, ℕ, zero, suc, ◌+◌, ◌≤◌, List, [], ◌∷◌, ◌++◌, length, map, drop, Option, Some, None, inl, inr, refl, sym, ap, subst, ◌∙◌, arith, length-append, append-nil}
use Rattle.std.specs.Prelude.{◌⊎◌}
use Rattle.std.proofs.KnownBytes.{Appends-nil, Appends-trans}
use Rattle.std.proofs.lemmas.List.{map-append}
use Rattle.std.proofs.lemmas.Option.{none-some, same_Some}
use Rattle.std.specs.Io.KnownBytes.{Appends}
use Rattle.ipld_block.specs.Digest.{digest_by}
use Rattle.ipld_cid.specs.Cid.{Link}
use Rattle.ipld_cid.specs.LinkOf.{link_of}
use Rattle.ipld_cid.specs.declared.cid.CidGeneric.{CidGeneric}
use Rattle.std.specs.declared.io.Error as io
use Rattle.unixfs.specs.Files.{Hashing, Collision, Child, Names, NamesAll, no_child, Range, everything, at_most, slice, past, Walks, starts, takes, skips, Untaken}
use Rattle.unixfs_files.specs.declared.state.FileRange.{FileRange}
use Rattle.unixfs_files.specs.declared.state.FileWalk.{FileWalk}
use Rattle.unixfs_files.specs.declared.state.WaitingPart.{WaitingPart}
use Rattle.unixfs_files.specs.declared.error.PartError.{PartError}
use Rattle.unixfs_files.specs.declared.store.FileErrorKind.TheVariants.{Part, Write}
use Rattle.unixfs_files.specs.Storing.{WritesFile, StopsAt}
use Rattle.unixfs_files.specs.Walking.{child_of, range_of, parts_left, remain_of, wanted_of, Skips, skips_none, skips_one, Takes, Counts, WalkFault}
use Rattle.unixfs_files.proofs.Walks.{fits}

-- how far a walk has come, whose bytes were written
pub record Progress (root : Link) (range : Range) (limit : ℕ) (old now : Option (List ℕ)) (walk : FileWalk) : Type 0 where
  pub taken : List ℕ
  pub walks : Walks digest_by root range taken (remain_of walk) (range_of walk.range)
  pub counted : walk.bytes_left + length taken ≡ limit
  pub appends : Appends old now taken

pub begins : (root : CidGeneric 64) (range : FileRange) (limit : ℕ) (old : Option (List ℕ)) (walk : FileWalk) → parts_left walk ≡ record { cid = root; size = None; level = 0 } ∷ [] → walk.range ≡ range → walk.bytes_left ≡ limit → Progress (link_of root) (range_of range) limit old old walk
begins root range limit old walk remain whole left = record { taken = []; walks = starts refl (ap (λ (ps : List WaitingPart). map child_of ps) remain) (ap (λ (r : FileRange). range_of r) whole); counted = omega (arith, left); appends = Appends-nil old }

-- parts that are skipped are steps of the walk
skipped : (root : Link) (range : Range) (taken : List ℕ) (parts left : List WaitingPart) (was rest : Range) → Walks digest_by root range taken (map child_of parts) was → Skips parts was left rest
    → Walks digest_by root range taken (map child_of left) rest
skipped root range taken parts left was rest walk (skips_none meets left_is rest_is) =
    subst (λ (ps : List WaitingPart). Walks digest_by root range taken (map child_of ps) rest) (sym left_is) (subst (λ (r : Range). Walks digest_by root range taken (map child_of parts) r) (sym rest_is) walk)
skipped root range taken parts left was rest walk (skips_one part others size are sized outside more) =
    skipped root range taken others left (past size was) rest
    (skips (child_of part) was size (subst (λ (ps : List WaitingPart). Walks digest_by root range taken (map child_of ps) was) are walk) sized outside refl) more

stepped : (root : Link) (range : Range) (before bytes : List ℕ) (old new : FileWalk) → Walks digest_by root range before (remain_of old) (range_of old.range) → Takes old new bytes
    → Walks digest_by root range (before ++ bytes) (remain_of new) (range_of new.range)
stepped root range before bytes old new walk t =
    let was = range_of old.range in
    skipped root range (before ++ bytes) (t.children ++ t.others) (parts_left new) (past (length t.head) was) (range_of new.range)
    (takes before (child_of t.next) (map child_of t.others) was t.head (map child_of t.children) t.size (subst (λ (ps : List WaitingPart). Walks digest_by root range before (map child_of ps) was) t.was walk) t.is_part
    (fits old t.next t.size (length t.children) t.fits).has_size (ap (λ (bs : List ℕ). before ++ bs) t.are_bytes) (map-append child_of t.children t.others) refl) t.becomes

pub goes_on : (root : Link) (range : Range) (limit : ℕ) (old now then : Option (List ℕ)) (walk next : FileWalk) (head : List ℕ) → Progress root range limit old now walk → Takes walk next head
    → Counts walk next head → Appends now then head → Progress root range limit old then next
goes_on root range limit old now then walk next head p t c a = record {
  taken = p.taken ++ head;
  walks = stepped root range p.taken head walk next p.walks t;
  counted = omega (arith, p.counted, c.bytes, length-append p.taken head);
  appends = Appends-trans old now then p.taken head p.appends a;
}

-- nothing remains, if nothing is wanted
none_left : (remain : List Child) → None ≡ wanted_of remain → remain ≡ []
none_left [] e = refl
none_left (child ∷ children) e = absurd (none-some child.link e)

abbrev pub WalkLaw : Type 0
WalkLaw = (hashing : Hashing) (root : Link) (taken rest : List ℕ) (remain : List Child) (left : Range) → Walks hashing root everything taken remain left → NamesAll hashing remain rest
    → Names hashing root (taken ++ rest)

abbrev pub RangeLaw : Type 0
RangeLaw = (hashing : Hashing) (root : Link) (range : Range) (content taken : List ℕ) (remain : List Child) (left : Range) → Names hashing root content → Walks hashing root range taken remain left
    → Untaken hashing range content taken remain left ⊎ Collision hashing

-- no bytes have no range
slice_none : (n : ℕ) (o : Option ℕ) → at_most o (drop n []) ≡ []
slice_none zero None = refl
slice_none (suc n) None = refl
slice_none zero (Some zero) = refl
slice_none zero (Some (suc m)) = refl
slice_none (suc n) (Some zero) = refl
slice_none (suc n) (Some (suc m)) = refl

none_named : (rest : List ℕ) → NamesAll digest_by [] rest → rest ≡ []
none_named rest (no_child e) = e

-- a walk to the end took the range
all_taken : (range left : Range) (content taken : List ℕ) → Untaken digest_by range content taken [] left ⊎ Collision digest_by → (taken ≡ slice range content) ⊎ Collision digest_by
all_taken range left content taken (inl u) = inl (sym (u.is ∙ ap (λ (x : List ℕ). taken ++ slice left x) (none_named u.rest u.named) ∙ ap (λ (x : List ℕ). taken ++ x) (slice_none left.start left.count) ∙ append-nil taken))
all_taken range left content taken (inr collision) = inr collision

pub ends : (root : Link) (range : Range) (limit : ℕ) (old now : Option (List ℕ)) (walk : FileWalk) → WalkLaw → RangeLaw → Progress root range limit old now walk → None ≡ wanted_of (remain_of walk)
    → WritesFile root range limit old now
ends root range limit old now walk law range_law p none =
    let left = range_of walk.range in
    let walks = subst (λ (cs : List Child). Walks digest_by root range p.taken cs left) (none_left (remain_of walk) none) p.walks in
    record {
      bytes = p.taken;
      left = left;
      walks = walks;
      named = λ all. subst (λ (bytes : List ℕ). Names digest_by root bytes) (append-nil p.taken)
          (law digest_by root p.taken [] [] left (subst (λ (r : Range). Walks digest_by root r p.taken [] left) all walks) (no_child refl));
      is_slice = λ content named. all_taken range left content p.taken (range_law digest_by root range content p.taken [] left named walks);
      within = omega (arith, p.counted);
      appends = p.appends;
    }

-- the part that is wanted
pub record Wants (remain : List Child) (link : Link) : Type 0 where
  pub size : Option ℕ
  pub others : List Child
  pub is : remain ≡ record { link = link; size = size } ∷ others

pub wants : (remain : List Child) (link : Link) → Some link ≡ wanted_of remain → Wants remain link
wants [] link e = absurd (none-some link (sym e))
wants (child ∷ children) link e = record { size = child.size; others = children; is = ap (λ (l : Link). record { link = l; size = child.size } ∷ children) (sym (same_Some link child.link e)) }

-- the block that is wanted isn't taken
pub refused : {E : Type 0} (root : Link) (range : Range) (limit : ℕ) (old now : Option (List ℕ)) (walk : FileWalk) (cid : CidGeneric 64) (block : List ℕ) (reason : PartError) → Progress root range limit old now walk
    → Some (link_of cid) ≡ wanted_of (remain_of walk) → WalkFault walk block reason → StopsAt {E = E} root range limit old now (record { cid = cid; kind = Part reason })
refused root range limit old now walk cid block reason p wanted fault =
    let w = wants (remain_of walk) (link_of cid) wanted in
    record {
      taken = p.taken;
      size = w.size;
      others = w.others;
      left = range_of walk.range;
      walks = subst (λ (cs : List Child). Walks digest_by root range p.taken cs (range_of walk.range)) w.is p.walks;
      within = omega (arith, p.counted);
      wrote = p.appends;
      reason = (walk, block, w.is, fault);
    }

-- the writer failed at the bytes of the block that was wanted
pub unwritten : {E : Type 0} (root : Link) (range : Range) (limit : ℕ) (old now new : Option (List ℕ)) (walk : FileWalk) (cid : CidGeneric 64) (error : io.Error) → Progress root range limit old now walk
    → Some (link_of cid) ≡ wanted_of (remain_of walk) → StopsAt {E = E} root range limit old new (record { cid = cid; kind = Write error })
unwritten root range limit old now new walk cid error p wanted =
    let w = wants (remain_of walk) (link_of cid) wanted in
    record {
      taken = p.taken;
      size = w.size;
      others = w.others;
      left = range_of walk.range;
      walks = subst (λ (cs : List Child). Walks digest_by root range p.taken cs (range_of walk.range)) w.is p.walks;
      within = omega (arith, p.counted);
      wrote = (now, p.appends);
      reason = tt;
    }
