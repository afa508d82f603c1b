-- The steps of a walk over a file, and the reasons why a block is not taken.
use Rattle.std.specs.Prelude.{◌≡◌, ◌+◌, ◌++◌, ◌==◌, ◌-◌, not, ℕ, suc, Bool, nat_lt, if◌then◌else◌, List, [], ◌∷◌, length, map, reverse, option_to_list, min, Option, Some, None, Ok}
use Rattle.std.specs.List.{All}
use Rattle.ipld_cid.specs.Cid.{Link}
use Rattle.ipld_cid.specs.LinkOf.{link_of}
use Rattle.ipld_block.specs.Digest.{digest_by}
use Rattle.unixfs.specs.Files.{Child, Range, slice, past, IsOutside, IsBlockOf, IsPart}
use Rattle.unixfs_files.specs.declared.error.PartError.{PartError}
use Rattle.unixfs_files.specs.declared.error.PartError.TheVariants.{PartSize, TooLarge, TooManyBlocks, TooDeep, TooManyParts, Finished}
use Rattle.unixfs_files.specs.declared.state.FileRange.{FileRange}
use Rattle.unixfs_files.specs.declared.state.FileWalk.{FileWalk}
use Rattle.unixfs_files.specs.declared.state.WaitingPart.{WaitingPart}
use Rattle.unixfs_files.specs.Parts.{Part, agrees, read_part, PartFault}

-- the model of a range
abbrev pub range_of : FileRange → Range
range_of r = record { start = r.start; count = r.length }

-- this number, or the other one if that is there and less
abbrev pub at_most_number : Option ℕ → ℕ → ℕ
at_most_number None n = n
at_most_number (Some count) n = min n count

-- how many of the first n bytes are in the range
abbrev pub count_in : Range → ℕ → ℕ
count_in range n = at_most_number range.count (n - range.start)

-- the part of a file that waits to be read
abbrev pub child_of : WaitingPart → Child
child_of p = record { link = link_of p.cid; size = p.size }

-- the parts that wait in a walk, in the order of the file
abbrev pub parts_left : FileWalk → List WaitingPart
parts_left walk = option_to_list walk.next ++ reverse walk.waiting.items

-- the parts of the file that a walk has yet to read, in the order of the file
abbrev pub remain_of : FileWalk → List Child
remain_of walk = map child_of (parts_left walk)

-- the CID of the first part that remains, if one does
abbrev pub wanted_of : List Child → Option Link
wanted_of [] = None
wanted_of (child ∷ children) = Some child.link

-- True if what a walk may still take has changed by one block with these bytes.
pub record Counts (old new : FileWalk) (taken : List ℕ) : Type 0 where
  pub limits : new.limits ≡ old.limits
  pub bytes : old.bytes_left ≡ length taken + new.bytes_left
  pub blocks : old.blocks_left ≡ suc new.blocks_left

-- True if a walk is as it was.
pub record Stays (old new : FileWalk) : Type 0 where
  pub limits : new.limits ≡ old.limits
  pub bytes : new.bytes_left ≡ old.bytes_left
  pub blocks : new.blocks_left ≡ old.blocks_left
  pub parts : parts_left new ≡ parts_left old
  pub range : new.range ≡ old.range

-- the first size or limit that a part of this size with this many children breaks, if it breaks one
unfoldable pub excess : FileWalk → WaitingPart → (size count : ℕ) → Option PartError
excess walk next size count =
    if not (agrees next.size size) then Some PartSize
    else if walk.blocks_left == 0 then Some TooManyBlocks
    else if nat_lt walk.bytes_left (count_in (range_of walk.range) size) then Some TooLarge
    else if count == 0 then None
    else if nat_lt next.level walk.limits.levels then
    (if nat_lt (walk.limits.waiting - length walk.waiting.items) count then Some TooManyParts else None)
    else Some TooDeep

-- True if there are this many levels above each of these parts.
abbrev pub HaveLevel : ℕ → List WaitingPart → Type 0
HaveLevel level parts = All (λ (p : WaitingPart). p.level ≡ level) parts

-- True if none of these parts is there, or the first has bytes in the range.
abbrev pub Meets : List WaitingPart → Range → Type 0
Meets [] range = Unit {0}
Meets (p ∷ ps) range = (size : ℕ) → p.size ≡ Some size → IsOutside size range → ⊥

-- True if these parts and this range are left, after the parts in front that are outside of the
-- range were skipped, and no others.
pub data Skips : List WaitingPart → Range → List WaitingPart → Range → Type 0 where
  skips_none : {parts left : List WaitingPart} {range rest : Range} → Meets parts range → left ≡ parts → rest ≡ range → Skips parts range left rest
  skips_one : {parts left : List WaitingPart} {range rest : Range} (part : WaitingPart) (others : List WaitingPart) (size : ℕ)
      → parts ≡ part ∷ others → part.size ≡ Some size → IsOutside size range → Skips others (past size range) left rest → Skips parts range left rest

-- True if a walk took this part of the file, which breaks no size and no limit: those of its own
-- bytes that are in the range, and its children before the others, one level below it. Parts that
-- are then in front and outside of the range were skipped.
pub record Takes (old new : FileWalk) (bytes : List ℕ) : Type 0 where
  pub next : WaitingPart
  pub others : List WaitingPart
  pub head : List ℕ
  pub children : List WaitingPart
  pub size : ℕ
  pub was : parts_left old ≡ next ∷ others
  pub is_part : IsPart digest_by (link_of next.cid) head (map child_of children) size
  pub fits : excess old next size (length children) ≡ None
  pub levels : HaveLevel (suc next.level) children
  pub are_bytes : bytes ≡ slice (range_of old.range) head
  pub becomes : Skips (children ++ others) (past (length head) (range_of old.range)) (parts_left new) (range_of new.range)

-- True if a walk does not take a block for this reason.
pub data WalkFault (walk : FileWalk) (block : List ℕ) (error : PartError) : Type 0 where
  at_end : remain_of walk ≡ [] → error ≡ Finished → WalkFault walk block error
  at_part : (next : WaitingPart) (others : List WaitingPart) → parts_left walk ≡ next ∷ others → PartFault (link_of next.cid) block error → WalkFault walk block error
  at_limit : (next : WaitingPart) (others : List WaitingPart) (part : Part) → parts_left walk ≡ next ∷ others → IsBlockOf digest_by (link_of next.cid) block
      → read_part (link_of next.cid).codec block ≡ Ok part → excess walk next part.size (length part.children) ≡ Some error → WalkFault walk block error
