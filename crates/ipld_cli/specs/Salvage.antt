-- What counts as a whole section of a damaged CAR.
use Rattle.std.specs.Prelude.{◌≡◌, ◌≢◌, ◌==◌, ◌||◌, ◌≤◌, ◌+◌, ◌-◌, ◌*◌, ◌^◌, ◌++◌, min, if◌then◌else◌, ℕ, Bool, true, List, length, drop, map, Option, Some, None}
use Rattle.ipld_cid.specs.Cid.{Link}
use Rattle.ipld_cid.specs.LinkOf.{link_of}
use Rattle.ipld_cid.specs.declared.cid.CidGeneric.{CidGeneric}
use Rattle.ipld_block.specs.Digest.{digest_by}
use Rattle.ipld_car.specs.Section.{Block, IsSection}
use Rattle.ipld_cli.specs.declared.salvage.Look.{Look}
use Rattle.ipld_cli.specs.declared.salvage.Look.TheVariants.{Fault, Whole}
use Rattle.ipld_cli.specs.declared.salvage.Run.{Run}
use Rattle.ipld_cli.specs.declared.salvage.Salvage.{Salvage}
use Rattle.ipld_cli.specs.declared.salvage.Verdict.{Verdict}
use Rattle.ipld_cli.specs.declared.salvage.Verdict.TheVariants.{Right, Unknown, Wrong}
use Rattle.ipld_cli.specs.declared.salvage.Window.{Window}

-- true if the hash function with this code is computed, and is not the identity
abbrev pub is_telling : ℕ → Bool
is_telling code = (code == 0x12) || ((code == 0x13) || (code == 0xb220))

-- true if a block with this CID counts, if it has the right digest: in step, when its section comes
-- right after a whole one or the header, or if its hash function tells where its section is
abbrev pub counts : Bool → Link → Bool
counts in_step link = in_step || is_telling link.code

-- True if this is what is known of a block: it is right only if it counts and has the digest of its
-- CID. It is unknown only if it counts, and its hash function is not computed. It is wrong only if it
-- does not count, or has another digest.
abbrev pub IsVerdict : Bool → Link → List ℕ → Verdict → Type 0
IsVerdict in_step link block Right = (counts in_step link ≡ true) × (digest_by link.code block ≡ Some link.digest)
IsVerdict in_step link block Unknown = (counts in_step link ≡ true) × (digest_by link.code block ≡ None)
IsVerdict in_step link block Wrong = counts in_step link ≡ true → digest_by link.code block ≢ Some link.digest

-- the CIDs of the blocks that were found, in their order
abbrev pub found_cids : Salvage → List Link
found_cids salvage = map (λ (entry : CidGeneric 64 × ℕ). link_of entry.0) salvage.offsets.entries

-- the offset in the file of the current place of a window, which is at most 2^64 - 1
abbrev pub offset_of : Window → ℕ
offset_of window = min (2 ^ 64 - 1) (window.begin + window.at)

-- True if the bytes that were digested in vain, and `more`, are at most 4 for each byte before the
-- current place and for each byte of the limit.
abbrev pub IsBounded : ℕ → Salvage → Type 0
IsBounded more salvage = salvage.in_vain + more ≤ 4 * (offset_of salvage.window + salvage.limit)

-- the number of bytes that were digested in vain for what was found
abbrev pub digested_in : Look → ℕ
digested_in (Fault fault digested) = digested
digested_in _ = 0

-- True if the current place, the limit and the number of bytes digested in vain stay.
abbrev pub KeepsPlace : Salvage → Salvage → Type 0
KeepsPlace old new = (new.window ≡ old.window) × (new.limit ≡ old.limit) × (new.in_vain ≡ old.in_vain)

-- True if the run, if there is one, begins at the offset.
abbrev pub BeginsAt : ℕ → Option Run → Type 0
BeginsAt at None = Unit {0}
BeginsAt at (Some run) = run.offset ≡ at

-- the bytes of a window from its current place on
abbrev pub rest_of : Window → List ℕ
rest_of window = drop window.at window.bytes.items

-- True if the bytes begin with the section of the block, which has `size` bytes, and at most `limit`
-- after its length.
pub record BeginsSection (limit : ℕ) (bytes : List ℕ) (block : Block) (size : ℕ) : Type 0 where
  pub section : List ℕ
  pub rest : List ℕ
  pub parts : bytes ≡ section ++ rest
  pub is_section : IsSection section block
  pub within : length (is_section.cid ++ block.bytes) ≤ limit
  pub counted : size ≡ length section

-- True if bytes look so, behind a whole section or the header (`in_step`) or not: if a whole section
-- is found, they begin with it, and its block is known to be right or, in step, unknown.
abbrev pub IsLook : Bool → ℕ → List ℕ → Look → Type 0
IsLook in_step limit bytes (Whole cid size is_known) = (block : List ℕ) × BeginsSection limit bytes (record { cid = link_of cid; bytes = block }) size × IsVerdict in_step (link_of cid) block (if is_known then Right else Unknown)
IsLook in_step limit bytes _ = Unit {0}
