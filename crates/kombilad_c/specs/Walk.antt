-- The results of the exports about walks. `old` and `new` are what a handle holds before a call and
-- after it, if it holds anything.
use Rattle.std.specs.Prelude.{◌≡◌, ℕ, Option, Some, None, MatchOption}
use Rattle.ipld_cid.specs.Cid.{Link}
use Rattle.unixfs_files.specs.Walking as files
use Rattle.unixfs_folders.specs.Listing.{first_link}
use Rattle.unixfs_folders.specs.Walks as folders
use Rattle.kombilad_c.specs.declared.cid_record.CidBytes.{CidBytes}
use Rattle.kombilad_c.specs.declared.held.Held.{Held}
use Rattle.kombilad_c.specs.declared.held.Held.TheVariants.{File, Folder, Packing}
use Rattle.kombilad_c.specs.CidRecord.{record_of}

-- True if the CID of the block that a walk wants next, if it wants one, is written, and the status
-- is 0. Otherwise the status is 192, and nothing is written.
abbrev pub WantsNext : Option Link → (status : ℕ) → (before after : CidBytes) → Type 0
WantsNext wanted status before after = MatchOption wanted ((status ≡ 192) × (after ≡ before)) (λ link. (status ≡ 0) × (after ≡ record_of link))

-- True if this is the result for what a handle holds. If that is no walk, the status is 193, and
-- nothing is written.
abbrev pub WantsBlock : Option Held → (status : ℕ) → (before after : CidBytes) → Type 0
WantsBlock None status before after = (status ≡ 193) × (after ≡ before)
WantsBlock (Some (File walk)) status before after = WantsNext (files.wanted_of (files.remain_of walk)) status before after
WantsBlock (Some (Folder walk)) status before after = WantsNext (first_link (folders.remain_of walk)) status before after
WantsBlock (Some (Packing packing)) status before after = (status ≡ 193) × (after ≡ before)
