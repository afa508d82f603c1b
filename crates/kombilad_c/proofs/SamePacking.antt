-- Packed folders and symbolic links, by equal arguments, and by a version that is known.
use Rattle.std.proofs.Common.{◌≡◌, ℕ, List, Option, Some, subst}
use Rattle.std.specs.Prelude.{MatchOption}
use Rattle.ipld_cid.specs.declared.cid.Version.{Version}
use Rattle.unixfs_build.specs.declared.layout.Attributes.{Attributes}
use Rattle.unixfs_folders.specs.Folders.{EntryParts}
use Rattle.kombilad_c.specs.declared.held.Held.{Held}
use Rattle.kombilad_c.specs.Pack.{PacksFolder, PacksSymlink}

pub same_folder : (version : Version) (a b : Attributes) (above : ℕ) (es fs : List EntryParts) (status : ℕ) (old new : Option Held) (p q after : ℕ) → a ≡ b → es ≡ fs → p ≡ q
    → PacksFolder version a above es status old new (record { before = p; after = after })
    → PacksFolder version b above fs status old new (record { before = q; after = after })
same_folder version a b above es fs status old new p q after same_attributes same_entries same_place packs =
    subst (λ (x : Attributes). PacksFolder version x above fs status old new (record { before = q; after = after })) same_attributes
    (subst (λ (xs : List EntryParts). PacksFolder version a above xs status old new (record { before = q; after = after })) same_entries
    (subst (λ (n : ℕ). PacksFolder version a above es status old new (record { before = n; after = after })) same_place packs))

pub same_symlink : (version : Version) (a b : Attributes) (t u : List ℕ) (status : ℕ) (old new : Option Held) → a ≡ b → t ≡ u
    → PacksSymlink version a t status old new → PacksSymlink version b u status old new
same_symlink version a b t u status old new same_attributes same_target packs =
    subst (λ (x : Attributes). PacksSymlink version x u status old new) same_attributes
    (subst (λ (xs : List ℕ). PacksSymlink version a xs status old new) same_target packs)

pub known : (asked : Option Version) (If : Type 0) (Of : Version → Type 0) (version : Version) → Some version ≡ asked → Of version → MatchOption asked If Of
known asked If Of version is it = subst (λ (v : Option Version). MatchOption v If Of) is it
