-- The errors of reading a text as canonical.
use Rattle.std.specs.Prelude.{◌≡◌, ◌≢◌, ◌⊎◌, ℕ, false, List, take, slice_get, Some, Err}
use Rattle.ipld_tree.specs.Tree.{Tree}
use Rattle.ipld_tree.specs.declared.limits.Limits.{Limits}
use Rattle.dag_json.specs.Encodes.{EncodesWithin}
use Rattle.dag_json.specs.Offset.{SaysWhere}
use Rattle.dag_json.specs.ReadContract.{ReadsBytes}
use Rattle.dag_json.specs.Written.{written}
use Rattle.dag_json.specs.declared.read_error.ReadError.{ReadError}
use Rattle.dag_json.specs.declared.read_error.ReadErrorKind.TheVariants.{NotCanonical}

-- True if `place` is the first index at which the lists differ: the elements there differ, or only
-- one of the lists ends there.
abbrev pub DifferFrom : List ℕ → List ℕ → ℕ → Type 0
DifferFrom a b place = (take place a ≡ take place b) × (slice_get a place ≢ slice_get b place)

-- True if the text that is written for the tree differs from `s`, first at this place.
abbrev pub IsWrittenOtherwise : Tree → List ℕ → ℕ → Type 0
IsWrittenOtherwise t s place = (u : List ℕ) × (written t ≡ Some u) × DifferFrom u s place

-- True if the error is one of two. Either reading the bytes as a tree within the limits fails with
-- it, at its offset, or because an allocation failed. Or the bytes encode such a tree, but the text
-- that is written for the tree differs, first at the error's offset.
abbrev pub CanonicalError : Limits → List ℕ → ReadError → Type 0
CanonicalError limits s e =
    (ReadsBytes false limits s (Err e) × SaysWhere false limits s e) ⊎ ((e.kind ≡ NotCanonical) × (t : Tree) × EncodesWithin limits t s × IsWrittenOtherwise t s e.offset)
