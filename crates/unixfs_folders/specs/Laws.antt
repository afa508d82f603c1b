-- What the laws of folders say.
use Rattle.std.specs.Prelude.{◌≢◌, ◌+◌, ◌*◌, ◌^◌, ℕ, List, [], ◌∷◌, length}
use Rattle.unixfs_folders.specs.Folders.{EntryParts, SlotParts, Lacks}

-- True if no two entries have the same name.
abbrev pub AllDiffer : List EntryParts → Type 0
AllDiffer [] = Unit {0}
AllDiffer (e ∷ es) = Lacks es e.name × AllDiffer es

-- the number that these bytes are, high byte first
abbrev pub number_of : List ℕ → ℕ
number_of [] = 0
number_of (b ∷ bs) = b * 256 ^ length bs + number_of bs

-- the number with the bits of these slots
abbrev pub bits_of : List SlotParts → ℕ
bits_of [] = 0
bits_of (s ∷ ss) = 2 ^ s.slot + bits_of ss

-- True if the bytes have no zeros at their front.
abbrev pub HasNoZeros : List ℕ → Type 0
HasNoZeros [] = Unit {0}
HasNoZeros (b ∷ bs) = b ≢ 0
