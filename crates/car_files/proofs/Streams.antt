-- What a call read and wrote, by its parts.
use Rattle.std.proofs.Common.{ℕ, List, Option}
use Rattle.ipld_car.specs.declared.reader.CarReader.{CarReader}
use Rattle.car_files.specs.Streams.{Progress, Output, Complaints}
use Rattle.car_files.specs.declared.list.Listed.{Listed}
use Rattle.car_files.specs.declared.missing.Seen.{Seen}
use Rattle.car_files.specs.declared.verify.Verified.{Verified}

abbrev pub read_from : {R : Type 0} → Option (List ℕ) → Option (List ℕ) → CarReader R → CarReader R → Progress R
read_from before after old new = record { old = old; new = new; before = before; after = after }

abbrev pub output_to : Option (List ℕ) → Option (List ℕ) → Output
output_to held holds = record { before = held; after = holds }

abbrev pub lines_to : List ℕ → Option (List ℕ) → Option (List ℕ) → Complaints
lines_to label erred errs = record { label = label; before = erred; after = errs }

abbrev pub seen_of : ℕ → ℕ → ℕ → Seen
seen_of blocks unknown invalid = record { blocks = blocks; unknown = unknown; invalid = invalid }

abbrev pub listed_of : ℕ → ℕ → Listed
listed_of blocks invalid = record { blocks = blocks; invalid = invalid }

abbrev pub verified_of : ℕ → ℕ → ℕ → Verified
verified_of right wrong unknown = record { right = right; wrong = wrong; unknown = unknown }
