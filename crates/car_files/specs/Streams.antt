-- The bytes that a call reads from a CAR and writes, in the form that clauses use.
use Rattle.std.specs.Prelude.{ℕ, List, Option}
use Rattle.ipld_car.specs.declared.reader.CarReader.{CarReader}

-- The progress in a CAR: its reader before and after a call, and the bytes that are left to the
-- reader before and after, if these are known.
pub record Progress (R : Type 0) : Type 0 where
  pub old : CarReader R
  pub new : CarReader R
  pub before : Option (List ℕ)
  pub after : Option (List ℕ)

-- The progress in a CAR from one state of its reader to another. `remaining` returns the bytes that
-- are left.
abbrev pub progress : {R : Type 0} → (remaining : R → Option (List ℕ)) → (old new : CarReader R) → Progress R
progress remaining old new =
    record { old = old; new = new; before = remaining old.reader; after = remaining new.reader }

-- The bytes that a writer holds before and after a call, if they are known.
pub record Output : Type 0 where
  pub before : Option (List ℕ)
  pub after : Option (List ℕ)

-- The bytes that a writer holds before and after a call. `contents` returns the bytes it holds.
abbrev pub output : {W : Type 0} → (contents : W → Option (List ℕ)) → (old new : W) → Output
output contents old new = record { before = contents old; after = contents new }

-- The writer of the lines about faults: the label at the front of the lines, and the bytes that the
-- writer holds before and after a call, if they are known.
pub record Complaints : Type 0 where
  pub label : List ℕ
  pub before : Option (List ℕ)
  pub after : Option (List ℕ)

-- The label and the bytes of the writer of the lines about faults. `contents` returns the bytes it
-- holds.
abbrev pub complaints : {E : Type 0} → (label : List ℕ) → (contents : E → Option (List ℕ)) → (old new : E) → Complaints
complaints label contents old new = record { label = label; before = contents old; after = contents new }
