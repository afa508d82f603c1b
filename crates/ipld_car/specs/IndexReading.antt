-- The bytes that reading an index takes from a reader, and its results. If the bytes of a reader
-- are not known (for example, those of a file), `Consumes` is always true.
use Rattle.std.specs.Prelude.{◌≡◌, ◌≢◌, ◌<◌, ◌^◌, ℕ, List, [], ◌∷◌, ◌++◌, length, Option, Some, Result, IfErr, MatchResult}
use Rattle.std.specs.IoError.{error_kind}
use Rattle.std.specs.Io.KnownBytes.{Consumes}
use Rattle.std.specs.List.{All}
use Rattle.std.specs.declared.io.ErrorKind.{ErrorKind}
use Rattle.std.specs.declared.io.ErrorKind.TheVariants.{OutOfMemory, UnexpectedEof}
use Rattle.ipld_cid.specs.Varint.{IsVarint}
use Rattle.ipld_car.specs.Index.{row, rows, format_code}
use Rattle.ipld_car.specs.IndexLayout.{IsOf, IsIndex}
use Rattle.ipld_car.specs.IndexOrder.{AreSorted}
use Rattle.ipld_car.specs.Taking.{IsReadError}
use Rattle.ipld_car.specs.declared.index.entry.IndexEntry.{IndexEntry}
use Rattle.ipld_car.specs.declared.index.error.IndexError.{IndexError}
use Rattle.ipld_car.specs.declared.index.format.IndexFormat.{IndexFormat}
use Rattle.ipld_car.specs.declared.index.error.IndexError.TheVariants.{Memory, Read, UnexpectedEnd}

-- True if an error of a reader with this kind becomes this error. `OutOfMemory` becomes `Memory`,
-- `UnexpectedEof` becomes `UnexpectedEnd`, and any other kind is kept in `Read`.
abbrev pub IsErrorOfReader : ErrorKind → IndexError → Type 0
IsErrorOfReader kind Memory = kind ≡ OutOfMemory
IsErrorOfReader kind UnexpectedEnd = kind ≡ UnexpectedEof
IsErrorOfReader kind (Read same) = (error_kind same ≡ kind) × (kind ≢ OutOfMemory) × (kind ≢ UnexpectedEof)
IsErrorOfReader kind _ = ⊥

-- True if the entries are sorted, and their offsets are below 2^64.
abbrev pub AreInOrder : List IndexEntry → Type 0
AreInOrder entries = AreSorted entries × All (λ (e : IndexEntry). e.offset < 2 ^ 64) entries

-- The state of reading an index: the bytes left in the reader, if they are known, and the entries
-- so far.
pub record IndexState : Type 0 where
  pub left : Option (List ℕ)
  pub entries : List IndexEntry

-- the state of a reader with these entries, if `remaining` returns the bytes left in a reader
abbrev pub state : {R : Type 0} → (remaining : R → Option (List ℕ)) → R → List IndexEntry → IndexState
state remaining reader entries = record { left = remaining reader; entries = entries }

-- True if a row was taken and its entry appended. If the entries were in order, they still are.
pub record TakesRow (code digest_len : ℕ) (old new : IndexState) : Type 0 where
  pub entry : IndexEntry
  pub behind : new.entries ≡ old.entries ++ entry ∷ []
  pub own : IsOf code digest_len entry
  pub consumed : Consumes old.left new.left (row entry)
  pub in_order : AreInOrder old.entries → AreInOrder new.entries

-- True if `count` rows were taken and their entries appended. If the entries were in order, they
-- still are.
pub record TakesRows (code digest_len count : ℕ) (old new : IndexState) : Type 0 where
  pub entries : List IndexEntry
  pub behind : new.entries ≡ old.entries ++ entries
  pub counted : length entries ≡ count
  pub own : All (IsOf code digest_len) entries
  pub consumed : Consumes old.left new.left (rows entries)
  pub in_order : AreInOrder old.entries → AreInOrder new.entries

-- True if a part of an index was taken and its entries appended. If the entries were in order, they
-- still are.
pub record TakesPart (IsPart : List ℕ → List IndexEntry → Type 0) (old new : IndexState) : Type 0 where
  pub bytes : List ℕ
  pub entries : List IndexEntry
  pub is_part : IsPart bytes entries
  pub behind : new.entries ≡ old.entries ++ entries
  pub consumed : Consumes old.left new.left bytes
  pub in_order : AreInOrder old.entries → AreInOrder new.entries

-- True if an index of the entries in this format was taken, and the entries are sorted.
pub record TakesIndex (format : IndexFormat) (old new : Option (List ℕ)) (entries : List IndexEntry) : Type 0 where
  pub bytes : List ℕ
  pub is_index : IsIndex format bytes entries
  pub consumed : Consumes old new bytes
  pub sorted : AreSorted entries

-- True if the error is a failed allocation, or an error of the reader that fits `IsReadError`. The
-- bytes do not cause it.
abbrev pub IsOfReader : IndexError → Type 0
IsOfReader Memory = Unit {0}
IsOfReader (Read error) = IsReadError error
IsOfReader _ = ⊥

-- True if the bytes are a row, and the entries are its one entry, with this hash function and a
-- digest of this length.
abbrev pub IsRow : ℕ → ℕ → List ℕ → List IndexEntry → Type 0
IsRow code digest_len bytes entries = (entry : IndexEntry) × (bytes ≡ row entry) × (entries ≡ entry ∷ []) × IsOf code digest_len entry

-- True if the bytes are `count` rows of the entries, with this hash function and digests of this
-- length.
abbrev pub AreRows : ℕ → ℕ → ℕ → List ℕ → List IndexEntry → Type 0
AreRows code digest_len count bytes entries = (bytes ≡ rows entries) × (length entries ≡ count) × All (IsOf code digest_len) entries

-- True if reading a part at the front of known bytes fails only because an allocation or the reader
-- fails, provided that its entries are in order after those so far. On success it appends the
-- entries and leaves the bytes after the part.
pub record ReadsPart (IsPart : List ℕ → List IndexEntry → Type 0) (old new : IndexState) (result : Result (Unit {0}) IndexError) : Type 0 where
  pub reads : (bytes rest : List ℕ) (entries : List IndexEntry) → old.left ≡ Some (bytes ++ rest) → IsPart bytes entries
      → AreInOrder (old.entries ++ entries)
      → MatchResult result (λ _. (new.left ≡ Some rest) × (new.entries ≡ old.entries ++ entries)) IsOfReader

-- True if the varint of the code of a format was taken.
pub record TakesCode (old new : Option (List ℕ)) (code : ℕ) : Type 0 where
  pub bytes : List ℕ
  pub is_varint : IsVarint code bytes
  pub consumed : Consumes old new bytes

-- True if reading the code of a format from the front of known bytes fails only because an
-- allocation or the reader fails.
pub record ReadsFormat (old : Option (List ℕ)) (result : Result IndexFormat IndexError) : Type 0 where
  pub reads : (format : IndexFormat) (rest : List ℕ) → old ≡ Some (format_code format ++ rest) → IfErr result IsOfReader
