-- The order in which the entries of a tape are written as a canonical block.
use Rattle.std.specs.Prelude.{◌≡◌, ◌⊎◌, ℕ, suc, List, [], ◌∷◌, ◌++◌, length, map, reverse, true, false, Some, None, Result, Ok, Err}
use Rattle.std.specs.Borrow.{Bor}
use Rattle.std.specs.List.Sorted.{IsPermutation}
use Rattle.dag_cbor_blocks.specs.Counting.{limit_passed}
use Rattle.dag_cbor_blocks.specs.Tape.{IsTapeOf, all_short}
use Rattle.dag_cbor_blocks.specs.Within.{StopsAt}
use Rattle.dag_cbor_blocks.specs.declared.tape.TapeEntry.{TapeEntry}
use Rattle.dag_cbor_blocks.specs.declared.tape.TapeError.{TapeError}
use Rattle.dag_cbor_blocks.specs.declared.tape.TapeError.TheVariants.{Block, TooLong}
use Rattle.ipld_tree.specs.declared.limits.Limits.{Limits}
use Rattle.dag_cbor_tape.specs.declared.entry.EntryKind.{EntryKind}
use Rattle.dag_cbor_tape.specs.declared.entry.EntryKind.TheVariants as kind
use Rattle.dag_cbor_tape.specs.declared.error.EncodeErrorKind.{EncodeErrorKind}
use Rattle.dag_cbor_tape.specs.Canonical.{AreInOrder, IsCanonicalOf}
use Rattle.dag_cbor_tape.specs.Entry.{kind_of, content_of, written_of}
use Rattle.dag_cbor_tape.specs.Memory.{IsMemory}
use Rattle.dag_cbor_tape.specs.Structure.{after_value}

-- ---- the result for a caller

-- True if the result is the canonical block of a block within the limits. For `TooLong`, true if
-- the block is within the limits, and a length in its tape has more than 32 bits. For `Block`, true
-- if reading the bytes stops with this error at this offset.
abbrev pub Canonicalizes : {A : Type 0} → Limits → List ℕ → (A → List ℕ) → Result A TapeError → Type 0
Canonicalizes limits block view (Ok x) = IsCanonicalOf block (view x) × (limit_passed true limits block ≡ None)
Canonicalizes limits block view (Err TooLong) = (es : List TapeEntry) × IsTapeOf es block × (all_short es ≡ false) × (limit_passed true limits block ≡ None)
Canonicalizes limits block view (Err (Block error)) = StopsAt true limits block error.kind error.offset

-- ---- the steps of the writer

-- a key, and the entries of its pair
abbrev pub Pair : Type 0
Pair = List ℕ × List TapeEntry

-- True if the entries of a map are those of these pairs, one after another.
abbrev pub Splits : List ℕ → List TapeEntry → List Pair → Type 0
Splits over es [] = es ≡ []
Splits over es (p ∷ ps) =
    (e : TapeEntry) × (value : List TapeEntry) × (rest : List TapeEntry) × (es ≡ e ∷ (value ++ rest)) × (content_of over e ≡ Some p.0)
    × (after_value (value ++ rest) ≡ Ok rest) × (p.1 ≡ e ∷ value) × Splits over rest ps

-- the keys and entries to which pairs refer
abbrev pub pairs_now : List (Bor (List ℕ) × Bor (List TapeEntry)) → List Pair
pairs_now ps = map (λ p. (p.0.now, p.1.now)) ps

-- the entries that are still to be written, the next first
abbrev pub to_do : List (Bor (List TapeEntry)) → List (List TapeEntry)
to_do ranges = reverse (map (λ r. r.now) ranges)

-- True if the pairs of a map, in length-first order of their keys, are to be written next, and then
-- the entries after the map.
pub record Enters (over : List ℕ) (e : TapeEntry) (es : List TapeEntry) (before after : List (List TapeEntry)) : Type 0 where
  pub inner : List TapeEntry
  pub behind : List TapeEntry
  pub parts : es ≡ inner ++ behind
  pub spans : e.len ≡ suc (length inner)
  pub pairs : List Pair
  pub ordered : List Pair
  pub splits : Splits over inner pairs
  pub same : IsPermutation pairs ordered
  pub in_order : AreInOrder (map (λ p. p.0) ordered)
  pub next : after ≡ map (λ p. p.1) ordered ++ (behind ∷ before)

-- True if the entries that a map spans are not those of pairs.
abbrev pub NoPairs : List ℕ → TapeEntry → List TapeEntry → Type 0
NoPairs over e es = (inner behind : List TapeEntry) (ps : List Pair) → es ≡ inner ++ behind → e.len ≡ suc (length inner) → Splits over inner ps → ⊥

-- True if `after` are the entries to be written after an entry of this kind: for a map its pairs in
-- order, and then the entries after it.
abbrev pub Goes : List ℕ → EntryKind → TapeEntry → List TapeEntry → List (List TapeEntry) → List (List TapeEntry) → Type 0
Goes over kind.Map e es before after = Enters over e es before after
Goes over k e es before after = after ≡ es ∷ before

-- True if an entry was written, and `after` are the entries to be written after it.
pub record Steps (over : List ℕ) (e : TapeEntry) (es : List TapeEntry) (out_before out_after : List ℕ) (before after : List (List TapeEntry)) : Type 0 where
  pub kind : EntryKind
  pub content : List ℕ
  pub kind_is : kind_of e.kind ≡ Some kind
  pub is_written : written_of over kind e ≡ Ok content
  pub appended : out_after ≡ out_before ++ content
  pub goes : Goes over kind e es before after

-- True if the error is that of a failed allocation or of writing the entry, or the kind of the
-- entry is unknown. Also true if the entry is that of a map, and the entries that it spans are not
-- those of pairs.
abbrev pub NoStep : List ℕ → TapeEntry → List TapeEntry → EncodeErrorKind → Type 0
NoStep over e es error =
    IsMemory error ⊎ ((kind_of e.kind ≡ None) ⊎ (((k : EntryKind) × (kind_of e.kind ≡ Some k) × (written_of over k e ≡ Err error))
    ⊎ ((kind_of e.kind ≡ Some kind.Map) × NoPairs over e es)))
