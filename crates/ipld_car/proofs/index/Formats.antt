-- The code of an index's format: the loop that reads its varint, and what the bytes of another one say.
use Rattle.std.proofs.Common.{◌≡◌, ◌≢◌, ◌≤◌, ◌<◌, ◌+◌, ◌*◌, ◌%◌, ◌^◌, ℕ, List, [], ◌∷◌, ◌++◌, length, slice_index_or, Option, Some, None, Ok, Err, inl, inr, refl, sym, ap, ◌∙◌, subst, append-nil, arith}
use Rattle.std.specs.Io.KnownBytes.{Consumes}
use Rattle.ipld_cid.specs.declared.error.CidError.{CidError}
use Rattle.ipld_cid.specs.declared.error.CidError.TheVariants.{End, NotShortest as VarintNotShortest, VarintTooLarge}
use Rattle.ipld_cid.specs.Varint.{varint_of, read_varint, error_at}
use Rattle.ipld_cid.proofs.Varints.{varint_alone, read_varint-varint_of, varint_cut}
use Rattle.ipld_car.specs.declared.error.CarErrorKind.{CarErrorKind}
use Rattle.ipld_car.specs.declared.error.CarErrorKind.TheVariants.{LengthNotShortest, LengthTooLarge}
use Rattle.ipld_car.specs.declared.index.error.IndexError.{IndexError}
use Rattle.ipld_car.specs.declared.index.error.IndexError.TheVariants.{Memory, Read, FormatNotShortest, FormatTooLarge, Format}
use Rattle.ipld_car.specs.Index.{format_code, format_number}
use Rattle.ipld_car.specs.declared.index.format.IndexFormat.{IndexFormat}
use Rattle.ipld_car.specs.declared.index.format.IndexFormat.TheVariants.{IndexSorted, MultihashIndexSorted}
use Rattle.ipld_car.specs.IndexErrors.{Blames, EndsWithin, WrongFormat, format_ends, format_not_shortest, format_too_large, other_format}
use Rattle.ipld_car.specs.IndexReading.{IsOfReader, ReadsFormat, TakesCode}
use Rattle.ipld_car.specs.Lengths.{BeginsVarint, kind_of}
use Rattle.ipld_car.specs.Taking.{TakesByte}
use Rattle.ipld_car.proofs.LengthReading.{ReadsGroups, groups_none, begins, no_varint, no_kind, same_kind, error_is, length_done, length_more, groups_more}
use Rattle.ipld_car.proofs.LengthsInMemory.{length_nil}
use Rattle.ipld_car.proofs.OnlyFramed.{not_both, number_in, varint_read}
use Rattle.ipld_car.proofs.index.Blaming.{blames_here, blames_end}

-- ---- the loop

pub one_byte : (bytes : List ℕ) → length bytes ≡ 1 → bytes ≡ slice_index_or bytes 0 0 ∷ []
one_byte [] long = absurd (omega arith)
one_byte (a ∷ []) long = refl
one_byte (a ∷ b ∷ rest) long = absurd (omega arith)

-- so many groups of the code were read, of bytes that were taken
pub record ReadsCode (old new : Option (List ℕ)) (code place : ℕ) : Type 0 where
  pub taken : List ℕ
  pub groups : ReadsGroups old new taken code place 10

pub code_begins : (old : Option (List ℕ)) → ReadsCode old old 0 0
code_begins old = record {
  taken = [];
  groups = groups_none old 10;
}

module _ (old mid new : Option (List ℕ)) (code place byte : ℕ) (g : ReadsCode old mid code place) (p : Consumes mid new (byte ∷ [])) (small : byte < 256) where
  -- the byte was taken
  byte_taken : TakesByte 10 mid new g.taken (g.taken ++ byte ∷ []) (Ok (Some byte))
  byte_taken = (refl, p, small, λ full. let l = g.groups.placed in let f = g.groups.few in omega arith)

  all_taken : Consumes old new (g.taken ++ byte ∷ [])
  all_taken = length_more old mid new g.taken (g.taken ++ byte ∷ []) code place 10 byte g.groups byte_taken

  -- a byte with others after it
  pub code_more : error_at place byte ≡ None → 128 ≤ byte → ReadsCode old new (code + byte % 128 * 2 ^ (7 * place)) (place + 1)
  code_more sound high = record {
    taken = g.taken ++ byte ∷ [];
    groups = groups_more old mid new g.taken (g.taken ++ byte ∷ []) code place 10 byte g.groups byte_taken sound high;
  }

  -- the last byte
  pub code_done : error_at place byte ≡ None → byte < 128 → TakesCode old new (code + byte % 128 * 2 ^ (7 * place))
  code_done sound low = record {
    bytes = g.taken ++ byte ∷ [];
    is_varint = (length_done old mid new g.taken (g.taken ++ byte ∷ []) code place 10 byte g.groups byte_taken sound low).0;
    consumed = all_taken;
  }

  -- the byte makes the number too large
  pub code_too_large : kind_of (error_at place byte) ≡ Some LengthTooLarge → Blames WrongFormat old FormatTooLarge
  code_too_large e = elim (error_is place byte) [
    | inl (inl none) ↦ absurd (no_kind LengthTooLarge (sym (ap kind_of none) ∙ e))
    | inl (inr large) ↦ blames_here WrongFormat old new (g.taken ++ byte ∷ []) FormatTooLarge tt all_taken
        (λ rest. format_too_large (g.taken ++ byte ∷ []) rest (no_varint old mid g.taken code place 10 byte VarintTooLarge g.groups large))
    | inr short ↦ absurd (let same = same_kind LengthNotShortest LengthTooLarge (sym (ap kind_of short) ∙ e) in cc)
  ]

  -- a last byte of zero
  pub code_not_shortest : (kind : CarErrorKind) → kind_of (error_at place byte) ≡ Some kind → kind ≢ LengthTooLarge → Blames WrongFormat old FormatNotShortest
  code_not_shortest kind e other = elim (error_is place byte) [
    | inl (inl none) ↦ absurd (no_kind kind (sym (ap kind_of none) ∙ e))
    | inl (inr large) ↦ absurd (other (sym (same_kind LengthTooLarge kind (sym (ap kind_of large) ∙ e))))
    | inr short ↦ blames_here WrongFormat old new (g.taken ++ byte ∷ []) FormatNotShortest tt all_taken
        (λ rest. format_not_shortest (g.taken ++ byte ∷ []) rest (no_varint old mid g.taken code place 10 byte VarintNotShortest g.groups short))
  ]

-- there is no byte more
pub code_ends : (old mid : Option (List ℕ)) (code place : ℕ) (error : IndexError) → ReadsCode old mid code place → EndsWithin 1 mid error → Blames WrongFormat old error
code_ends old mid code place error g ends =
    blames_end WrongFormat 1 old mid g.taken error g.groups.consumed
    (λ rest few. format_ends (g.taken ++ rest)
    (let none : rest ≡ [] = length_nil rest (omega arith) in
    subst BeginsVarint (sym (ap (λ l. g.taken ++ l) none ∙ append-nil g.taken)) (begins old mid g.taken code place 10 g.groups))) ends

-- ---- the code

format_is : (format : IndexFormat) → varint_of (format_number format) ≡ format_code format
unfolding varint_of format_code
format_is IndexSorted = refl
format_is MultihashIndexSorted = refl

format_small : (format : IndexFormat) → format_number format < 2 ^ 64
format_small IndexSorted = omega arith
format_small MultihashIndexSorted = omega arith

-- the code of a format was taken
pub format_taken : (format : IndexFormat) (old new : Option (List ℕ)) (code : ℕ) → TakesCode old new code → code ≡ format_number format → Consumes old new (format_code format)
format_taken format old new code t is = subst (Consumes old new) (varint_alone code t.bytes t.is_varint ∙ ap varint_of is ∙ format_is format) t.consumed

no_format : (code : ℕ) → code ≢ 0x0400 → code ≢ 0x0401 → (format : IndexFormat) → code ≢ format_number format
no_format code p q IndexSorted = p
no_format code p q MultihashIndexSorted = q

-- the code of no format was taken
pub format_other : (old new : Option (List ℕ)) (code : ℕ) → TakesCode old new code → code ≢ 0x0400 → code ≢ 0x0401 → Blames WrongFormat old (Format code)
format_other old new code t p q = blames_here WrongFormat old new t.bytes (Format code) tt t.consumed (λ rest. other_format code t.bytes rest t.is_varint (no_format code p q))

-- bytes that begin with the code of a format are read as that
format_known : (format : IndexFormat) (rest bytes : List ℕ) → bytes ≡ format_code format ++ rest → read_varint bytes ≡ Ok (format_number format, rest)
format_known format rest bytes e = ap read_varint (e ∙ ap (λ l. l ++ rest) (sym (format_is format))) ∙ read_varint-varint_of (format_number format) rest (format_small format)

no_fault : (format : IndexFormat) (front tail rest : List ℕ) (error : CidError) → front ++ tail ≡ format_code format ++ rest → read_varint front ≡ Err error → error ≢ End → ⊥
no_fault format front tail rest error e fault other =
    elim (varint_cut (format_number format) front tail rest (format_small format) (e ∙ ap (λ l. l ++ rest) (sym (format_is format)))) [
      | inl w ↦ not_both (format_number format) w.0 error (read_varint front) (ap read_varint w.1 ∙ read_varint-varint_of (format_number format) w.0 (format_small format)) fault
      | inr end ↦ other (let same = sym fault ∙ end in cc)
    ]

right_format : (format : IndexFormat) (bytes rest : List ℕ) (error : IndexError) → WrongFormat bytes error → bytes ≡ format_code format ++ rest → ⊥
right_format format bytes rest error (format_ends all cut) e = not_both (format_number format) rest End (read_varint all) (format_known format rest all e) cut
right_format format bytes rest error (format_not_shortest front tail fault) e = no_fault format front tail rest VarintNotShortest e fault.error_is (λ same. cc)
right_format format bytes rest error (format_too_large front tail fault) e = no_fault format front tail rest VarintTooLarge e fault.error_is (λ same. cc)
right_format format bytes rest error (other_format code front tail is other) e =
    other format (ap number_in (sym (varint_read code front tail (front ++ tail) is refl) ∙ format_known format rest (front ++ tail) e))

wrong_known : (format : IndexFormat) (bytes rest : List ℕ) (old : Option (List ℕ)) (error : IndexError) → old ≡ Some (format_code format ++ rest) → Blames WrongFormat old error → IsOfReader error
wrong_known format bytes rest old Memory known b = tt
wrong_known format bytes rest old (Read failure) known b = b
wrong_known format bytes rest None error known b = absurd cc
wrong_known format bytes rest (Some xs) error known b = absurd (right_format format xs rest error b cc)

pub format_only : (old : Option (List ℕ)) (error : IndexError) → Blames WrongFormat old error → ReadsFormat old (Err error)
format_only old error b = record { reads = λ format rest known. wrong_known format [] rest old error known b }
