-- Zeros that are allowed after the last section.
use Rattle.std.proofs.Common.{◌≡◌, ℕ, ◌+◌, ◌<◌, Bool, true, false, List, [], ◌∷◌, ◌++◌, length, Option, Some, None, inl, refl, sym, ap, ◌∙◌, arith, append_assoc}
use Rattle.std.proofs.lemmas.Bool.{eqb-true}
use Rattle.std.specs.Io.KnownBytes.{Keeps}
use Rattle.ipld_cid.specs.declared.error.CidError.TheVariants.{End}
use Rattle.ipld_cid.specs.Varint.{IsVarint, read_varint}
use Rattle.ipld_car.specs.declared.error.CarError.{CarError}
use Rattle.ipld_car.specs.declared.error.CarErrorKind.{CarErrorKind}
use Rattle.ipld_car.specs.declared.error.CarErrorKind.TheVariants.{Memory, Read}
use Rattle.ipld_car.specs.Fails.{Fails}
use Rattle.ipld_car.specs.Padding.{begins_with_zero, IsNextZero}
use Rattle.ipld_car.specs.Reading.{SectionFault}
use Rattle.ipld_car.specs.Section.{Block, IsSection}
use Rattle.ipld_car.specs.Taking.{IsReaderError}
use Rattle.ipld_car.proofs.OnlyFramed.{number_in, varint_read}
use Rattle.ipld_car.proofs.OnlySections.{some_of}
use Rattle.ipld_car.proofs.Payloads.{nothing}
use Rattle.ipld_car.proofs.SectionReading.{not_true}

-- known bytes are kept
pub known_kept : (old new : Option (List ℕ)) (bytes : List ℕ) → Keeps old new → old ≡ Some bytes → new ≡ Some bytes
known_kept None new bytes k e = absurd (let no = e in cc)
known_kept (Some xs) None bytes k e = absurd k
known_kept (Some xs) (Some ys) bytes k e = ap Some k ∙ e

starts_with_zero : (bytes : List ℕ) → begins_with_zero bytes ≡ true → (rest : List ℕ) × (bytes ≡ 0 ∷ rest)
starts_with_zero [] e = absurd (not_true e)
starts_with_zero (byte ∷ rest) e = (rest, ap (λ b. b ∷ rest) (eqb-true byte 0 e))

zero_read : (rest : List ℕ) → number_in (read_varint (0 ∷ rest)) ≡ 0
unfolding read_varint
zero_read rest = refl

-- the varint that begins with 0 is that of 0
zero_length : (n : ℕ) (size rest bytes : List ℕ) → IsVarint n size → bytes ≡ size ++ rest → begins_with_zero bytes ≡ true → n ≡ 0
zero_length n size rest bytes v e z =
    let s = starts_with_zero bytes z in ap number_in (sym (varint_read n size rest bytes v e)) ∙ ap (λ xs. number_in (read_varint xs)) s.1 ∙ zero_read s.0

-- no section begins with 0
section_not_zero : (bytes rest : List ℕ) (block : Block) → IsSection bytes block → begins_with_zero (bytes ++ rest) ≡ true → ⊥
section_not_zero bytes rest block is z =
    let content = is.cid ++ block.bytes in
    let whole : bytes ++ rest ≡ is.size ++ (content ++ rest) =
    ap (λ xs. xs ++ rest) (is.encoded ∙ append_assoc is.size is.cid block.bytes) ∙ append_assoc is.size content rest in
    let none = zero_length (length content) is.size (content ++ rest) (bytes ++ rest) is.size_encoded whole z in
    let some = some_of content block (record { front = is.cid; encoded = is.cid_encoded; parts = refl }) in omega arith

-- so a section isn't taken for zeros
pub no_section : {A : Type 0} (old : Option (List ℕ)) (bytes rest : List ℕ) (block : Block) (is_zero : Bool) → IsNextZero old is_zero → is_zero ≡ true → old ≡ Some (bytes ++ rest)
    → IsSection bytes block → A
no_section None bytes rest block is_zero z is_yes e is = absurd (let no = e in cc)
no_section (Some xs) bytes rest block is_zero z is_yes e is =
    let same : xs ≡ bytes ++ rest = cc in absurd (section_not_zero bytes rest block is (ap begins_with_zero (sym same) ∙ sym z ∙ is_yes))

-- the reader failed before a byte was taken
pub look_fails : (limit room begin : ℕ) (old new : Option (List ℕ)) (taken : List ℕ) (kind : CarErrorKind) (error : CarError) → IsReaderError kind → taken ≡ []
    → 0 < room → error ≡ record { kind = kind; section = begin; offset = begin + 0 } → Fails begin (SectionFault limit room old new taken) error
look_fails limit room begin old new taken Memory error fault none some made =
    rw (made, none) (record { place = 0; section = refl; offset = refl; why = ((inl nothing, some), refl) })
look_fails limit room begin old new taken (Read e) error fault none some made =
    rw (made, none) (record { place = 0; section = refl; offset = refl; why = ((inl nothing, fault, some), refl) })
look_fails limit room begin old new taken _ error fault none some made = absurd fault
