-- The length at the front of bytes in memory, by the loop that reads one.
use Rattle.std.proofs.Common.{◌≡◌, ◌≢◌, ℕ, zero, suc, ◌+◌, ◌<◌, ◌≤◌, List, [], ◌∷◌, ◌++◌, length, take, drop, get_or, Option, Some, None, Ok, Err, inl, refl, sym, ap, subst, ◌∙◌, arith, add-one}
use Rattle.std.specs.Prelude.{◌==◌, false}
use Rattle.ipld_cid.specs.declared.error.CidError.{CidError}
use Rattle.ipld_cid.specs.declared.error.CidError.TheVariants.{VarintTooLarge}
use Rattle.ipld_car.specs.declared.error.CarErrorKind.{CarErrorKind}
use Rattle.ipld_car.specs.declared.error.CarErrorKind.TheVariants.{UnexpectedEnd, LengthNotShortest, LengthTooLarge}
use Rattle.ipld_car.specs.Lengths.{ReadsLength, kind_of}
use Rattle.ipld_car.specs.Taking.{IsOfReader, TakesByte}
use Rattle.ipld_car.proofs.LengthReading.{ReadsGroups, length_cut, no_kind, same_kind}

-- the byte at a place, taken
take_more : (bytes : List ℕ) (place : ℕ) → place < length bytes → take (suc place) bytes ≡ take place bytes ++ get_or bytes place 0 ∷ []
take_more [] place few = absurd (omega arith)
take_more (b ∷ bytes) zero few = refl
take_more (b ∷ bytes) (suc place) few = ap (λ (xs : List ℕ). b ∷ xs) (take_more bytes place (omega arith))

drop_more : (bytes : List ℕ) (place : ℕ) → place < length bytes → drop place bytes ≡ get_or bytes place 0 ∷ drop (suc place) bytes
drop_more [] place few = absurd (omega arith)
drop_more (b ∷ bytes) zero few = refl
drop_more (b ∷ bytes) (suc place) few = drop_more bytes place (omega arith)

pub take_len : (bytes : List ℕ) (place : ℕ) → place ≤ length bytes → length (take place bytes) ≡ place
take_len [] zero few = refl
take_len [] (suc place) few = absurd (omega arith)
take_len (b ∷ bytes) zero few = refl
take_len (b ∷ bytes) (suc place) few = ap suc (take_len bytes place (omega arith))

pub byte_at : (bytes : List ℕ) (place : ℕ) → place < length bytes → get_or bytes place 0 < 256
    → TakesByte (length bytes) (Some (drop place bytes)) (Some (drop (place + 1) bytes)) (take place bytes) (take (place + 1) bytes) (Ok (Some (get_or bytes place 0)))
byte_at bytes place few whole =
    rw (add-one place) (take_more bytes place few, drop_more bytes place few, whole, (λ full. let l = take_len bytes place (omega arith) in omega arith))

pub drop_all : (bytes : List ℕ) → drop (length bytes) bytes ≡ []
drop_all [] = refl
drop_all (b ∷ bytes) = drop_all bytes

pub take_all : (bytes : List ℕ) → take (length bytes) bytes ≡ bytes
take_all [] = refl
take_all (b ∷ bytes) = ap (λ (xs : List ℕ). b ∷ xs) (take_all bytes)

-- the bytes are at their end
none_at : (bytes : List ℕ) (place : ℕ) → length bytes ≤ place → place ≤ length bytes
    → TakesByte (length bytes) (Some (drop place bytes)) (Some (drop place bytes)) (take place bytes) (take place bytes) (Ok None)
none_at bytes place many few = (refl, refl, inl (let l = take_len bytes place few in omega arith))

pub length_none_in : (bytes : List ℕ) (value place : ℕ) → ReadsGroups (Some bytes) (Some (drop place bytes)) (take place bytes) value place (length bytes)
    → length bytes ≤ place → bytes ≡ [] → ReadsLength (length bytes) (Some bytes) (Some (drop 0 bytes)) (take 0 bytes) (Ok None)
length_none_in bytes value place g many none = (refl, inl (sym (ap length none)))

pub length_nil : (bytes : List ℕ) → length bytes ≡ 0 → bytes ≡ []
length_nil [] e = refl
length_nil (b ∷ bytes) e = absurd (omega arith)

pub length_cut_in : (bytes : List ℕ) (value place : ℕ) → ReadsGroups (Some bytes) (Some (drop place bytes)) (take place bytes) value place (length bytes)
    → length bytes ≤ place → bytes ≢ []
    → ReadsLength (length bytes) (Some bytes) (Some (drop (length bytes) bytes)) (take (length bytes) bytes) (Err UnexpectedEnd)
length_cut_in bytes value place g many some =
    let few = g.within in
    let at : place ≡ length bytes = omega arith in
    subst (λ n. ReadsLength (length bytes) (Some bytes) (Some (drop n bytes)) (take n bytes) (Err UnexpectedEnd)) at
    (length_cut (Some bytes) (Some (drop place bytes)) (Some (drop place bytes)) (take place bytes) (take place bytes) value place (length bytes) g (none_at bytes place many few)
    (λ zero_place. some (length_nil bytes (omega arith))))

pub no_zero : (n : ℕ) → n ≡ 0 → (n == 0) ≡ false → ⊥
no_zero n e f = let t = sym (ap (λ (k : ℕ). k == 0) e) ∙ f in cc

-- what is wrong with a length is no error of a reader
pub own_length : (error : Option CidError) (kind : CarErrorKind) → kind_of error ≡ Some kind → IsOfReader kind → ⊥
own_length None kind e r = no_kind kind e
own_length (Some VarintTooLarge) kind e r = subst IsOfReader (sym (same_kind LengthTooLarge kind e)) r
own_length (Some _) kind e r = subst IsOfReader (sym (same_kind LengthNotShortest kind e)) r
