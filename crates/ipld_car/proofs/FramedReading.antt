-- A length and as many bytes, taken one after the other.
use Rattle.std.proofs.Common.{◌≡◌, ◌≢◌, ℕ, ◌-◌, ◌<◌, ◌≤◌, Bool, true, false, List, [], ◌∷◌, ◌++◌, length, Option, Some, None, Result, Ok, Err, inl, inr, refl, sym, ap, subst, ◌∙◌, arith, length-append}
use Rattle.std.proofs.KnownBytes.{Consumes-trans}
use Rattle.std.specs.Io.KnownBytes.{Consumes}
use Rattle.ipld_cid.specs.Varint.{IsVarint}
use Rattle.ipld_car.specs.declared.error.CarErrorKind.{CarErrorKind}
use Rattle.ipld_car.specs.declared.error.CarErrorKind.TheVariants.{Memory, Read, UnexpectedEnd, LengthNotShortest, LengthTooLarge, Empty, TooLong}
use Rattle.ipld_car.specs.Taking.{Fills, IsReaderError}
use Rattle.ipld_car.specs.Lengths.{ReadsLength}
use Rattle.ipld_car.specs.Framing.{IsCut, FramingFault, ReadsFramed}
use Rattle.ipld_car.proofs.Takings.{read_out_later}

-- the bytes of the length and those after it were taken
pub framed_consumed : (old mid new : Option (List ℕ)) (size after : List ℕ) (count : ℕ) (result : Result Bool CarErrorKind)
    → Consumes old mid size → Fills mid new size after count result → Consumes old new after
framed_consumed old mid new size after count result c f = subst (Consumes old new) (sym f.behind) (Consumes-trans old mid new size f.got c f.consumed)

-- there is nothing
pub framed_none : (limit room : ℕ) (old new : Option (List ℕ)) (size : List ℕ) → ReadsLength room old new size (Ok None)
    → ReadsFramed limit room old new size (Ok None)
framed_none limit room old new size r = r

-- the length is none
pub framed_no_length : (limit room : ℕ) (old new : Option (List ℕ)) (size : List ℕ) (kind : CarErrorKind) → ReadsLength room old new size (Err kind)
    → ReadsFramed limit room old new size (Err kind)
framed_no_length limit room old new size Memory r = (inl r.0, r.1)
framed_no_length limit room old new size (Read error) r = (inl r.0, r.1, r.2)
framed_no_length limit room old new size UnexpectedEnd r = (inl r.0, r.1, r.2)
framed_no_length limit room old new size LengthNotShortest r = r
framed_no_length limit room old new size LengthTooLarge r = r
framed_no_length limit room old new size _ r = absurd r

-- the length is zero
pub framed_empty : (limit room : ℕ) (old new : Option (List ℕ)) (size : List ℕ) (n : ℕ) → ReadsLength room old new size (Ok (Some n)) → n ≡ 0
    → ReadsFramed limit room old new size (Err Empty)
framed_empty limit room old new size n r e = subst (λ m. IsVarint m size) e r.0

-- the length is over the limit
pub framed_long : (limit room : ℕ) (old new : Option (List ℕ)) (size : List ℕ) (n : ℕ) → ReadsLength room old new size (Ok (Some n)) → limit < n
    → ReadsFramed limit room old new size (Err (TooLong n))
framed_long limit room old new size n r long = (r.0, long)

-- all is there
pub framed_done : (limit room : ℕ) (old mid new : Option (List ℕ)) (size after : List ℕ) (n count : ℕ) → ReadsLength room old mid size (Ok (Some n))
    → 0 < n → n ≤ limit → count ≡ n → n ≤ room - length size → Fills mid new size after count (Ok true)
    → ReadsFramed limit room old new after (Ok (Some (length size)))
framed_done limit room old mid new size after n count r some within all fits f =
    let sized : length f.got ≡ n = f.outcome ∙ all in
    record {
      size = size;
      content = f.got;
      size_encoded = subst (λ m. IsVarint m size) (sym sized) r.0;
      some = omega arith;
      within_limit = omega arith;
      within_room = let e = ap length f.behind ∙ length-append size f.got in let s = r.1 in omega arith;
      starts = refl;
      encoded = f.behind;
    }

pub not_empty : (n : ℕ) (size got after : List ℕ) → IsVarint n size → after ≡ size ++ got → after ≢ []
not_empty n [] got after v e none = absurd v.encoded
not_empty n (b ∷ size) got after v e none = let joined = sym e ∙ none in cc

cut : (limit n : ℕ) (size got after : List ℕ) → IsVarint n size → n ≤ limit → length got < n → after ≡ size ++ got → IsCut limit after
cut limit n size got after v within short e =
    inr (record { size = size; content = got; total = n; size_encoded = v; within_limit = within; short = short; encoded = e })

-- the reader is at its end
pub framed_cut : (limit room : ℕ) (old mid new : Option (List ℕ)) (size after : List ℕ) (n count : ℕ) → ReadsLength room old mid size (Ok (Some n))
    → Consumes old mid size → n ≤ limit → count ≤ n → Fills mid new size after count (Ok false)
    → ReadsFramed limit room old new after (Err UnexpectedEnd)
framed_cut limit room old mid new size after n count r c within few f = (
  cut limit n size f.got after r.0 within (let s = f.outcome.0 in omega arith) f.behind,
  not_empty n size f.got after r.0 f.behind,
  inr (read_out_later old mid new size c f.outcome.1),
)

-- no more may be taken
pub framed_over : (limit room : ℕ) (old mid new : Option (List ℕ)) (size after : List ℕ) (n count : ℕ) → ReadsLength room old mid size (Ok (Some n))
    → n ≤ limit → count ≡ room - length size → count < n → Fills mid new size after count (Ok true)
    → ReadsFramed limit room old new after (Err UnexpectedEnd)
framed_over limit room old mid new size after n count r within all over f = (
  cut limit n size f.got after r.0 within (let s = f.outcome in omega arith) f.behind,
  not_empty n size f.got after r.0 f.behind,
  inl (let e = ap length f.behind ∙ length-append size f.got in let s = f.outcome in let b = r.1 in omega arith),
)

fault_of_reader : (limit room : ℕ) (old new : Option (List ℕ)) (after : List ℕ) (kind : CarErrorKind) → IsReaderError kind → IsCut limit after
    → length after < room → FramingFault limit room old new after kind
fault_of_reader limit room old new after Memory e c few = (c, few)
fault_of_reader limit room old new after (Read error) e c few = (c, e, few)
fault_of_reader limit room old new after _ e c few = absurd e

-- the reader failed
pub framed_fails : (limit room : ℕ) (old mid new : Option (List ℕ)) (size after : List ℕ) (n count : ℕ) (kind : CarErrorKind) → ReadsLength room old mid size (Ok (Some n))
    → n ≤ limit → count ≤ n → count ≤ room - length size → Fills mid new size after count (Err kind)
    → ReadsFramed limit room old new after (Err kind)
framed_fails limit room old mid new size after n count kind r within few fits f =
    let s = f.outcome.0 in
    fault_of_reader limit room old new after kind f.outcome.1 (cut limit n size f.got after r.0 within (omega arith) f.behind)
    (let e = ap length f.behind ∙ length-append size f.got in omega arith)

-- no more was taken than may be
pub framed_within : (mid new : Option (List ℕ)) (size after : List ℕ) (room count : ℕ) (result : Result Bool CarErrorKind)
    → Fills mid new size after count result → length size ≤ room → count ≤ room - length size → length after ≤ room
framed_within mid new size after room count (Ok true) f sized few = let e = ap length f.behind ∙ length-append size f.got in let s = f.outcome in omega arith
framed_within mid new size after room count (Ok false) f sized few = let e = ap length f.behind ∙ length-append size f.got in let s = f.outcome.0 in omega arith
framed_within mid new size after room count (Err kind) f sized few = let e = ap length f.behind ∙ length-append size f.got in let s = f.outcome.0 in omega arith
