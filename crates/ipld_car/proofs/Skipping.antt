-- What stands before the payload, taken piece by piece.
use Rattle.std.proofs.Common.{◌≡◌, ℕ, ◌+◌, ◌-◌, ◌<◌, ◌≤◌, Bool, true, false, List, [], ◌++◌, length, Option, Result, Ok, Err, inl, inr, refl, sym, ap, subst, ◌∙◌, arith, take, drop, length-append, length-drop}
use Rattle.std.proofs.lemmas.List.{drop-append-le, take-append-le}
use Rattle.std.specs.Int.{w64, from_le_bytes}
use Rattle.std.proofs.KnownBytes.{Consumes-nil, Consumes-trans}
use Rattle.std.specs.Io.KnownBytes.{Consumes}
use Rattle.ipld_car.specs.declared.error.CarError.{CarError}
use Rattle.ipld_car.specs.declared.error.CarErrorKind.{CarErrorKind}
use Rattle.ipld_car.specs.declared.error.CarErrorKind.TheVariants.{Memory, Read, UnexpectedEnd, Payload as NoPayload}
use Rattle.ipld_car.specs.Taking.{Fills, IsReadOut, IsReaderError}
use Rattle.ipld_car.specs.Version2.{start_in, size_in, HasNoPayload, PlacesPayload, SkipsPadding, EndsBeforePayload, Version2Fault, TakesToPayload, FailsBeforePayload}
use Rattle.ipld_car.proofs.Takings.{read_out_later}

-- some of the padding was skipped, and some is left
pub record SkipsSoFar (old new : Option (List ℕ)) (count left : ℕ) : Type 0 where
  pub got : List ℕ
  pub consumed : Consumes old new got
  pub total : length got + left ≡ count

pub skips_none : (old : Option (List ℕ)) (count : ℕ) → SkipsSoFar old old count count
skips_none old count = record { got = []; consumed = Consumes-nil old; total = omega arith }

-- a piece of it
pub skips_more : (old mid new : Option (List ℕ)) (before after : List ℕ) (count left piece : ℕ) → SkipsSoFar old mid count left
    → Fills mid new before after piece (Ok true) → piece ≤ left → SkipsSoFar old new count (left - piece)
skips_more old mid new before after count left piece s f within = record {
  got = s.got ++ f.got;
  consumed = Consumes-trans old mid new s.got f.got s.consumed f.consumed;
  total = let e = length-append s.got f.got in let o = f.outcome in let t = s.total in omega arith;
}

pub skips_all : (old new : Option (List ℕ)) (count left : ℕ) → SkipsSoFar old new count left → left ≤ 0 → SkipsPadding old new count (Ok tt)
skips_all old new count left s done = record { got = s.got; consumed = s.consumed; outcome = let t = s.total in omega arith }

-- no more bytes are kept than a piece has
pub fills_bounded : (old new : Option (List ℕ)) (before after : List ℕ) (count : ℕ) (result : Result Bool CarErrorKind) → before ≡ [] → Fills old new before after count result
    → count ≤ 4096 → length after ≤ 4096
fills_bounded old new before after count (Ok true) none f few =
    let all = ap length (f.behind ∙ ap (λ xs. xs ++ f.got) none) in let o = f.outcome in omega arith
fills_bounded old new before after count (Ok false) none f few =
    let all = ap length (f.behind ∙ ap (λ xs. xs ++ f.got) none) in let o = f.outcome.0 in omega arith
fills_bounded old new before after count (Err kind) none f few =
    let all = ap length (f.behind ∙ ap (λ xs. xs ++ f.got) none) in let o = f.outcome.0 in omega arith

-- the reader is at its end
pub skips_part : (old mid new : Option (List ℕ)) (before after : List ℕ) (count left piece n : ℕ) (error : CarError) → SkipsSoFar old mid count left
    → before ≡ [] → Fills mid new before after piece (Ok false) → piece ≤ left → n ≡ length after
    → error ≡ record { kind = UnexpectedEnd; section = 11; offset = 11 + (40 + (count - left) + n) }
    → SkipsPadding old new count (Err error)
skips_part old mid new before after count left piece n error s cleared f within counted e = rw e (record {
  got = s.got ++ f.got;
  consumed = Consumes-trans old mid new s.got f.got s.consumed f.consumed;
  outcome = (
    let a = length-append s.got f.got in let o = f.outcome.0 in let t = s.total in omega arith,
    refl,
    let a = length-append s.got f.got in let b = ap length (f.behind ∙ ap (λ xs. xs ++ f.got) cleared) in let t = s.total in omega arith,
    inl (refl, read_out_later old mid new s.got s.consumed f.outcome.1),
  );
})

-- the reader failed
pub skips_until : (old mid new : Option (List ℕ)) (before after : List ℕ) (count left piece n : ℕ) (kind : CarErrorKind) (error : CarError) → SkipsSoFar old mid count left
    → before ≡ [] → Fills mid new before after piece (Err kind) → piece ≤ left → n ≡ length after
    → error ≡ record { kind = kind; section = 11; offset = 11 + (40 + (count - left) + n) }
    → SkipsPadding old new count (Err error)
skips_until old mid new before after count left piece n kind error s cleared f within counted e = rw e (record {
  got = s.got ++ f.got;
  consumed = Consumes-trans old mid new s.got f.got s.consumed f.consumed;
  outcome = (
    let a = length-append s.got f.got in let o = f.outcome.0 in let t = s.total in omega arith,
    refl,
    let a = length-append s.got f.got in let b = ap length (f.behind ∙ ap (λ xs. xs ++ f.got) cleared) in let t = s.total in omega arith,
    inr f.outcome.1,
  );
})

header_taken : (old new : Option (List ℕ)) (after : List ℕ) (result : Result Bool CarErrorKind) → (f : Fills old new [] after 40 result) → Consumes old new after
header_taken old new after result f = subst (Consumes old new) (sym f.behind) f.consumed

-- the header and the padding were taken
pub payload_reached : (old mid new : Option (List ℕ)) (header : List ℕ) (start end : ℕ) → Fills old mid [] header 40 (Ok true) → length header ≡ 40
    → PlacesPayload header start end → SkipsPadding mid new (start - 51) (Ok tt) → TakesToPayload old new start end
payload_reached old mid new header start end f sized p s = record {
  header = header;
  padding = s.got;
  consumed = Consumes-trans old mid new header s.got (header_taken old mid header (Ok true) f) s.consumed;
  sized = sized;
  places = p;
  padded = let o = s.outcome in let b = p.behind in omega arith;
}

pub start_kept : (header got : List ℕ) → length header ≡ 40 → start_in (header ++ got) ≡ start_in header
start_kept header got sized =
    let behind : length (drop 16 header) ≡ 24 = let e = length-drop 16 header in omega arith in
    ap (from_le_bytes w64) (ap (take 8) (drop-append-le 16 header got (omega arith)) ∙ take-append-le 8 (drop 16 header) got (omega arith))

size_kept : (header got : List ℕ) → length header ≡ 40 → size_in (header ++ got) ≡ size_in header
size_kept header got sized =
    let behind : length (drop 24 header) ≡ 16 = let e = length-drop 24 header in omega arith in
    ap (from_le_bytes w64) (ap (take 8) (drop-append-le 24 header got (omega arith)) ∙ take-append-le 8 (drop 24 header) got (omega arith))

-- a header that places the payload, and some of the padding
within_padding : (header got : List ℕ) (start end : ℕ) → length header ≡ 40 → PlacesPayload header start end → length got < start - 51 → EndsBeforePayload (header ++ got)
within_padding header got start end sized p short =
    let s = start_kept header got sized in
    let z = size_kept header got sized in
    let b = p.begins in let h = p.behind in let e = p.ends in let f = p.fits in
    inr (
      λ none. elim none [
        | inl early ↦ omega arith
        | inr late ↦ omega arith
      ],
      let a = length-append header got in omega arith,
    )

fault_of_reader : (old new : Option (List ℕ)) (got : List ℕ) (kind : CarErrorKind) → IsReaderError kind → EndsBeforePayload got → Version2Fault old new got kind (length got)
fault_of_reader old new got Memory e cut = (refl, cut)
fault_of_reader old new got (Read error) e cut = (refl, e, cut)
fault_of_reader old new got _ e cut = absurd e

-- the padding isn't all there
pub payload_padding : (old mid new : Option (List ℕ)) (header : List ℕ) (start end : ℕ) (error : CarError) → Fills old mid [] header 40 (Ok true)
    → PlacesPayload header start end → SkipsPadding mid new (start - 51) (Err error) → FailsBeforePayload old new error
payload_padding old mid new header start end error f p s =
    let sized : length header ≡ 40 = ap length f.behind ∙ f.outcome in
    let taken = header_taken old mid header (Ok true) f in
    let both = length-append header s.got in
    let cut = within_padding header s.got start end sized p s.outcome.0 in
    record {
      got = header ++ s.got;
      consumed = Consumes-trans old mid new header s.got taken s.consumed;
      fails = record {
        place = length (header ++ s.got);
        section = s.outcome.1;
        offset = let o = s.outcome.2 in omega arith;
        why = elim s.outcome.3 [
          | inl end_here ↦ rw end_here.0 (refl, read_out_later old mid new header taken end_here.1, cut)
          | inr failed ↦ fault_of_reader old new (header ++ s.got) error.kind failed cut
        ];
      };
    }

-- the header isn't all there
header_cut : (old new : Option (List ℕ)) (header : List ℕ) (kind : CarErrorKind) → (f : Fills old new [] header 40 (Err kind)) → EndsBeforePayload header
header_cut old new header kind f = inl (let b = ap length f.behind in let o = f.outcome.0 in omega arith)

pub payload_cut : (old new : Option (List ℕ)) (header : List ℕ) (error : CarError) → Fills old new [] header 40 (Ok false)
    → error ≡ record { kind = UnexpectedEnd; section = 11; offset = 11 + length header } → FailsBeforePayload old new error
payload_cut old new header error f e = rw e (record {
  got = header;
  consumed = header_taken old new header (Ok false) f;
  fails = record { place = length header; section = refl; offset = refl; why = (refl, f.outcome.1, inl (let b = ap length f.behind in let o = f.outcome.0 in omega arith)) };
})

pub payload_fails : (old new : Option (List ℕ)) (header : List ℕ) (kind : CarErrorKind) (error : CarError) → Fills old new [] header 40 (Err kind)
    → error ≡ record { kind = kind; section = 11; offset = 11 + length header } → FailsBeforePayload old new error
payload_fails old new header kind error f e = rw e (record {
  got = header;
  consumed = header_taken old new header (Err kind) f;
  fails = record { place = length header; section = refl; offset = refl; why = fault_of_reader old new header kind f.outcome.1 (header_cut old new header kind f) };
})

-- the header places the payload where none can be
pub payload_nowhere : (old new : Option (List ℕ)) (header : List ℕ) (error : CarError) → Fills old new [] header 40 (Ok true) → length header ≡ 40 → HasNoPayload header
    → error ≡ record { kind = NoPayload; section = 11; offset = 11 + 16 } → FailsBeforePayload old new error
payload_nowhere old new header error f sized none e = rw e (record {
  got = header;
  consumed = header_taken old new header (Ok true) f;
  fails = record { place = 16; section = refl; offset = refl; why = (refl, sized, none) };
})
