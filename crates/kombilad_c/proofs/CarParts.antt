-- What is at hand of a CAR, in the whole of it.
use Rattle.std.proofs.Common.{◌≡◌, ℕ, ◌+◌, ◌-◌, ◌<◌, ◌≤◌, ◌^◌, min, Bool, true, false, cond, List, [], ◌∷◌, ◌++◌, length, take, drop, inl, inr, refl, sym, ap, subst, ◌∙◌, arith, append_assoc, append-nil, length-append}
use Rattle.std.proofs.Math.Seq.{take-append-add, drop-append_seam}
use Rattle.std.proofs.lemmas.Bool.{cases_lt}
use Rattle.std.proofs.lemmas.List.{take_all, take-append-le, length-take}
use Rattle.ipld_cid.specs.Varint.{IsVarint}
use Rattle.ipld_cid.specs.declared.error.CidError.{CidError}
use Rattle.ipld_cid.specs.declared.error.CidError.TheVariants.{NotShortest as VarintNotShortest, VarintTooLarge}
use Rattle.ipld_cid.proofs.Encodings.{one_encoding}
use Rattle.ipld_car.specs.declared.error.CarError.{CarError}
use Rattle.ipld_car.specs.declared.error.CarErrorKind.{CarErrorKind}
use Rattle.ipld_car.specs.declared.error.CarErrorKind.TheVariants.{UnexpectedEnd, ShortPayload, LengthNotShortest, LengthTooLarge, Empty, TooLong, Cid}
use Rattle.ipld_car.specs.declared.span.SectionSpan.{SectionSpan}
use Rattle.ipld_car.specs.Fails.{Fails}
use Rattle.ipld_car.specs.Framing.{IsCut}
use Rattle.ipld_car.specs.InMemory.{between, Begins, SpansSection, SpanFault}
use Rattle.ipld_car.specs.Lengths.{IsNoVarint}
use Rattle.ipld_car.specs.Reading.{HasNoCid}
use Rattle.ipld_car.specs.Section.{Block, content_of}
use Rattle.ipld_car.proofs.FramesInMemory.{take_nil, drop_len}
use Rattle.kombilad_c.specs.CarLength.{IsWithin}
use Rattle.kombilad_c.specs.Car.{SectionSpans}
use Rattle.kombilad_c.specs.CarPart.{Continues, LimitFault, FindsWithin, spans_from}
use Rattle.kombilad_c.specs.Fill.{Variable}
use Rattle.kombilad_c.specs.Status.{car_status}

-- ---- a limit

cut_within : (limit : ℕ) (bytes : List ℕ) → IsWithin limit bytes → IsCut (2 ^ 64 - 1) bytes → IsCut limit bytes
cut_within limit bytes few (inl begins) = inl begins
cut_within limit bytes few (inr c) = inr (record {
  size = c.size;
  content = c.content;
  total = c.total;
  size_encoded = c.size_encoded;
  within_limit = few c.total c.size c.content c.size_encoded c.encoded;
  short = c.short;
  encoded = c.encoded;
})

-- an error of a section whose length is within the limit
pub fault_within : (limit : ℕ) (bytes : List ℕ) (room size found : ℕ) (kind : CarErrorKind) (place : ℕ) → IsWithin limit bytes → SpanFault bytes room size found kind place
    → LimitFault limit bytes room kind place
fault_within limit bytes room size found UnexpectedEnd place few f = (cut_within limit bytes few f.0.0, f.0.1, f.1)
fault_within limit bytes room size found (ShortPayload expected came) place few f = (cut_within limit bytes few f.0.0, f.0.1, f.1)
fault_within limit bytes room size found LengthNotShortest place few f = f
fault_within limit bytes room size found LengthTooLarge place few f = f
fault_within limit bytes room size found Empty place few f = f
fault_within limit bytes room size found (Cid error) place few f =
    let framed = f.3.framed in (
      f.0,
      f.1,
      f.2,
      record {
        framed = record {
          size = framed.size;
          content = framed.content;
          size_encoded = framed.size_encoded;
          some = framed.some;
          within_limit =
              few (length framed.content) framed.size (framed.content ++ f.1) framed.size_encoded (f.2 ∙ ap (λ xs. xs ++ f.1) framed.encoded ∙ append_assoc framed.size framed.content f.1);
          within_room = framed.within_room;
          starts = framed.starts;
          encoded = framed.encoded;
        };
        error_is = f.3.error_is;
        none = f.3.none;
      },
    )
fault_within limit bytes room size found _ place few f = absurd f

-- its place is within the bytes
pub place_within : (bytes : List ℕ) (room size found : ℕ) (kind : CarErrorKind) (place : ℕ) → SpanFault bytes room size found kind place → place ≤ length bytes
place_within bytes room size found UnexpectedEnd place f = let p = f.0.1 in omega arith
place_within bytes room size found (ShortPayload expected came) place f = let p = f.0.1 in omega arith
place_within bytes room size found LengthNotShortest place f = let p = f.3.1 in let l = ap length f.2 ∙ length-append f.0 f.1 in omega arith
place_within bytes room size found LengthTooLarge place f = let p = f.3.1 in let l = ap length f.2 ∙ length-append f.0 f.1 in omega arith
place_within bytes room size found Empty place f = let p = f.3.1 in omega arith
place_within bytes room size found (Cid error) place f =
    let framed = f.3.framed in
    let l = ap length f.2 ∙ length-append f.0 f.1 in
    let m = ap length framed.encoded ∙ length-append framed.size framed.content in
    let s = framed.starts in omega arith
place_within bytes room size found _ place f = absurd f

-- the content of a section whose length is within the limit
pub content_within : (limit : ℕ) (bytes : List ℕ) (block : Block) (span : SectionSpan) → IsWithin limit bytes → SpansSection bytes 0 block span → length (content_of block) ≤ limit
content_within limit bytes block span few s =
    let is = s.is_section in
    let e = ap (λ xs. length (xs ++ block.bytes)) (one_encoding 64 is.cid block.cid is.cid_encoded) in
    let parts : bytes ≡ is.size ++ ((is.cid ++ block.bytes) ++ s.rest) = s.parts ∙ ap (λ xs. xs ++ s.rest) (is.encoded ∙ append_assoc is.size is.cid block.bytes) ∙ append_assoc is.size (is.cid ++ block.bytes) s.rest in
    let l = few (length (is.cid ++ block.bytes)) is.size ((is.cid ++ block.bytes) ++ s.rest) is.size_encoded parts in omega arith

pub between_all : (room : ℕ) (bytes : List ℕ) → length bytes ≤ room → between 0 room bytes ≡ bytes
between_all room bytes few = take_all (room - 0) bytes (omega arith)

pub at_front : (limit : ℕ) (bytes : List ℕ) (room size found : ℕ) (error : CarError) → IsWithin limit bytes → Fails 0 (SpanFault bytes (room - 0) size found) error
    → LimitFault limit bytes room error.kind error.offset
at_front limit bytes room size found error few f =
    let same : f.place ≡ error.offset = let o = f.offset in omega arith in
    let all : room - 0 ≡ room = omega arith in
    subst (λ (n : ℕ). LimitFault limit bytes n error.kind error.offset) all
    (subst (λ (n : ℕ). LimitFault limit bytes (room - 0) error.kind n) same (fault_within limit bytes (room - 0) size found error.kind f.place few f.why))

pub place_at_front : (bytes : List ℕ) (room size found : ℕ) (error : CarError) → Fails 0 (SpanFault bytes room size found) error → error.offset ≤ length bytes
place_at_front bytes room size found error f = let o = f.offset in let p = place_within bytes room size found error.kind f.place f.why in omega arith

-- ---- the whole CAR

-- the bytes `w`, for which there is room up to `room` bytes, in the bytes `whole`, for which there
-- is room up to `whole_room` bytes
pub record Stands (w whole : List ℕ) (room whole_room is_all : ℕ) : Type 0 where
  pub behind : List ℕ
  pub parts : whole ≡ w ++ behind
  pub full : length w ≡ room → (whole ≡ w) × (whole_room ≡ room)
  pub last : (is_all ≡ 0 → ⊥) → length w < room → whole ≡ w

none_of : (bytes : List ℕ) → length bytes ≡ 0 → bytes ≡ []
none_of [] e = refl
none_of (b ∷ bytes) e = absurd (omega arith)

drop_gone : (at : ℕ) (gone rest car : List ℕ) → car ≡ gone ++ rest → length gone ≡ at → drop at car ≡ rest
drop_gone at gone rest car e l = ap (drop at) e ∙ ap (λ (n : ℕ). drop n (gone ++ rest)) (sym l) ∙ drop-append_seam gone rest

take_zero : (n : ℕ) (bytes : List ℕ) → n ≡ 0 → take n bytes ≡ []
take_zero n bytes e = ap (λ (m : ℕ). take m bytes) e

behind_none : (w whole more : List ℕ) → whole ≡ w ++ more → more ≡ [] → whole ≡ w
behind_none w whole more e none = e ∙ ap (λ xs. w ++ xs) none ∙ append-nil w

pub stands : (t : Bool) (end at : ℕ) (b w car : List ℕ) (is_all : ℕ) → at < cond t (2 ^ 64 - 1) end → w ≡ take (min (length b) (cond t (2 ^ 64 - 1) end - at)) b
    → Continues at b is_all car
    → Stands w (between at (cond t (length car) end) car) (cond t (2 ^ 64 - 1) end - at) (cond t (length car) end - at) is_all
stands true end at b w car is_all less is k =
    let l = ap length k.parts ∙ length-append k.gone (b ++ k.more) in
    let m = length-append b k.more in
    let g = k.before in
    let f = k.fits in
    let all : w ≡ b = is ∙ take_all (min (length b) (2 ^ 64 - 1 - at)) b (omega (arith, min)) in
    let n = ap length all in
    let whole : between at (length car) car ≡ b ++ k.more =
    ap (take (length car - at)) (drop_gone at k.gone (b ++ k.more) car k.parts k.before) ∙ take_all (length car - at) (b ++ k.more) (omega arith) in
    let parts = whole ∙ ap (λ xs. xs ++ k.more) (sym all) in
    record {
      behind = k.more;
      parts = parts;
      full = λ e. (behind_none w (between at (length car) car) k.more parts (none_of k.more (omega arith)), omega arith);
      last = λ a short. behind_none w (between at (length car) car) k.more parts (k.all a);
    }
stands false end at b w car is_all less is k =
    let room : ℕ = end - at in
    let whole : between at end car ≡ take room (b ++ k.more) = ap (take room) (drop_gone at k.gone (b ++ k.more) car k.parts k.before) in
    elim (cases_lt room (length b)) [
      | inl small ↦
          let front : w ≡ take room b = is ∙ ap (λ (n : ℕ). take n b) (omega (arith, min)) in
          let same = whole ∙ take-append-le room b k.more (omega arith) ∙ sym front in
          record { behind = []; parts = same ∙ sym (append-nil w); full = λ e. (same, refl); last = λ a short. same }
      | inr large ↦
          let all : w ≡ b = is ∙ take_all (min (length b) room) b (omega (arith, min)) in
          let n = ap length all in
          let both : room ≡ length b + (room - length b) = omega arith in
          let some : take room (b ++ k.more) ≡ b ++ take (room - length b) k.more = ap (λ (n : ℕ). take n (b ++ k.more)) both ∙ take-append-add b k.more (room - length b) in
          let parts = whole ∙ some ∙ ap (λ xs. xs ++ take (room - length b) k.more) (sym all) in
          record {
            behind = take (room - length b) k.more;
            parts = parts;
            full = λ e. (behind_none w (between at end car) (take (room - length b) k.more) parts (take_zero (room - length b) k.more (omega arith)), refl);
            last = λ a short. behind_none w (between at end car) (take (room - length b) k.more) parts (ap (take (room - length b)) (k.all a) ∙ take_nil (room - length b));
          }
    ]

-- ---- an error in the whole

-- an error at the end of the bytes
abbrev pub IsShort : CarErrorKind → Type 0
IsShort (ShortPayload expected found) = Unit {0}
IsShort _ = ⊥

on : (w whole behind : List ℕ) (P : List ℕ → Type 0) → whole ≡ w ++ behind → Begins w P → Begins whole P
on w whole behind P e f = (f.0, f.1 ++ behind, e ∙ ap (λ xs. xs ++ behind) f.2 ∙ append_assoc f.0 f.1 behind, f.3)

pub fault_whole : (limit : ℕ) (w whole : List ℕ) (room whole_room is_all : ℕ) (kind : CarErrorKind) (place : ℕ) → Stands w whole room whole_room is_all → (IsShort kind → ⊥)
    → LimitFault limit w room kind place → LimitFault limit whole whole_room kind place
fault_whole limit w whole room whole_room is_all UnexpectedEnd place s other f =
    let same = s.full f.2 in (subst (IsCut limit) (sym same.0) f.0, f.1 ∙ ap length (sym same.0), ap length same.0 ∙ f.2 ∙ sym same.1)
fault_whole limit w whole room whole_room is_all (ShortPayload expected came) place s other f = absurd (other tt)
fault_whole limit w whole room whole_room is_all LengthNotShortest place s other f = on w whole s.behind (λ front. IsNoVarint front VarintNotShortest × (place ≡ length front - 1)) s.parts f
fault_whole limit w whole room whole_room is_all LengthTooLarge place s other f = on w whole s.behind (λ front. IsNoVarint front VarintTooLarge × (place ≡ length front - 1)) s.parts f
fault_whole limit w whole room whole_room is_all Empty place s other f = on w whole s.behind (λ front. IsVarint 0 front × (place ≡ 0)) s.parts f
fault_whole limit w whole room whole_room is_all (TooLong n) place s other f = on w whole s.behind (λ front. IsVarint n front × (limit < n) × (place ≡ 0)) s.parts f
fault_whole limit w whole room whole_room is_all (Cid error) place s other f =
    let framed = f.3.framed in
    let l = ap length s.parts ∙ length-append w s.behind in
    let room = framed.within_room in
    on w whole s.behind (λ front. HasNoCid limit (length whole) front error place) s.parts (
      f.0,
      f.1,
      f.2,
      record {
        framed = record {
          size = framed.size;
          content = framed.content;
          size_encoded = framed.size_encoded;
          some = framed.some;
          within_limit = framed.within_limit;
          within_room = omega arith;
          starts = framed.starts;
          encoded = framed.encoded;
        };
        error_is = f.3.error_is;
        none = f.3.none;
      },
    )
fault_whole limit w whole room whole_room is_all _ place s other f = absurd f

some_varint : (n : ℕ) (bytes : List ℕ) → IsVarint n bytes → 0 < length bytes
some_varint n [] v = absurd v.encoded
some_varint n (b ∷ bytes) v = omega arith

some_front : (w front rest : List ℕ) → w ≡ front ++ rest → 0 < length front → 0 < length w
some_front w front rest e some = let l = ap length e ∙ length-append front rest in omega arith

no_varint_some : (bytes : List ℕ) (error : CidError) → IsNoVarint bytes error → 0 < length bytes
no_varint_some bytes error n = let l = ap length n.parts ∙ length-append n.front (n.last ∷ []) in omega arith

-- there are bytes at which it is
pub some_fault : (limit : ℕ) (w : List ℕ) (room : ℕ) (kind : CarErrorKind) (place : ℕ) → 0 < room → (IsShort kind → ⊥) → LimitFault limit w room kind place → 0 < length w
some_fault limit w room UnexpectedEnd place some other f = let full = f.2 in omega arith
some_fault limit w room (ShortPayload expected came) place some other f = absurd (other tt)
some_fault limit w room LengthNotShortest place some other f = some_front w f.0 f.1 f.2 (no_varint_some f.0 VarintNotShortest f.3.0)
some_fault limit w room LengthTooLarge place some other f = some_front w f.0 f.1 f.2 (no_varint_some f.0 VarintTooLarge f.3.0)
some_fault limit w room Empty place some other f = some_front w f.0 f.1 f.2 (some_varint 0 f.0 f.3.0)
some_fault limit w room (TooLong n) place some other f = some_front w f.0 f.1 f.2 (some_varint n f.0 f.3.0)
some_fault limit w room (Cid error) place some other f =
    some_front w f.0 f.1 f.2 (let e = ap length f.3.framed.encoded ∙ length-append f.3.framed.size f.3.framed.content in let c = f.3.framed.some in omega arith)
some_fault limit w room _ place some other f = absurd f

-- ---- the results

pub room_there : (at end : ℕ) (car : List ℕ) → 0 < length (between at end car) → at < end
room_there at end car some = let l = length-take (end - at) (drop at car) in omega (arith, min)

-- sections that end where those of a CAR of unknown length do
pub done_at : (t : Bool) (at end len : ℕ) → cond t (2 ^ 64 - 1) end ≤ at → len < 2 ^ 64 → cond t len end ≤ at
done_at true at end len e f = omega arith
done_at false at end len e f = e

-- a section
pub section_whole : (w whole : List ℕ) (room whole_room is_all at : ℕ) (block : Block) (span : SectionSpan) → Stands w whole room whole_room is_all → SpansSection w 0 block span
    → SpansSection whole at block (record { cid = at + span.cid; block = at + span.block; end = at + span.end })
section_whole w whole room whole_room is_all at block span s f = record {
  section = f.section;
  rest = f.rest ++ s.behind;
  parts = s.parts ∙ ap (λ xs. xs ++ s.behind) f.parts ∙ append_assoc f.section f.rest s.behind;
  is_section = f.is_section;
  cid_begins = let e = f.cid_begins in omega arith;
  block_begins = let e = f.block_begins in omega arith;
  ends = let e = f.ends in omega arith;
}

pub whole_some : (w whole : List ℕ) (room whole_room is_all : ℕ) → Stands w whole room whole_room is_all → 0 < length w → 0 < length whole
whole_some w whole room whole_room is_all s some = let l = ap length s.parts ∙ length-append w s.behind in omega arith

-- fewer bytes than there is room for are all that are at hand
pub all_at_hand : (b w : List ℕ) (room : ℕ) → w ≡ take (min (length b) room) b → length w < room → w ≡ b
all_at_hand b w room is short = let l = ap length is ∙ length-take (min (length b) room) b in is ∙ take_all (min (length b) room) b (omega (arith, min))

-- the end of a CAR of version 2, before that of its payload
pub short_whole : (limit : ℕ) (w whole : List ℕ) (room is_all place expected found : ℕ) → Stands w whole room room is_all → (is_all ≡ 0 → ⊥)
    → LimitFault limit w room (ShortPayload expected found) place → LimitFault limit whole room (ShortPayload expected found) place
short_whole limit w whole room is_all place expected found s all f =
    let same = s.last all f.2 in
    subst (λ xs. LimitFault limit xs room (ShortPayload expected found) place) (sym same) f

-- the end of a CAR of version 1
pub end_whole : (limit at : ℕ) (w car : List ℕ) (room is_all place expected found : ℕ) → Stands w (between at (length car) car) room (length car - at) is_all → (is_all ≡ 0 → ⊥)
    → LimitFault limit w room (ShortPayload expected found) place → LimitFault limit (between at (length car) car) (length car - at) UnexpectedEnd place
end_whole limit at w car room is_all place expected found s all f =
    let same = s.last all f.2 in
    let l = length-take (length car - at) (drop at car) in
    let d = drop_len car at in (subst (IsCut limit) (sym same) f.0, f.1 ∙ ap length (sym same), omega (arith, min))

-- no byte is left
pub none_left : (at : ℕ) (b car : List ℕ) (is_all : ℕ) → Continues at b is_all car → (is_all ≡ 0 → ⊥) → length b ≡ 0 → length car ≤ at
none_left at b car is_all k all none =
    let l = ap length k.parts ∙ length-append k.gone (b ++ k.more) in
    let m = length-append b k.more in
    let n = ap length (k.all all) in
    let g = k.before in omega arith

pub not_short : (kind : CarErrorKind) → ((expected found : ℕ) → kind ≡ ShortPayload expected found → ⊥) → IsShort kind → ⊥
not_short (ShortPayload expected found) other is = other expected found refl
not_short _ other is = is

-- the place of a section, before and after it
abbrev pub same : {A : Type 0} → A → Variable A
same x = record { before = x; after = x }

pub found_part : (limit : ℕ) (t : Bool) (end at : ℕ) (b w car : List ℕ) (is_all : ℕ) (block : Block) (span : SectionSpan) (spans : SectionSpans) (offset : ℕ)
    → at < cond t (2 ^ 64 - 1) end → w ≡ take (min (length b) (cond t (2 ^ 64 - 1) end - at)) b → Continues at b is_all car
    → SpansSection w 0 block span → length (content_of block) ≤ limit → span.cid < span.block → span.block ≤ span.end → span.end ≤ length w
    → FindsWithin limit (record { car = car; at = at; end = cond t (length car) end }) 0
    (record {
      before = spans;
      after = spans_from at (record { offset = span.cid; len = span.block - span.cid }) (record { offset = span.block; len = span.end - span.block }) (at + span.end);
    })
    (same offset)
found_part limit t end at b w car is_all block span spans offset less is k f few first second third =
    let s = stands t end at b w car is_all less is k in
    inl (
      refl,
      room_there at (cond t (length car) end) car
          (whole_some w (between at (cond t (length car) end) car) (cond t (2 ^ 64 - 1) end - at) (cond t (length car) end - at) is_all s (omega arith)),
      (
        block,
        (
          section_whole w (between at (cond t (length car) end) car) (cond t (2 ^ 64 - 1) end - at) (cond t (length car) end - at) is_all at block span s f,
          omega arith,
          omega arith,
        ),
        few,
      ),
      refl,
    )

pub fault_part : (limit : ℕ) (t : Bool) (end at : ℕ) (b w car : List ℕ) (is_all : ℕ) (kind : CarErrorKind) (place status offset : ℕ) (spans : SectionSpans)
    → at < cond t (2 ^ 64 - 1) end → w ≡ take (min (length b) (cond t (2 ^ 64 - 1) end - at)) b → Continues at b is_all car
    → (IsShort kind → ⊥) → LimitFault limit w (cond t (2 ^ 64 - 1) end - at) kind place → status ≡ car_status kind
    → FindsWithin limit (record { car = car; at = at; end = cond t (length car) end }) status (same spans) (record { before = offset; after = at + place })
fault_part limit t end at b w car is_all kind place status offset spans less is k other f status_is =
    let s = stands t end at b w car is_all less is k in
    inr (inr (
      record { kind = kind; section = at; offset = at + place },
      room_there at (cond t (length car) end) car
          (whole_some w (between at (cond t (length car) end) car) (cond t (2 ^ 64 - 1) end - at) (cond t (length car) end - at) is_all s
          (some_fault limit w (cond t (2 ^ 64 - 1) end - at) kind place (omega arith) other f)),
      record {
        place = place;
        section = refl;
        offset = refl;
        why = fault_whole limit w (between at (cond t (length car) end) car) (cond t (2 ^ 64 - 1) end - at) (cond t (length car) end - at) is_all kind place s other f;
      },
      status_is,
      refl,
      refl,
    ))

pub short_part : (limit : ℕ) (t : Bool) (end at : ℕ) (b w car : List ℕ) (is_all place expected found status offset : ℕ) (spans : SectionSpans) → t ≡ false
    → at < cond t (2 ^ 64 - 1) end → w ≡ take (min (length b) (cond t (2 ^ 64 - 1) end - at)) b → Continues at b is_all car
    → (is_all ≡ 0 → ⊥) → LimitFault limit w (cond t (2 ^ 64 - 1) end - at) (ShortPayload expected found) place → status ≡ 104
    → FindsWithin limit (record { car = car; at = at; end = cond t (length car) end }) status (same spans) (record { before = offset; after = at + place })
short_part limit true end at b w car is_all place expected found status offset spans e less is k all f status_is = absurd (cc e)
short_part limit false end at b w car is_all place expected found status offset spans e less is k all f status_is =
    let s = stands false end at b w car is_all less is k in
    inr (inr (
      record { kind = ShortPayload expected found; section = at; offset = at + place },
      less,
      record {
        place = place;
        section = refl;
        offset = refl;
        why = short_whole limit w (between at end car) (end - at) is_all place expected found s all f;
      },
      status_is,
      refl,
      refl,
    ))

pub end_part : (limit : ℕ) (t : Bool) (end at : ℕ) (b w car : List ℕ) (is_all place expected found status offset : ℕ) (spans : SectionSpans) → t ≡ true → 0 < length b
    → at < cond t (2 ^ 64 - 1) end → w ≡ take (min (length b) (cond t (2 ^ 64 - 1) end - at)) b → Continues at b is_all car
    → (is_all ≡ 0 → ⊥) → LimitFault limit w (cond t (2 ^ 64 - 1) end - at) (ShortPayload expected found) place → status ≡ 97
    → FindsWithin limit (record { car = car; at = at; end = cond t (length car) end }) status (same spans) (record { before = offset; after = at + place })
end_part limit false end at b w car is_all place expected found status offset spans e some less is k all f status_is = absurd (cc e)
end_part limit true end at b w car is_all place expected found status offset spans e some less is k all f status_is =
    let s = stands true end at b w car is_all less is k in
    let l = ap length k.parts ∙ length-append k.gone (b ++ k.more) in
    let m = length-append b k.more in
    let g = k.before in
    inr (inr (
      record { kind = UnexpectedEnd; section = at; offset = at + place },
      omega arith,
      record {
        place = place;
        section = refl;
        offset = refl;
        why = end_whole limit at w car (2 ^ 64 - 1 - at) is_all place expected found s all f;
      },
      status_is,
      refl,
      refl,
    ))
