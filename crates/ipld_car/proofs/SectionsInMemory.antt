-- A section split off the front of bytes in memory.
use Rattle.std.proofs.Common.{◌≡◌, ℕ, zero, suc, ◌+◌, ◌-◌, ◌^◌, ◌<◌, ◌≤◌, nat_lt, min, Bool, true, false, List, [], ◌∷◌, ◌++◌, length, take, drop, Option, Some, None, Ok, Err, inl, inr, refl, sym, ap, subst, ◌∙◌, arith, append_assoc, append-nil, length-append}
use Rattle.std.proofs.lemmas.Bool.{ltb-true, ltb-false}
use Rattle.std.proofs.lemmas.List.{take-append-drop}
use Rattle.ipld_cid.specs.Bytes.{IsCid, read_cid}
use Rattle.ipld_cid.specs.Cid.{Link}
use Rattle.ipld_cid.specs.Front.{BeginsWith}
use Rattle.ipld_cid.specs.Varint.{IsVarint, read_varint}
use Rattle.ipld_cid.specs.declared.error.CidError.{CidError}
use Rattle.ipld_cid.specs.declared.error.CidError.TheVariants.{End}
use Rattle.ipld_cid.proofs.Encodings.{one_encoding}
use Rattle.ipld_car.specs.declared.error.CarError.{CarError}
use Rattle.ipld_car.specs.declared.error.CarErrorKind.{CarErrorKind}
use Rattle.ipld_car.specs.declared.error.CarErrorKind.TheVariants.{Memory, Read, UnexpectedEnd, ShortPayload, LengthNotShortest, LengthTooLarge, Empty, TooLong, Cid}
use Rattle.ipld_car.specs.declared.span.SectionSpan.{SectionSpan}
use Rattle.ipld_car.specs.Fails.{Fails}
use Rattle.ipld_car.specs.Framing.{IsCut, ReadsFramed, fault_place}
use Rattle.ipld_car.specs.InMemory.{between, SpansSection, SpanFault}
use Rattle.ipld_car.specs.InMemoryTaking.{LooksAt, SplitsSection}
use Rattle.ipld_car.specs.Payload.{end_kind, short_kind, short_payload}
use Rattle.ipld_car.specs.Reading.{TakingFault}
use Rattle.ipld_car.specs.Section.{Block, IsSection, content_of}
use Rattle.ipld_car.specs.Taking.{Ends, IsReaderError, IsOfReader}
use Rattle.ipld_car.proofs.FramedReading.{not_empty}
use Rattle.ipld_car.proofs.FramesInMemory.{drop_len, take_nil}
use Rattle.ipld_car.proofs.LengthsInMemory.{take_len, length_nil}
use Rattle.ipld_car.proofs.OnlySections.{standing, same_block, no_fault}
use Rattle.ipld_car.proofs.Payloads.{same_fault}
use Rattle.ipld_car.proofs.SectionReading.{content_is, unframed}

-- ---- what was looked at

same_some : (xs : List ℕ) → ◌≡◌ {A = Option (List ℕ)} (Some xs) (Some []) → xs ≡ []
same_some xs e = cc

-- bytes behind a place, of those up to another
inner : (w : List ℕ) (start taken : ℕ) → start ≤ taken → drop start (take taken w) ≡ take (taken - start) (drop start w)
inner w zero taken few = let same : taken ≡ taken - 0 = omega arith in ap (λ (n : ℕ). take n w) same
inner [] (suc start) zero few = absurd (omega arith)
inner [] (suc start) (suc taken) few = sym (take_nil (suc taken - suc start))
inner (x ∷ w) (suc start) zero few = absurd (omega arith)
inner (x ∷ w) (suc start) (suc taken) few =
    let same : taken - start ≡ suc taken - suc start = omega arith in inner w start taken (omega arith) ∙ ap (λ (n : ℕ). take n (drop start w)) same

-- all of the bytes were looked at
pub all_looked : (w : List ℕ) (count : ℕ) → Ends (length w) (Some w) (Some (drop count w)) (take count w) → take count w ≡ w
all_looked w count (inl full) =
    let whole = take-append-drop count w in
    let none : drop count w ≡ [] = length_nil (drop count w) (let l = ap length whole in let a = length-append (take count w) (drop count w) in omega arith) in
    sym (append-nil (take count w)) ∙ ap (λ xs. take count w ++ xs) (sym none) ∙ whole
all_looked w count (inr out) =
    let none : drop count w ≡ [] = same_some (drop count w) out in
    sym (append-nil (take count w)) ∙ ap (λ xs. take count w ++ xs) (sym none) ∙ take-append-drop count w

pub split_none : (w : List ℕ) (at limit count : ℕ) → ReadsFramed limit (length w) (Some w) (Some (drop count w)) (take count w) (Ok None)
    → SplitsSection w at (Ok None)
split_none w at limit count r = sym (all_looked w count (subst (Ends (length w) (Some w) (Some (drop count w))) refl r.1)) ∙ r.0

pub split_some : (w : List ℕ) (at limit start taken : ℕ) (link : Link) (rest : List ℕ) → taken ≤ length w → start ≤ taken
    → ReadsFramed limit (length w) (Some w) (Some (drop taken w)) (take taken w) (Ok (Some start))
    → BeginsWith 64 (take (taken - start) (drop start w)) link rest
    → SplitsSection w at (Ok (Some (record { cid = at + start; block = at + (taken - length rest); end = at + taken })))
split_some w at limit start taken link rest within behind f b =
    let content : f.content ≡ b.front ++ rest = sym (content_is limit (length w) (take taken w) start f) ∙ inner w start taken behind ∙ b.parts in
    let lengths : taken ≡ start + (length b.front + length rest) =
    let a = take_len w taken within in
    let e = ap length f.encoded ∙ length-append f.size f.content in
    let c = ap length content ∙ length-append b.front rest in
    let s = f.starts in omega arith in (
      record { cid = link; bytes = rest },
      record {
        section = take taken w;
        rest = drop taken w;
        parts = sym (take-append-drop taken w);
        is_section = record {
          size = f.size;
          cid = b.front;
          size_encoded = subst (λ xs. IsVarint (length xs) f.size) content f.size_encoded;
          cid_encoded = b.encoded;
          encoded = f.encoded ∙ ap (λ xs. f.size ++ xs) content ∙ sym (append_assoc f.size b.front rest);
        };
        cid_begins = let s = f.starts in omega arith;
        block_begins = omega arith;
        ends = let a = take_len w taken within in omega arith;
      },
    )

pub split_unnamed : (w : List ℕ) (at limit start taken : ℕ) (reason : CidError) (error : CarError) → limit ≡ 2 ^ 64 - 1 → start ≤ taken
    → ReadsFramed limit (length w) (Some w) (Some (drop taken w)) (take taken w) (Ok (Some start))
    → read_cid 64 (take (taken - start) (drop start w)) ≡ Err reason
    → ((link : Link) (rest : List ℕ) → BeginsWith 64 (take (taken - start) (drop start w)) link rest → ⊥)
    → error ≡ record { kind = Cid reason; section = at; offset = at + start } → SplitsSection w at (Err error)
split_unnamed w at limit start taken reason error unlimited behind f read none made = rw made (
  taken,
  record {
    fails = record {
      place = start;
      section = refl;
      offset = refl;
      why = record {
        framed = rw (← unlimited) f;
        error_is = ap (read_cid 64) (inner w start taken behind) ∙ read;
        none = λ link rest b. none link rest (subst (λ xs. BeginsWith 64 xs link rest) (inner w start taken behind) b);
      };
    };
    own = λ no. no;
  },
)

pub split_fails : (w : List ℕ) (at limit count place : ℕ) (kind : CarErrorKind) (error : CarError) → limit ≡ 2 ^ 64 - 1
    → ReadsFramed limit (length w) (Some w) (Some (drop count w)) (take count w) (Err kind) → (IsOfReader kind → ⊥)
    → place ≡ fault_place kind (length (take count w)) → error ≡ record { kind = kind; section = at; offset = at + place } → SplitsSection w at (Err error)
split_fails w at limit count place kind error unlimited f own is made = rw made (
  count,
  record {
    fails = record {
      place = place;
      section = refl;
      offset = refl;
      why = rw is (unframed (2 ^ 64 - 1) (length w) (Some w) (Some (drop count w)) (take count w) kind (rw (← unlimited) f));
    };
    own = own;
  },
)

-- ---- where the bytes end

length_take : (n : ℕ) (xs : List ℕ) → length (take n xs) ≡ min n (length xs)
length_take zero xs = omega (arith, min)
length_take (suc n) [] = omega (arith, min)
length_take (suc n) (x ∷ xs) = let l = length_take n xs in omega (arith, min)

between_len : (at end : ℕ) (car : List ℕ) → length (between at end car) ≡ min (end - at) (length car - at)
between_len at end car = length_take (end - at) (drop at car) ∙ ap (min (end - at)) (drop_len car at)

short_fault : (w : List ℕ) (room size found count place : ℕ) (short : Bool) → nat_lt found size ≡ short
    → (found < size → length w < room) → (size ≤ found → length w ≡ room)
    → TakingFault (2 ^ 64 - 1) (length w) (Some w) (Some (drop count w)) (take count w) UnexpectedEnd place
    → SpanFault w room size found (end_kind short size found) place
short_fault w room size found count place true e less more f =
    let all = all_looked w count f.0.2 in
    ((subst (IsCut (2 ^ 64 - 1)) all f.0.0, f.1 ∙ ap length all), less (ltb-true found size e), refl, refl)
short_fault w room size found count place false e less more f =
    let all = all_looked w count f.0.2 in
    ((subst (IsCut (2 ^ 64 - 1)) all f.0.0, f.1 ∙ ap length all), more (ltb-false found size e))

span_fault : (w : List ℕ) (room size found count : ℕ) (kind : CarErrorKind) (place : ℕ) → (found < size → length w < room) → (size ≤ found → length w ≡ room)
    → (IsOfReader kind → ⊥) → TakingFault (2 ^ 64 - 1) (length w) (Some w) (Some (drop count w)) (take count w) kind place
    → SpanFault w room size found (short_kind size found kind) place
span_fault w room size found count UnexpectedEnd place less more own f = short_fault w room size found count place (nat_lt found size) refl less more f
span_fault w room size found count Memory place less more own f = own tt
span_fault w room size found count (Read error) place less more own f = own tt
span_fault w room size found count LengthNotShortest place less more own f = (take count w, drop count w, sym (take-append-drop count w), f)
span_fault w room size found count LengthTooLarge place less more own f = (take count w, drop count w, sym (take-append-drop count w), f)
span_fault w room size found count Empty place less more own f = (take count w, drop count w, sym (take-append-drop count w), f)
span_fault w room size found count (TooLong n) place less more own f = absurd (let b = f.0.0.below in let l = f.0.1 in omega arith)
span_fault w room size found count (Cid error) place less more own f = (take count w, drop count w, sym (take-append-drop count w), f)
span_fault w room size found count _ place less more own f = absurd f.0

-- how the bytes end, by the lengths
ends_less : (at end start : ℕ) (car : List ℕ) → at < end → start ≤ at → length car - start < end - start → length (between at end car) < end - at
ends_less at end start car in_front behind short = let l = between_len at end car in omega (arith, min)

ends_more : (at end start : ℕ) (car : List ℕ) → at < end → start ≤ at → end - start ≤ length car - start → length (between at end car) ≡ end - at
ends_more at end start car in_front behind whole = let l = between_len at end car in omega (arith, min)

pub section_fault : (at end start size found count : ℕ) (car : List ℕ) (error : CarError) → at < end → start ≤ at → size ≡ end - start → found ≡ length car - start
    → LooksAt (between at end car) at count error
    → Fails at (SpanFault (between at end car) (end - at) size found) (short_payload size found error)
section_fault at end start size found count car error in_front behind s f looks = record {
  place = looks.fails.place;
  section = looks.fails.section;
  offset = looks.fails.offset;
  why = span_fault (between at end car) (end - at) size found count error.kind looks.fails.place
      (λ short. ends_less at end start car in_front behind (rw (← s, ← f) short))
      (λ whole. ends_more at end start car in_front behind (rw (← s, ← f) whole)) looks.own looks.fails.why;
}

nothing : read_varint [] ≡ Err End
unfolding read_varint
nothing = refl

pub section_missing : (at end start size found : ℕ) (car : List ℕ) (error : CarError) → at < end → start ≤ at → size ≡ end - start → found ≡ length car - start
    → between at end car ≡ [] → error ≡ record { kind = ShortPayload size found; section = at; offset = at + 0 }
    → Fails at (SpanFault (between at end car) (end - at) size found) error
section_missing at end start size found car error in_front behind s f none made = rw (made, none) (record {
  place = 0;
  section = refl;
  offset = refl;
  why = ((inl nothing, refl), omega arith, refl, refl);
})

-- ---- a section that stands there

some_varint : (n : ℕ) (bytes : List ℕ) → IsVarint n bytes → 0 < length bytes
some_varint n [] v = absurd v.encoded
some_varint n (b ∷ bytes) v = omega arith

some_cid : (bytes : List ℕ) (link : Link) → IsCid 64 bytes link → 0 < length bytes
some_cid bytes link (inl v0) = let e = ap length v0.encoded in omega arith
some_cid bytes link (inr v1) =
    let e = ap length v1.encoded ∙ length-append (v1.version ++ v1.codec ++ v1.code ++ v1.size) link.digest in
    let digest_behind = length-append (v1.version ++ v1.codec ++ v1.code) v1.size in
    let size_behind = length-append (v1.version ++ v1.codec) v1.code in
    let code_behind = length-append v1.version v1.codec in
    let some = some_varint 1 v1.version v1.version_encoded in omega arith

-- its parts come one after the other, within the bytes
pub parts_inside : (at end : ℕ) (car : List ℕ) (span : SectionSpan) (block : Block) → at < end → SpansSection (between at end car) at block span
    → (at < span.cid) × (span.cid < span.block) × (span.block ≤ span.end) × (span.end ≤ end) × (span.end ≤ length car)
parts_inside at end car span block in_front s =
    let size = some_varint (length (s.is_section.cid ++ block.bytes)) s.is_section.size s.is_section.size_encoded in
    let cid = some_cid s.is_section.cid block.cid s.is_section.cid_encoded in
    let section = ap length s.is_section.encoded ∙ length-append (s.is_section.size ++ s.is_section.cid) block.bytes in
    let front = length-append s.is_section.size s.is_section.cid in
    let all = sym (between_len at end car) ∙ ap length s.parts ∙ length-append s.section s.rest in
    let c = s.cid_begins in
    let b = s.block_begins in
    let e = s.ends in
    (omega arith, omega arith, omega arith, omega (arith, min), omega (arith, min))

limited : (section : List ℕ) (block : Block) → IsSection section block → length (content_of block) ≤ 2 ^ 64 - 1
limited section block s =
    let e = ap (λ xs. length (xs ++ block.bytes)) (one_encoding 64 s.cid block.cid s.cid_encoded) in let b = s.size_encoded.below in omega arith

pub only_span : (w : List ℕ) (at : ℕ) (span : SectionSpan) (found : Block) → SpansSection w at found span → (block : Block) (section rest : List ℕ)
    → w ≡ section ++ rest → IsSection section block → SpansSection w at block span
only_span w at span found s block section rest parts is =
    subst (λ b. SpansSection w at b span)
    (same_block (length (content_of block)) (length section) block found s.section s.rest
    (standing (length (content_of block)) (length section) block section rest s.section s.rest is (omega arith) (omega arith) (sym parts ∙ s.parts)) s.is_section)
    s

pub none_there : (w : List ℕ) → w ≡ [] → (block : Block) (section rest : List ℕ) → w ≡ section ++ rest → IsSection section block → ⊥
none_there w none block section rest parts is =
    not_empty (length (is.cid ++ block.bytes)) is.size (is.cid ++ block.bytes ++ rest) w is.size_encoded
    (parts ∙ ap (λ xs. xs ++ rest) (is.encoded ∙ append_assoc is.size is.cid block.bytes) ∙ append_assoc is.size (is.cid ++ block.bytes) rest) none

of_reader : (kind : CarErrorKind) → IsReaderError kind → IsOfReader kind
of_reader Memory e = tt
of_reader (Read error) e = tt
of_reader _ e = absurd e

pub no_fault_there : (w : List ℕ) (at count : ℕ) (error : CarError) → LooksAt w at count error → (block : Block) (section rest : List ℕ)
    → w ≡ section ++ rest → IsSection section block → ⊥
no_fault_there w at count error looks block section rest parts is =
    looks.own (of_reader error.kind (no_fault (2 ^ 64 - 1) (length w) block (take count w) (drop count w) w (Some (drop count w)) error.kind looks.fails.place
    (standing (2 ^ 64 - 1) (length w) block section rest (take count w) (drop count w) is (limited section block is)
    (let l = ap length parts ∙ length-append section rest in omega arith) (sym parts ∙ sym (take-append-drop count w)))
    refl (same_fault (2 ^ 64 - 1) (length w) (Some w) (Some (drop count w)) (take count w) error.kind looks.fails.place looks.fails.why)))
