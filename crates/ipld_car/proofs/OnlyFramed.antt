-- A varint and as many bytes as it says that stand next in known bytes are what is taken of them.
use Rattle.std.proofs.Common.{◌≡◌, ℕ, ◌+◌, ◌<◌, ◌≤◌, List, [], ◌++◌, length, take, drop, Option, Some, None, Result, Ok, Err, inl, inr, ◌⊎◌, refl, sym, ap, ◌∙◌, arith, append-nil, length-append}
use Rattle.std.proofs.Math.Seq.{take-append_seam}
use Rattle.std.proofs.lemmas.List.{take-append-le, take-append-drop}
use Rattle.ipld_cid.specs.Varint.{IsVarint, varint_of, read_varint}
use Rattle.ipld_cid.specs.declared.error.CidError.{CidError}
use Rattle.ipld_cid.specs.declared.error.CidError.TheVariants.{End, NotShortest as VarintNotShortest, VarintTooLarge}
use Rattle.ipld_cid.proofs.Varints.{varint_alone, read_varint-varint_of, varint_cut}
use Rattle.ipld_car.specs.declared.error.CarErrorKind.{CarErrorKind}
use Rattle.ipld_car.specs.declared.error.CarErrorKind.TheVariants.{Memory, Read, UnexpectedEnd, LengthNotShortest, LengthTooLarge, Empty, TooLong}
use Rattle.ipld_car.specs.Framing.{IsCut, FramingFault}
use Rattle.ipld_car.specs.Taking.{Ends, IsReaderError}

-- what a read varint is
abbrev pub Reading : Type 0
Reading = Result (ℕ × List ℕ) CidError

pub not_both : (n : ℕ) (rest : List ℕ) (error : CidError) (r : Reading) → r ≡ Ok (n, rest) → r ≡ Err error → ⊥
not_both n rest error r p q = let both = sym p ∙ q in cc

abbrev pub number_in : Reading → ℕ
number_in (Ok p) = p.0
number_in (Err e) = 0

abbrev pub rest_in : Reading → List ℕ
rest_in (Ok p) = p.1
rest_in (Err e) = []

-- the varint at the front of bytes is read
pub varint_read : (n : ℕ) (size rest bytes : List ℕ) → IsVarint n size → bytes ≡ size ++ rest → read_varint bytes ≡ Ok (n, rest)
varint_read n size rest bytes v e = ap read_varint (e ∙ ap (λ l. l ++ rest) (varint_alone n size v)) ∙ read_varint-varint_of n rest v.below

-- of two lists that go on to the same the longer begins with the shorter
front_of : (xs ys a b : List ℕ) → xs ++ a ≡ ys ++ b → length xs ≤ length ys → ys ≡ xs ++ drop (length xs) ys
front_of xs ys a b e few =
    let front : take (length xs) ys ≡ xs = sym (take-append-le (length xs) ys b few) ∙ ap (take (length xs)) (sym e) ∙ take-append_seam xs a in
    sym (take-append-drop (length xs) ys) ∙ ap (λ l. l ++ drop (length xs) ys) front

pub same_front : (xs ys a b : List ℕ) → xs ++ a ≡ ys ++ b → length xs ≡ length ys → xs ≡ ys
same_front xs ys a b e same = sym (take-append_seam xs a) ∙ ap (take (length xs)) e ∙ ap (λ n. take n (ys ++ b)) same ∙ take-append_seam ys b

-- of the same bytes a varint and as many bytes as it says are the same
pub same_frame : (n m : ℕ) (size content rest size_too content_too rest_too : List ℕ) → IsVarint n size → IsVarint m size_too → length content ≡ n → length content_too ≡ m
    → size ++ (content ++ rest) ≡ size_too ++ (content_too ++ rest_too) → (size ≡ size_too) × (content ≡ content_too)
same_frame n m size content rest size_too content_too rest_too v w sized sized_too e =
    let first = varint_read n size (content ++ rest) (size ++ (content ++ rest)) v refl in
    let second = varint_read m size_too (content_too ++ rest_too) (size ++ (content ++ rest)) w e in
    let same : n ≡ m = ap number_in (sym first ∙ second) in (
      varint_alone n size v ∙ ap varint_of same ∙ sym (varint_alone m size_too w),
      same_front content content_too rest rest_too (ap rest_in (sym first ∙ second)) (sized ∙ same ∙ sym sized_too),
    )

-- known bytes begin with a varint and the content whose length it is, and some of them were taken
pub record StandsNext (limit room : ℕ) (content taken left : List ℕ) : Type 0 where
  pub size : List ℕ
  pub rest : List ℕ
  pub sized : IsVarint (length content) size
  pub some : 0 < length content
  pub within_limit : length content ≤ limit
  pub within_room : length size + length content ≤ room
  pub taken_is : taken ++ left ≡ size ++ (content ++ rest)

-- the bytes that were taken have the whole length, or end before it does
length_or_cut : (limit room : ℕ) (content taken left : List ℕ) → (s : StandsNext limit room content taken left)
    → ((middle : List ℕ) × (read_varint taken ≡ Ok (length content, middle)) × (content ++ s.rest ≡ middle ++ left)) ⊎ (read_varint taken ≡ Err End)
length_or_cut limit room content taken left s =
    let alone : s.size ≡ varint_of (length content) = varint_alone (length content) s.size s.sized in
    elim (varint_cut (length content) taken left (content ++ s.rest) s.sized.below (s.taken_is ∙ ap (λ l. l ++ (content ++ s.rest)) alone)) [
      | inl w ↦ inl (w.0, ap read_varint w.1 ∙ read_varint-varint_of (length content) w.0 s.sized.below, w.2)
      | inr end ↦ inr end
    ]

-- another length is read of the bytes that were taken: it is the same
same_length : (limit room n : ℕ) (content taken left size middle : List ℕ) → (s : StandsNext limit room content taken left) → IsVarint n size → taken ≡ size ++ middle
    → (n ≡ length content) × (content ++ s.rest ≡ middle ++ left)
same_length limit room n content taken left size middle s v e =
    let read : read_varint taken ≡ Ok (n, middle) = varint_read n size middle taken v e in
    elim (length_or_cut limit room content taken left s) [
      | inl w ↦ (ap number_in (sym read ∙ w.1), w.2 ∙ ap (λ r. rest_in r ++ left) (sym w.1 ∙ read))
      | inr end ↦ absurd (not_both n middle End (read_varint taken) read end)
    ]

-- as many bytes are the same
pub same_content : (limit room : ℕ) (content taken left size middle : List ℕ) → (s : StandsNext limit room content taken left) → IsVarint (length middle) size
    → taken ≡ size ++ middle → content ≡ middle
same_content limit room content taken left size middle s v e =
    let same = same_length limit room (length middle) content taken left size middle s v e in same_front content middle s.rest left same.1 (sym same.0)

abbrev unwrapped : Option (List ℕ) → List ℕ
unwrapped (Some xs) = xs
unwrapped None = []

-- enough bytes were taken
pub long_enough : (limit room : ℕ) (content taken left : List ℕ) (new : Option (List ℕ)) (bytes : List ℕ) → (s : StandsNext limit room content taken left) → new ≡ Some left
    → Ends room (Some bytes) new taken → length s.size + length content ≤ length taken
long_enough limit room content taken left new bytes s is (inl full) = let w = s.within_room in omega arith
long_enough limit room content taken left new bytes s is (inr out) =
    let none : left ≡ [] = ap unwrapped (sym is ∙ out) in
    let e = ap length s.taken_is in
    let a = length-append taken left in
    let b = length-append s.size (content ++ s.rest) in
    let c = length-append content s.rest in
    let d : length left ≡ 0 = ap length none in omega arith

-- enough bytes have the length
whole_length : (limit room : ℕ) (content taken left : List ℕ) → (s : StandsNext limit room content taken left) → length s.size + length content ≤ length taken
    → read_varint taken ≡ Err End → ⊥
whole_length limit room content taken left s long end =
    let front = front_of s.size taken (content ++ s.rest) left (sym s.taken_is) (omega arith) in
    not_both (length content) (drop (length s.size) taken) End (read_varint taken) (varint_read (length content) s.size (drop (length s.size) taken) taken s.sized front) end

-- they aren't cut
pub not_cut : (limit room : ℕ) (content taken left : List ℕ) → (s : StandsNext limit room content taken left) → length s.size + length content ≤ length taken
    → IsCut limit taken → ⊥
not_cut limit room content taken left s long (inl begins) = whole_length limit room content taken left s long begins
not_cut limit room content taken left s long (inr c) =
    let same = same_length limit room c.total content taken left c.size c.content s c.size_encoded c.encoded in
    let sized : length c.size ≡ length s.size =
    ap length (varint_alone c.total c.size c.size_encoded) ∙ ap (λ n. length (varint_of n)) same.0 ∙ sym (ap length (varint_alone (length content) s.size s.sized)) in
    let e = ap length c.encoded ∙ length-append c.size c.content in
    let short = c.short in
    let is = same.0 in omega arith

-- no other error than the end of the bytes
varint_whole : (limit room : ℕ) (content taken left : List ℕ) (error : CidError) → StandsNext limit room content taken left → read_varint taken ≡ Err error → error ≡ End
varint_whole limit room content taken left error s wrong = elim (length_or_cut limit room content taken left s) [
  | inl w ↦ absurd (not_both (length content) w.0 error (read_varint taken) w.1 wrong)
  | inr end ↦ let both = sym wrong ∙ end in cc
]

-- nothing is at fault
pub no_framing_fault : (limit room : ℕ) (content taken left bytes : List ℕ) (new : Option (List ℕ)) (kind : CarErrorKind) → StandsNext limit room content taken left
    → new ≡ Some left → FramingFault limit room (Some bytes) new taken kind → IsReaderError kind
no_framing_fault limit room content taken left bytes new Memory s is f = tt
no_framing_fault limit room content taken left bytes new (Read error) s is f = f.1
no_framing_fault limit room content taken left bytes new UnexpectedEnd s is f =
    absurd (not_cut limit room content taken left s (long_enough limit room content taken left new bytes s is f.2) f.0)
no_framing_fault limit room content taken left bytes new LengthNotShortest s is f =
    absurd (let no : ◌≡◌ {A = CidError} VarintNotShortest End = varint_whole limit room content taken left VarintNotShortest s f.error_is in cc)
no_framing_fault limit room content taken left bytes new LengthTooLarge s is f =
    absurd (let no : ◌≡◌ {A = CidError} VarintTooLarge End = varint_whole limit room content taken left VarintTooLarge s f.error_is in cc)
no_framing_fault limit room content taken left bytes new Empty s is f =
    absurd (let same = (same_length limit room 0 content taken left taken [] s f (sym (append-nil taken))).0 in let some = s.some in omega arith)
no_framing_fault limit room content taken left bytes new (TooLong n) s is f =
    absurd (let same = (same_length limit room n content taken left taken [] s f.0 (sym (append-nil taken))).0 in let few = s.within_limit in let many = f.1 in omega arith)
no_framing_fault limit room content taken left bytes new _ s is f = absurd f
