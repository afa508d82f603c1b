-- What reading an index says of its bytes, put together.
use Rattle.std.proofs.Common.{◌≡◌, ◌≢◌, ◌≤◌, ◌<◌, ◌+◌, ◌*◌, ◌-◌, ◌/◌, ◌%◌, ◌^◌, ℕ, List, [], ◌∷◌, ◌++◌, length, take, Option, Some, None, Result, Ok, Err, IfErr, refl, sym, ap, ◌∙◌, subst, append_assoc, append-nil, add-zero, arith}
use Rattle.std.specs.Io.KnownBytes.{Consumes, IsAtEnd}
use Rattle.std.proofs.KnownBytes.{Consumes-nil, Consumes-trans}
use Rattle.std.proofs.Math.Nat.{div-add-mod, mul-mod_right}
use Rattle.std.proofs.lemmas.List.{length-append}
use Rattle.ipld_cid.specs.Multihash.{HashParts}
use Rattle.ipld_car.specs.Index.{row, rows, format_code}
use Rattle.ipld_car.specs.IndexLayout.{IsBucket, Parts, IsHash, IsPart}
use Rattle.ipld_car.specs.IndexNumbers.{le32, le64}
use Rattle.ipld_car.specs.IndexReading.{TakesRows, TakesPart, AreInOrder, AreRows}
use Rattle.ipld_car.specs.IndexErrors.{Blames, EndsWithin, IsUnsorted, FirstWrong, WrongRow, row_ends, unsorted, WrongBucket, width_ends, wrong_width, length_ends, wrong_length, wrong_row, WrongHash, hash_ends, wrong_bucket, WrongPart, WrongFormat, WrongIndex, wrong_format, count_ends, wrong_part}
use Rattle.ipld_car.proofs.index.Taking.{ordered_none}
use Rattle.ipld_car.specs.declared.index.entry.IndexEntry.{IndexEntry}
use Rattle.ipld_car.specs.declared.index.error.IndexError.{IndexError}
use Rattle.ipld_car.specs.declared.index.format.IndexFormat.{IndexFormat}
use Rattle.ipld_car.specs.declared.index.error.IndexError.TheVariants.{Memory, Read, UnexpectedEnd, FormatNotShortest, FormatTooLarge, Format, Width, Length, NotSorted}
use Rattle.ipld_car.proofs.index.Taking.{state_of}

-- ---- known bytes

-- what is wrong behind bytes that were taken is wrong with all
pub blames_behind : (W V : List ℕ → IndexError → Type 0) (old mid : Option (List ℕ)) (taken : List ℕ) (error : IndexError) → Consumes old mid taken
    → ((rest : List ℕ) → W rest error → V (taken ++ rest) error) → Blames W mid error → Blames V old error
blames_behind W V old mid taken Memory p f b = tt
blames_behind W V old mid taken (Read failure) p f b = b
blames_behind W V None mid taken error p f b = tt
blames_behind W V (Some xs) None taken error p f b = absurd p
blames_behind W V (Some xs) (Some ys) taken error p f b = subst (λ l. V l error) (sym p) (f ys b)

-- the error is one of the bytes, and of no reader
abbrev pub IsOfBytes : IndexError → Type 0
IsOfBytes (Read error) = ⊥
IsOfBytes _ = Unit {0}

-- what was taken shows what is wrong
pub blames_here : (V : List ℕ → IndexError → Type 0) (old mid : Option (List ℕ)) (taken : List ℕ) (error : IndexError) → IsOfBytes error → Consumes old mid taken
    → ((rest : List ℕ) → V (taken ++ rest) error) → Blames V old error
blames_here V old mid taken Memory own p f = tt
blames_here V old mid taken (Read failure) own p f = absurd own
blames_here V None mid taken error own p f = tt
blames_here V (Some xs) None taken error own p f = absurd p
blames_here V (Some xs) (Some ys) taken error own p f = subst (λ l. V l error) (sym p) (f ys)

-- they end before so many bytes
pub blames_end : (V : List ℕ → IndexError → Type 0) (count : ℕ) (old mid : Option (List ℕ)) (taken : List ℕ) (error : IndexError) → Consumes old mid taken
    → ((rest : List ℕ) → length rest < count → V (taken ++ rest) UnexpectedEnd) → EndsWithin count mid error → Blames V old error
blames_end V count old mid taken Memory p f e = tt
blames_end V count old mid taken (Read failure) p f e = e
blames_end V count None mid taken UnexpectedEnd p f e = tt
blames_end V count (Some xs) None taken UnexpectedEnd p f e = absurd p
blames_end V count (Some xs) (Some ys) taken UnexpectedEnd p f e = subst (λ l. V l UnexpectedEnd) (sym p) (f ys e)
blames_end V count old mid taken FormatNotShortest p f e = absurd e
blames_end V count old mid taken FormatTooLarge p f e = absurd e
blames_end V count old mid taken (Format code) p f e = absurd e
blames_end V count old mid taken (Width width) p f e = absurd e
blames_end V count old mid taken (Length len) p f e = absurd e
blames_end V count old mid taken NotSorted p f e = absurd e

-- the reader is at its end, and fewer bytes were taken
pub ends_within : (count n : ℕ) (old mid new : Option (List ℕ)) (taken buffer : List ℕ) → Consumes old mid taken → Consumes mid new (take n buffer) → n ≡ 0 → IsAtEnd new
    → length taken < count → EndsWithin count old UnexpectedEnd
ends_within count n None mid new taken buffer p q none end few = tt
ends_within count n (Some xs) None new taken buffer p q none end few = absurd p
ends_within count n (Some xs) (Some ys) None taken buffer p q none end few = absurd q
ends_within count n (Some xs) (Some ys) (Some zs) taken buffer p q none end few =
    let empty : ys ≡ [] = q ∙ ap (λ k. take k buffer ++ zs) none ∙ end in
    let all : xs ≡ taken = p ∙ ap (λ l. taken ++ l) empty ∙ append-nil taken in
    subst (λ n. n < count) (sym (ap length all)) few

-- they end before any of so many bytes
pub blames_end_now : (V : List ℕ → IndexError → Type 0) (count : ℕ) (old : Option (List ℕ)) (error : IndexError)
    → ((bytes : List ℕ) → length bytes < count → V bytes UnexpectedEnd) → EndsWithin count old error → Blames V old error
blames_end_now V count old error f e = blames_end V count old old [] error (Consumes-nil old) f e

-- ---- rows

row_unsorted : (code digest_len offset : ℕ) (digest : List ℕ) (hash : HashParts) (old mid new : Option (List ℕ)) (before : List IndexEntry) (error : IndexError)
    → Consumes old mid digest → Consumes mid new (le64 offset) → offset < 2 ^ 64 → hash ≡ record { code = code; digest = digest } → length digest ≡ digest_len
    → IsUnsorted (before ++ record { hash = hash; offset = offset } ∷ []) error → Blames (WrongRow code digest_len before) old error
unfolding row
row_unsorted code digest_len offset digest hash old mid new before Memory p q fits is long u = tt
row_unsorted code digest_len offset digest hash old mid new before (Read failure) p q fits is long u = absurd u
row_unsorted code digest_len offset digest hash old mid new before UnexpectedEnd p q fits is long u = absurd u
row_unsorted code digest_len offset digest hash old mid new before FormatNotShortest p q fits is long u = absurd u
row_unsorted code digest_len offset digest hash old mid new before FormatTooLarge p q fits is long u = absurd u
row_unsorted code digest_len offset digest hash old mid new before (Format other) p q fits is long u = absurd u
row_unsorted code digest_len offset digest hash old mid new before (Width width) p q fits is long u = absurd u
row_unsorted code digest_len offset digest hash old mid new before (Length len) p q fits is long u = absurd u
row_unsorted code digest_len offset digest hash None mid new before NotSorted p q fits is long u = tt
row_unsorted code digest_len offset digest hash (Some xs) mid None before NotSorted p q fits is long u = absurd (Consumes-trans (Some xs) mid None digest (le64 offset) p q)
row_unsorted code digest_len offset digest hash (Some xs) mid (Some zs) before NotSorted p q fits is long u =
    let entry : IndexEntry = record { hash = hash; offset = offset } in
    let all : xs ≡ row entry ++ zs = Consumes-trans (Some xs) mid (Some zs) digest (le64 offset) p q ∙ ap (λ (h : HashParts). h.digest ++ le64 offset ++ zs) (sym is) in
    subst (λ l. WrongRow code digest_len before l NotSorted) (sym all)
    (unsorted entry zs (ap (λ (h : HashParts). h.code) is, ap (λ (h : HashParts). length h.digest) is ∙ long) fits u)

pub row_blames : (r : Result (Unit {0}) IndexError) (code digest_len offset : ℕ) (digest : List ℕ) (hash : HashParts) (old mid new : Option (List ℕ)) (before : List IndexEntry)
    → Consumes old mid digest → Consumes mid new (le64 offset) → offset < 2 ^ 64 → hash ≡ record { code = code; digest = digest } → length digest ≡ digest_len
    → IfErr r (IsUnsorted (before ++ record { hash = hash; offset = offset } ∷ [])) → IfErr r (Blames (WrongRow code digest_len before) old)
row_blames (Ok done) code digest_len offset digest hash old mid new before p q fits is long u = tt
row_blames (Err error) code digest_len offset digest hash old mid new before p q fits is long u =
    row_unsorted code digest_len offset digest hash old mid new before error p q fits is long u

pub row_cut : (code digest_len : ℕ) (old : Option (List ℕ)) (before : List IndexEntry) (error : IndexError) → EndsWithin digest_len old error
    → Blames (WrongRow code digest_len before) old error
row_cut code digest_len old before error ends =
    blames_end_now (WrongRow code digest_len before) digest_len old error (λ bytes few. row_ends bytes (omega arith)) ends

pub offset_cut : (code digest_len : ℕ) (digest : List ℕ) (old mid : Option (List ℕ)) (before : List IndexEntry) (error : IndexError) → Consumes old mid digest
    → length digest ≡ digest_len → EndsWithin 8 mid error → Blames (WrongRow code digest_len before) old error
offset_cut code digest_len digest old mid before error p long ends =
    blames_end (WrongRow code digest_len before) 8 old mid digest error p
    (λ rest few. let all = length-append digest rest in row_ends (digest ++ rest) (omega arith)) ends

-- ---- so many parts

module _ (AreParts : ℕ → List ℕ → List IndexEntry → Type 0) (IsWrongPart : List IndexEntry → List ℕ → IndexError → Type 0) where
  part_wrong : (count right : ℕ) (bytes : List ℕ) (entries : List IndexEntry) (old mid : Option (List ℕ)) (before between : List IndexEntry) (error : IndexError)
      → Consumes old mid bytes → AreParts right bytes entries → between ≡ before ++ entries → right < count → AreInOrder between → Blames (IsWrongPart between) mid error
      → Blames (FirstWrong AreParts IsWrongPart count before) old error
  part_wrong count right bytes entries old mid before between error p a behind fewer o b =
      blames_behind (IsWrongPart between) (FirstWrong AreParts IsWrongPart count before) old mid bytes error p
      (λ rest w. record {
        right = right;
        front = bytes;
        back = rest;
        entries = entries;
        fewer = fewer;
        are_parts = a;
        in_order = subst AreInOrder behind o;
        is_wrong = subst (λ l. IsWrongPart l rest error) behind w;
        split = refl;
      }) b

pub rows_blame : (code digest_len count left len : ℕ) (old mid : Option (List ℕ)) (before between : List IndexEntry) (error : IndexError) → len ≡ digest_len
    → TakesRows code digest_len (count - left) (state_of old before) (state_of mid between) → left ≤ count → 0 < left → Blames (WrongRow code len between) mid error → AreInOrder before
    → Blames (FirstWrong (AreRows code digest_len) (WrongRow code digest_len) count before) old error
rows_blame code digest_len count left len old mid before between error is t few some b o =
    part_wrong (AreRows code digest_len) (WrongRow code digest_len) count (count - left) (rows t.entries) t.entries old mid before between error t.consumed
    (refl, t.counted, t.own) t.behind (omega arith) (t.in_order o) (subst (λ n. Blames (WrongRow code n between) mid error) is b)

pub parts_blame : (IsPart : List ℕ → List IndexEntry → Type 0) (IsWrongPart : List IndexEntry → List ℕ → IndexError → Type 0) (count left : ℕ) (old mid : Option (List ℕ))
    (before between : List IndexEntry) (error : IndexError) → TakesPart (Parts IsPart (count - left)) (state_of old before) (state_of mid between) → left ≤ count → 0 < left
    → (AreInOrder between → Blames (IsWrongPart between) mid error) → AreInOrder before → Blames (FirstWrong (Parts IsPart) IsWrongPart count before) old error
parts_blame IsPart IsWrongPart count left old mid before between error t few some b o =
    part_wrong (Parts IsPart) IsWrongPart count (count - left) t.bytes t.entries old mid before between error t.consumed t.is_part t.behind (omega arith) (t.in_order o)
    (b (t.in_order o))

-- ---- the parts of an index

module _ (code : ℕ) (before : List IndexEntry) where
  pub width_cut : (old : Option (List ℕ)) (error : IndexError) → EndsWithin 4 old error → Blames (WrongBucket code before) old error
  width_cut old error ends = blames_end_now (WrongBucket code before) 4 old error (λ bytes few. width_ends bytes few) ends

  pub width_narrow : (width : ℕ) (old one : Option (List ℕ)) → Consumes old one (le32 width) → width < 2 ^ 32 → width < 8 → Blames (WrongBucket code before) old (Width width)
  width_narrow width old one p low narrow =
      blames_here (WrongBucket code before) old one (le32 width) (Width width) tt p (λ rest. wrong_width width rest low (λ digest_len short is. omega arith))

  pub width_wide : (width : ℕ) (old one : Option (List ℕ)) → Consumes old one (le32 width) → width < 2 ^ 32 → 72 < width → Blames (WrongBucket code before) old (Width width)
  width_wide width old one p low wide =
      blames_here (WrongBucket code before) old one (le32 width) (Width width) tt p (λ rest. wrong_width width rest low (λ digest_len short is. omega arith))

  pub length_cut : (width digest_len : ℕ) (old one : Option (List ℕ)) (error : IndexError) → Consumes old one (le32 width) → width ≡ digest_len + 8 → digest_len ≤ 64
      → EndsWithin 8 one error → Blames (WrongBucket code before) old error
  length_cut width digest_len old one error p wide short ends =
      blames_end (WrongBucket code before) 8 old one (le32 (digest_len + 8)) error (subst (λ w. Consumes old one (le32 w)) wide p)
      (λ rest few. length_ends digest_len rest short few) ends

  pub length_uneven : (width len digest_len : ℕ) (old one two : Option (List ℕ)) → Consumes old one (le32 width) → Consumes one two (le64 len) → width ≡ digest_len + 8
      → digest_len ≤ 64 → len < 2 ^ 64 → len % width ≢ 0 → Blames (WrongBucket code before) old (Length len)
  length_uneven width len digest_len old one two p q wide short fits uneven =
      blames_here (WrongBucket code before) old two (le32 (digest_len + 8) ++ le64 len) (Length len) tt
      (Consumes-trans old one two (le32 (digest_len + 8)) (le64 len) (subst (λ w. Consumes old one (le32 w)) wide p) q)
      (λ rest. subst (λ l. WrongBucket code before l (Length len)) (sym (append_assoc (le32 (digest_len + 8)) (le64 len) rest))
      (wrong_length digest_len len rest short fits (λ count is. uneven (ap (λ n. n % width) (is ∙ ap (λ n. n * count) (sym wide)) ∙ mul-mod_right width count))))

  pub bucket_blames : (width len digest_len count : ℕ) (old one two : Option (List ℕ)) (r : Result (Unit {0}) IndexError) → Consumes old one (le32 width)
      → Consumes one two (le64 len) → width ≡ digest_len + 8 → digest_len ≤ 64 → len % width ≡ 0 → count ≡ len / width → len < 2 ^ 64
      → IfErr r (λ error. AreInOrder before → Blames (FirstWrong (AreRows code digest_len) (WrongRow code digest_len) count before) two error)
      → IfErr r (λ error. AreInOrder before → Blames (WrongBucket code before) old error)
  bucket_blames width len digest_len count old one two (Ok done) p q wide short even counted fits b = tt
  bucket_blames width len digest_len count old one two (Err error) p q wide short even counted fits b = λ o.
      let long : len ≡ width * count = sym (div-add-mod len width) ∙ ap (λ n. width * (len / width) + n) even ∙ add-zero (width * (len / width)) ∙ ap (λ n. width * n) (sym counted) in
      let total : (digest_len + 8) * count ≡ len = ap (λ n. n * count) (sym wide) ∙ sym long in
      blames_behind (FirstWrong (AreRows code digest_len) (WrongRow code digest_len) count before) (WrongBucket code before) old two (le32 (digest_len + 8) ++ le64 ((digest_len + 8) * count)) error
      (Consumes-trans old one two (le32 (digest_len + 8)) (le64 ((digest_len + 8) * count)) (subst (λ w. Consumes old one (le32 w)) wide p)
      (subst (λ n. Consumes one two (le64 n)) (sym total) q))
      (λ rest w. subst (λ l. WrongBucket code before l error) (sym (append_assoc (le32 (digest_len + 8)) (le64 ((digest_len + 8) * count)) rest))
      (wrong_row digest_len count rest error short (subst (λ n. n < 2 ^ 64) (sym total) fits) w)) (b o)

module _ (before : List IndexEntry) where
  pub code_cut : (old : Option (List ℕ)) (error : IndexError) → EndsWithin 8 old error → Blames (WrongHash before) old error
  code_cut old error ends = blames_end_now (WrongHash before) 8 old error (λ bytes few. hash_ends bytes (omega arith)) ends

  pub count_cut : (code : ℕ) (old one : Option (List ℕ)) (error : IndexError) → Consumes old one (le64 code) → EndsWithin 4 one error → Blames (WrongHash before) old error
  unfolding le64
  count_cut code old one error p ends =
      blames_end (WrongHash before) 4 old one (le64 code) error p
      (λ rest few. let all = length-append (le64 code) rest in hash_ends (le64 code ++ rest) (omega arith)) ends

  pub hash_blames : (code count : ℕ) (old one two : Option (List ℕ)) (r : Result (Unit {0}) IndexError) → Consumes old one (le64 code) → Consumes one two (le32 count)
      → code < 2 ^ 64 → count < 2 ^ 32
      → IfErr r (λ error. AreInOrder before → Blames (FirstWrong (Parts (IsBucket code)) (WrongBucket code) count before) two error)
      → IfErr r (λ error. AreInOrder before → Blames (WrongHash before) old error)
  hash_blames code count old one two (Ok done) p q low few b = tt
  hash_blames code count old one two (Err error) p q low few b = λ o.
      blames_behind (FirstWrong (Parts (IsBucket code)) (WrongBucket code) count before) (WrongHash before) old two (le64 code ++ le32 count) error
      (Consumes-trans old one two (le64 code) (le32 count) p q)
      (λ rest w. subst (λ l. WrongHash before l error) (sym (append_assoc (le64 code) (le32 count) rest)) (wrong_bucket code count rest error low few w)) (b o)

pub index_format : (old : Option (List ℕ)) (error : IndexError) → Blames WrongFormat old error → Blames WrongIndex old error
index_format old error b = blames_behind WrongFormat WrongIndex old old [] error (Consumes-nil old) (λ rest w. wrong_format rest error w) b

pub count_cut_short : (format : IndexFormat) (old one : Option (List ℕ)) (error : IndexError) → Consumes old one (format_code format) → EndsWithin 4 one error → Blames WrongIndex old error
count_cut_short format old one error p ends = blames_end WrongIndex 4 old one (format_code format) error p (λ rest few. count_ends format rest few) ends

pub index_blames : (format : IndexFormat) (count : ℕ) (old one two : Option (List ℕ)) (before : List IndexEntry) (error : IndexError) → Consumes old one (format_code format)
    → Consumes one two (le32 count) → count < 2 ^ 32 → before ≡ []
    → (AreInOrder before → Blames (FirstWrong (Parts (IsPart format)) (WrongPart format) count before) two error) → Blames WrongIndex old error
index_blames format count old one two before error p q few empty b =
    blames_behind (FirstWrong (Parts (IsPart format)) (WrongPart format) count []) WrongIndex old two (format_code format ++ le32 count) error
    (Consumes-trans old one two (format_code format) (le32 count) p q)
    (λ rest w. subst (λ l. WrongIndex l error) (sym (append_assoc (format_code format) (le32 count) rest)) (wrong_part format count rest error few w))
    (subst (λ l. Blames (FirstWrong (Parts (IsPart format)) (WrongPart format) count l) two error) empty (b (ordered_none before empty)))
