-- Known bytes that begin with those of a part of an index are read as its entries.
use Rattle.std.proofs.Common.{◌≡◌, ◌≢◌, ◌≤◌, ◌<◌, ◌+◌, ◌*◌, ◌-◌, ◌/◌, ◌%◌, ◌^◌, ℕ, zero, suc, true, false, slice_get, List, [], ◌∷◌, ◌++◌, length, get_or, Option, Some, None, Result, Ok, Err, MatchResult, OnOk, IfErr, refl, sym, ap, ◌∙◌, subst, append_assoc, append-nil, arith, is_lt}
use Rattle.std.specs.List.{All}
use Rattle.std.specs.Int.{w32, w64, from_le_bytes}
use Rattle.std.specs.Io.KnownBytes.{Consumes}
use Rattle.std.proofs.lemmas.List.{append_cancel_left, get_or_append_left, get_or_push, length-append}
use Rattle.std.proofs.lemmas.Option.{get_or_from_slice_get}
use Rattle.std.proofs.Math.Nat.{mul-div_cancel_left, mul-mod_right}
use Rattle.std.proofs.Math.Seq.{get_or-append_seam}
use Rattle.std.proofs.lemmas.Nat.{from_le_bytes-to_le_bytes_4, from_le_bytes-to_le_bytes_8}
use Rattle.ipld_car.proofs.OnlyFramed.{same_front}
use Rattle.ipld_cid.specs.Multihash.{HashParts}
use Rattle.ipld_car.specs.Index.{row, rows, format_code}
use Rattle.ipld_car.specs.IndexLayout.{IsOf, IsBucket, Parts, none, more, IsHash, IsIndex, IsPart}
use Rattle.ipld_car.specs.IndexNumbers.{le32, le64}
use Rattle.ipld_car.specs.IndexOrder.{AreSorted, entry_cmp}
use Rattle.ipld_car.specs.IndexReading.{AreInOrder, IsOfReader, IsRow, AreRows, ReadsPart, ReadsFormat}
use Rattle.ipld_car.specs.IndexErrors.{EndsWithin, IsUnsorted}
use Rattle.ipld_car.specs.declared.index.entry.IndexEntry.{IndexEntry}
use Rattle.ipld_car.specs.declared.index.error.IndexError.{IndexError}
use Rattle.ipld_car.specs.declared.index.format.IndexFormat.{IndexFormat}
use Rattle.ipld_car.specs.declared.index.format.IndexFormat.TheVariants.{IndexSorted, MultihashIndexSorted}
use Rattle.ipld_car.specs.declared.index.error.IndexError.TheVariants.{Memory, Read, UnexpectedEnd, FormatNotShortest, FormatTooLarge, Format, Width, Length, NotSorted}
use Rattle.ipld_car.proofs.index.Taking.{state_of}

-- ---- the front of known bytes

pub front_taken : (a b back : List ℕ) (old new : Option (List ℕ)) → length b ≡ length a → old ≡ Some (a ++ back) → Consumes old new b → (b ≡ a) × (new ≡ Some back)
front_taken a b back None new long known p = absurd cc
front_taken a b back (Some xs) None long known p = absurd p
front_taken a b back (Some xs) (Some ys) long known p =
    let is : xs ≡ a ++ back = cc in
    let same : b ≡ a = same_front b a ys back (sym p ∙ is) long in
    (same, ap Some (append_cancel_left a ys back (ap (λ l. l ++ ys) (sym same) ∙ sym p ∙ is)))

pub number32_taken : (n m : ℕ) (back : List ℕ) (old new : Option (List ℕ)) → n < 2 ^ 32 → m < 2 ^ 32 → old ≡ Some (le32 n ++ back) → Consumes old new (le32 m)
    → (m ≡ n) × (new ≡ Some back)
unfolding le32
number32_taken n m back old new few low known p =
    let t = front_taken (le32 n) (le32 m) back old new refl known p in
    (sym (from_le_bytes-to_le_bytes_4 m low) ∙ ap (from_le_bytes w32) t.0 ∙ from_le_bytes-to_le_bytes_4 n few, t.1)

pub number64_taken : (n m : ℕ) (back : List ℕ) (old new : Option (List ℕ)) → n < 2 ^ 64 → m < 2 ^ 64 → old ≡ Some (le64 n ++ back) → Consumes old new (le64 m)
    → (m ≡ n) × (new ≡ Some back)
unfolding le64
number64_taken n m back old new few low known p =
    let t = front_taken (le64 n) (le64 m) back old new refl known p in
    (sym (from_le_bytes-to_le_bytes_8 m low) ∙ ap (from_le_bytes w64) t.0 ∙ from_le_bytes-to_le_bytes_8 n few, t.1)

-- known bytes don't end within those that they begin with
pub not_ended : (count : ℕ) (front back : List ℕ) (known : Option (List ℕ)) (error : IndexError) → known ≡ Some (front ++ back) → count ≤ length front
    → EndsWithin count known error → IsOfReader error
not_ended count front back known Memory is long e = tt
not_ended count front back known (Read failure) is long e = e
not_ended count front back None UnexpectedEnd is long e = absurd cc
not_ended count front back (Some xs) UnexpectedEnd is long e =
    let same : xs ≡ front ++ back = cc in
    let sized = ap length same ∙ length-append front back in absurd (omega arith)
not_ended count front back known FormatNotShortest is long e = absurd e
not_ended count front back known FormatTooLarge is long e = absurd e
not_ended count front back known (Format code) is long e = absurd e
not_ended count front back known (Width width) is long e = absurd e
not_ended count front back known (Length len) is long e = absurd e
not_ended count front back known NotSorted is long e = absurd e

-- entries that are sorted are no error
not_unsorted : (entries : List IndexEntry) (error : IndexError) → IsUnsorted entries error → AreSorted entries → IsOfReader error
not_unsorted entries Memory u s = tt
not_unsorted entries (Read failure) u s = absurd u
not_unsorted entries UnexpectedEnd u s = absurd u
not_unsorted entries FormatNotShortest u s = absurd u
not_unsorted entries FormatTooLarge u s = absurd u
not_unsorted entries (Format code) u s = absurd u
not_unsorted entries (Width width) u s = absurd u
not_unsorted entries (Length len) u s = absurd u
not_unsorted entries NotSorted u s = absurd (u s)

-- the first of entries that are sorted are
pub sorted_front : (xs ys : List IndexEntry) → AreSorted (xs ++ ys) → AreSorted xs
sorted_front xs ys s k d low high =
    let long = length-append xs ys in
    ap (λ (x : IndexEntry). is_lt (entry_cmp x (get_or xs k d))) (sym (get_or_append_left xs ys d (k + 1) high))
    ∙ ap (λ (x : IndexEntry). is_lt (entry_cmp (get_or (xs ++ ys) (k + 1) d) x)) (sym (get_or_append_left xs ys d k (omega arith)))
    ∙ s k d low (omega arith)

-- an entry that comes before the last isn't in order behind it
pub not_below : (xs : List IndexEntry) (e last : IndexEntry) → slice_get xs (length xs - 1) ≡ Some last → is_lt (entry_cmp e last) ≡ true → AreSorted (xs ++ e ∷ []) → ⊥
not_below [] e last is low s = let no : None ≡ Some last = is in cc
not_below (x ∷ xs) e last is low s =
    let all = x ∷ xs in
    let at = length all - 1 in
    let long = length-append all (e ∷ []) in
    let before : get_or (all ++ e ∷ []) at last ≡ last = get_or_append_left all (e ∷ []) last at (omega arith) ∙ get_or_from_slice_get all at last last is in
    let behind : get_or (all ++ e ∷ []) (at + 1) last ≡ e = get_or_push all e last (at + 1) (omega arith) in
    let in_order : is_lt (entry_cmp (get_or (all ++ e ∷ []) (at + 1) last) (get_or (all ++ e ∷ []) at last)) ≡ false = s at last (omega arith) (omega arith) in
    let no : true ≡ false = sym low ∙ ap (λ (y : IndexEntry). is_lt (entry_cmp e y)) (sym before)
    ∙ ap (λ (y : IndexEntry). is_lt (entry_cmp y (get_or (all ++ e ∷ []) at last))) (sym behind) ∙ in_order in cc

pub ordered_front : (xs ys : List IndexEntry) → AreInOrder (xs ++ ys) → AreInOrder xs
ordered_front xs ys s = (
  sorted_front xs ys s.0,
  λ k d low. let long = length-append xs ys in subst (λ (e : IndexEntry). e.offset < 2 ^ 64) (get_or_append_left xs ys d k low) (s.1 k d (omega arith)),
)

-- ---- parts

module _ (IsPart : List ℕ → List IndexEntry → Type 0) where
  -- so many parts, one behind the other, the first of them first
  abbrev pub Ahead : ℕ → List ℕ → List IndexEntry → Type 0
  Ahead zero bytes entries = (bytes ≡ []) × (entries ≡ [])
  Ahead (suc n) bytes entries = (part : List ℕ) × (back : List ℕ) × (own : List IndexEntry) × (later : List IndexEntry) × (bytes ≡ part ++ back) × (entries ≡ own ++ later)
      × IsPart part own × Ahead n back later

  ahead_push : (n : ℕ) (front part : List ℕ) (entries own : List IndexEntry) → Ahead n front entries → IsPart part own → Ahead (suc n) (front ++ part) (entries ++ own)
  ahead_push zero front part entries own a p =
      (part, [], own, [], ap (λ l. l ++ part) a.0 ∙ sym (append-nil part), ap (λ l. l ++ own) a.1 ∙ sym (append-nil own), p, (refl, refl))
  ahead_push (suc n) front part entries own (first, back, mine, later, e, f, q, a) p = (
    first,
    back ++ part,
    mine,
    later ++ own,
    ap (λ l. l ++ part) e ∙ append_assoc first back part,
    ap (λ l. l ++ own) f ∙ append_assoc mine later own,
    q,
    ahead_push n back part later own a p,
  )

  pub ahead_of_parts : (n : ℕ) (bytes : List ℕ) (entries : List IndexEntry) → Parts IsPart n bytes entries → Ahead n bytes entries
  ahead_of_parts n bytes entries none = (refl, refl)
  ahead_of_parts n bytes entries (more m front part before own ps p) =
      subst (λ k. Ahead k (front ++ part) (before ++ own)) (let same : suc m ≡ m + 1 = omega arith in same)
      (ahead_push m front part before own (ahead_of_parts m front before ps) p)

  record Next (n : ℕ) (bytes : List ℕ) (entries : List IndexEntry) : Type 0 where
    part : List ℕ
    back : List ℕ
    own : List IndexEntry
    later : List IndexEntry
    is_bytes : bytes ≡ part ++ back
    is_entries : entries ≡ own ++ later
    is_part : IsPart part own
    ahead : Ahead n back later

  next : (n less : ℕ) (bytes : List ℕ) (entries : List IndexEntry) → Ahead n bytes entries → 0 < n → less ≡ n - 1 → Next less bytes entries
  next zero less bytes entries a some is = absurd (omega arith)
  next (suc n) less bytes entries (part, back, own, later, e, f, p, a) some is = record {
    part = part;
    back = back;
    own = own;
    later = later;
    is_bytes = e;
    is_entries = f;
    is_part = p;
    ahead = subst (λ k. Ahead k back later) (let same : n ≡ less = omega arith in same) a;
  }

  -- known bytes go on with so many parts, and then as they did
  pub record StandsAhead (n : ℕ) (rest : List ℕ) (now : Option (List ℕ)) (between all : List IndexEntry) : Type 0 where
    pub back : List ℕ
    pub later : List IndexEntry
    pub ahead : Ahead n back later
    pub known : now ≡ Some (back ++ rest)
    pub same : between ++ later ≡ all

  -- known bytes that began with a whole go on with so many of its parts
  pub record GoesOn (IsWhole : List ℕ → List IndexEntry → Type 0) (n : ℕ) (initial now : Option (List ℕ)) (before between : List IndexEntry) : Type 0 where
    pub goes : (bytes rest : List ℕ) (entries : List IndexEntry) → initial ≡ Some (bytes ++ rest) → IsWhole bytes entries → AreInOrder (before ++ entries)
        → StandsAhead n rest now between (before ++ entries)

  module _ (IsWhole : List ℕ → List IndexEntry → Type 0) where
    pub goes_begin : (n : ℕ) (old : Option (List ℕ)) (before : List IndexEntry) → ((bytes : List ℕ) (entries : List IndexEntry) → IsWhole bytes entries → Ahead n bytes entries)
        → GoesOn IsWhole n old old before before
    goes_begin n old before ahead = record {
      goes = λ bytes rest entries known w s. record { back = bytes; later = entries; ahead = ahead bytes entries w; known = known; same = refl };
    }

    one_read : (n less : ℕ) (rest : List ℕ) (mid new : Option (List ℕ)) (between after all : List IndexEntry) (result : Result (Unit {0}) IndexError)
        → StandsAhead n rest mid between all → AreInOrder all → 0 < n → less ≡ n - 1 → ReadsPart IsPart (state_of mid between) (state_of new after) result
        → MatchResult result (λ _. StandsAhead less rest new after all) IsOfReader
    one_read n less rest mid new between after all (Ok done) s sorted some is r =
        let t = next n less s.back s.later s.ahead some is in
        let split : between ++ t.own ++ t.later ≡ all = append_assoc between t.own t.later ∙ ap (λ l. between ++ l) (sym t.is_entries) ∙ s.same in
        let q = r.reads t.part (t.back ++ rest) t.own (s.known ∙ ap (λ l. Some (l ++ rest)) t.is_bytes ∙ ap Some (append_assoc t.part t.back rest)) t.is_part
        (ordered_front (between ++ t.own) t.later (subst AreInOrder (sym split) sorted)) in
        record { back = t.back; later = t.later; ahead = t.ahead; known = q.0; same = ap (λ l. l ++ t.later) q.1 ∙ split }
    one_read n less rest mid new between after all (Err error) s sorted some is r =
        let t = next n less s.back s.later s.ahead some is in
        let split : between ++ t.own ++ t.later ≡ all = append_assoc between t.own t.later ∙ ap (λ l. between ++ l) (sym t.is_entries) ∙ s.same in
        r.reads t.part (t.back ++ rest) t.own (s.known ∙ ap (λ l. Some (l ++ rest)) t.is_bytes ∙ ap Some (append_assoc t.part t.back rest)) t.is_part
        (ordered_front (between ++ t.own) t.later (subst AreInOrder (sym split) sorted))

    pub goes_more : (n less : ℕ) (old mid new : Option (List ℕ)) (before between after : List IndexEntry) → GoesOn IsWhole n old mid before between → 0 < n → less ≡ n - 1
        → ReadsPart IsPart (state_of mid between) (state_of new after) (Ok tt) → GoesOn IsWhole less old new before after
    goes_more n less old mid new before between after g some is r = record {
      goes = λ bytes rest entries known w s. one_read n less rest mid new between after (before ++ entries) (Ok tt) (g.goes bytes rest entries known w s) s some is r;
    }

    pub goes_wrong : (n : ℕ) (error : IndexError) (old mid new : Option (List ℕ)) (before between after : List IndexEntry) → GoesOn IsWhole n old mid before between → 0 < n
        → ReadsPart IsPart (state_of mid between) (state_of new after) (Err error) → ReadsPart IsWhole (state_of old before) (state_of new after) (Err error)
    goes_wrong n error old mid new before between after g some r = record {
      reads = λ bytes rest entries known w s. one_read n (n - 1) rest mid new between after (before ++ entries) (Err error) (g.goes bytes rest entries known w s) s some refl r;
    }

    none_ahead : (n : ℕ) (back : List ℕ) (later : List IndexEntry) → n ≡ 0 → Ahead n back later → (back ≡ []) × (later ≡ [])
    none_ahead zero back later e a = a
    none_ahead (suc n) back later e a = absurd (omega arith)

    pub goes_end : (n : ℕ) (old new : Option (List ℕ)) (before after : List IndexEntry) → GoesOn IsWhole n old new before after → n ≡ 0
        → ReadsPart IsWhole (state_of old before) (state_of new after) (Ok tt)
    goes_end n old new before after g e = record {
      reads = λ bytes rest entries known w s.
          let a = g.goes bytes rest entries known w s in
          let no = none_ahead n a.back a.later e a.ahead in (
            a.known ∙ ap (λ l. Some (l ++ rest)) no.0,
            sym (append-nil after) ∙ ap (λ l. after ++ l) (sym no.1) ∙ a.same,
          );
    }

-- ---- rows

pub ahead_of_rows : (code digest_len n : ℕ) (bytes : List ℕ) (entries : List IndexEntry) → AreRows code digest_len n bytes entries
    → Ahead (IsRow code digest_len) n bytes entries
ahead_of_rows code digest_len zero bytes [] (e, long, own) = (e, refl)
ahead_of_rows code digest_len zero bytes (x ∷ xs) (e, long, own) = absurd (omega arith)
ahead_of_rows code digest_len (suc n) bytes [] (e, long, own) = absurd (omega arith)
ahead_of_rows code digest_len (suc n) bytes (x ∷ xs) (e, long, own) = (
  row x,
  rows xs,
  x ∷ [],
  xs,
  e,
  refl,
  (x, refl, refl, own zero x (omega arith)),
  ahead_of_rows code digest_len n (rows xs) xs (refl, (let l : length xs ≡ n = omega arith in l), λ k d low. own (suc k) d (omega arith)),
)

-- the rows are read with a digest of this length
module _ (code digest_len count len n : ℕ) (is : len ≡ digest_len) (old mid new : Option (List ℕ)) (before between after : List IndexEntry)
    (g : GoesOn (IsRow code digest_len) (AreRows code digest_len count) n old mid before between) (some : 0 < n) where
  pub rows_go_on : ReadsPart (IsRow code len) (state_of mid between) (state_of new after) (Ok tt) → GoesOn (IsRow code digest_len) (AreRows code digest_len count) (n - 1) old new before after
  rows_go_on r =
      goes_more (IsRow code digest_len) (AreRows code digest_len count) n (n - 1) old mid new before between after g some refl
      (subst (λ l. ReadsPart (IsRow code l) (state_of mid between) (state_of new after) (Ok tt)) is r)

  pub rows_wrong : (error : IndexError) → ReadsPart (IsRow code len) (state_of mid between) (state_of new after) (Err error) → ReadsPart (AreRows code digest_len count) (state_of old before) (state_of new after) (Err error)
  rows_wrong error r =
      goes_wrong (IsRow code digest_len) (AreRows code digest_len count) n error old mid new before between after g some
      (subst (λ l. ReadsPart (IsRow code l) (state_of mid between) (state_of new after) (Err error)) is r)

row_known : (bytes rest : List ℕ) (e : IndexEntry) (old : Option (List ℕ)) → old ≡ Some (bytes ++ rest) → bytes ≡ row e → old ≡ Some (e.hash.digest ++ (le64 e.offset ++ rest))
unfolding row
row_known bytes rest e old known is_row =
    known ∙ ap (λ l. Some (l ++ rest)) is_row ∙ ap Some (append_assoc e.hash.digest (le64 e.offset) rest)

pub row_no_digest : (code digest_len : ℕ) (error : IndexError) (old new : Option (List ℕ)) (before after : List IndexEntry) → EndsWithin digest_len old error
    → ReadsPart (IsRow code digest_len) (state_of old before) (state_of new after) (Err error)
row_no_digest code digest_len error old new before after ends = record {
  reads = λ bytes rest entries known w s.
      let long : length w.0.hash.digest ≡ digest_len = w.3.1 in
      not_ended digest_len w.0.hash.digest (le64 w.0.offset ++ rest) old error (row_known bytes rest w.0 old known w.1) (omega arith) ends;
}

pub row_no_offset : (code digest_len : ℕ) (error : IndexError) (digest : List ℕ) (old mid new : Option (List ℕ)) (before after : List IndexEntry) → Consumes old mid digest
    → length digest ≡ digest_len → EndsWithin 8 mid error → ReadsPart (IsRow code digest_len) (state_of old before) (state_of new after) (Err error)
unfolding le64
row_no_offset code digest_len error digest old mid new before after p long ends = record {
  reads = λ bytes rest entries known w s.
      let first = front_taken w.0.hash.digest digest _ old mid (long ∙ sym w.3.1) (row_known bytes rest w.0 old known w.1) p in
      not_ended 8 (le64 w.0.offset) rest mid error first.1 (omega arith) ends;
}

record RowFront (offset : ℕ) (digest : List ℕ) (hash : HashParts) (rest : List ℕ) (new : Option (List ℕ)) (entries : List IndexEntry) : Type 0 where
  is_entries : entries ≡ record { hash = hash; offset = offset } ∷ []
  left : new ≡ Some rest

row_front : (code digest_len offset : ℕ) (digest : List ℕ) (hash : HashParts) (old mid new : Option (List ℕ)) (before : List IndexEntry) (bytes rest : List ℕ) (entries : List IndexEntry)
    → Consumes old mid digest → Consumes mid new (le64 offset) → offset < 2 ^ 64 → hash ≡ record { code = code; digest = digest } → length digest ≡ digest_len
    → old ≡ Some (bytes ++ rest) → IsRow code digest_len bytes entries → AreInOrder (before ++ entries) → RowFront offset digest hash rest new entries
unfolding row
row_front code digest_len offset digest hash old mid new before bytes rest entries p q fits is long known (e, is_row, is_one, own) s =
    let first = front_taken e.hash.digest digest _ old mid (long ∙ sym own.1) (row_known bytes rest e old known is_row) p in
    let at = get_or-append_seam before e [] e in
    let all : All (λ (x : IndexEntry). x.offset < 2 ^ 64) (before ++ e ∷ []) = subst (λ es. All (λ (x : IndexEntry). x.offset < 2 ^ 64) (before ++ es)) is_one s.1 in
    let sized = length-append before (e ∷ []) in
    let few : e.offset < 2 ^ 64 = subst (λ (x : IndexEntry). x.offset < 2 ^ 64) at (all (length before) e (omega arith)) in
    let second = number64_taken e.offset offset rest mid new few fits first.1 q in
    let same_hash : hash ≡ e.hash = is ∙ ap (λ c. record { code = c; digest = digest }) (sym own.0) ∙ ap (λ l. record { code = e.hash.code; digest = l }) first.0 in record {
      is_entries = is_one ∙ ap (λ (h : HashParts). record { hash = h; offset = e.offset } ∷ []) (sym same_hash) ∙ ap (λ o. record { hash = hash; offset = o } ∷ []) (sym second.0);
      left = second.1;
    }

pub row_read : (r : Result (Unit {0}) IndexError) (code digest_len offset : ℕ) (digest : List ℕ) (hash : HashParts) (old mid new : Option (List ℕ)) (before after : List IndexEntry)
    → Consumes old mid digest → Consumes mid new (le64 offset) → offset < 2 ^ 64 → hash ≡ record { code = code; digest = digest } → length digest ≡ digest_len
    → OnOk r (after ≡ before ++ record { hash = hash; offset = offset } ∷ [])
    → IfErr r (IsUnsorted (before ++ record { hash = hash; offset = offset } ∷ []))
    → ReadsPart (IsRow code digest_len) (state_of old before) (state_of new after) r
row_read (Ok done) code digest_len offset digest hash old mid new before after p q fits is long b f = record {
  reads = λ bytes rest entries known w s.
      let t = row_front code digest_len offset digest hash old mid new before bytes rest entries p q fits is long known w s in
      (t.left, b ∙ ap (λ l. before ++ l) (sym t.is_entries));
}
row_read (Err error) code digest_len offset digest hash old mid new before after p q fits is long b f = record {
  reads = λ bytes rest entries known w s.
      let t = row_front code digest_len offset digest hash old mid new before bytes rest entries p q fits is long known w s in
      not_unsorted _ error f (subst (λ es. AreSorted (before ++ es)) t.is_entries s.0);
}

-- ---- the parts of an index

-- two numbers, and what stands behind them
two_known : (a b c rest bytes : List ℕ) (old : Option (List ℕ)) → old ≡ Some (bytes ++ rest) → bytes ≡ a ++ b ++ c → old ≡ Some (a ++ (b ++ (c ++ rest)))
two_known a b c rest bytes old known is =
    known ∙ ap (λ l. Some (l ++ rest)) is ∙ ap Some (append_assoc (a ++ b) c rest ∙ append_assoc a b (c ++ rest))

pub record BucketFront (code width len : ℕ) (rest : List ℕ) (two : Option (List ℕ)) (bytes : List ℕ) (entries : List IndexEntry) : Type 0 where
  pub digest_len : ℕ
  pub wide : width ≡ digest_len + 8
  pub short : digest_len ≤ 64
  pub long : len ≡ width * length entries
  pub own : All (IsOf code digest_len) entries
  pub left : two ≡ Some (rows entries ++ rest)

bucket_front : (code width len : ℕ) (old one two : Option (List ℕ)) (bytes rest : List ℕ) (entries : List IndexEntry) → Consumes old one (le32 width) → Consumes one two (le64 len)
    → width < 2 ^ 32 → len < 2 ^ 64 → old ≡ Some (bytes ++ rest) → IsBucket code bytes entries → BucketFront code width len rest two bytes entries
bucket_front code width len old one two bytes rest entries p q low fits known b =
    let short = b.short in
    let first = number32_taken (b.digest_len + 8) width _ old one (omega arith) low
    (two_known (le32 (b.digest_len + 8)) (le64 ((b.digest_len + 8) * length entries)) (rows entries) rest bytes old known b.encoded) p in
    let second = number64_taken ((b.digest_len + 8) * length entries) len _ one two b.fits fits first.1 q in record {
      digest_len = b.digest_len;
      wide = first.0;
      short = short;
      long = second.0 ∙ ap (λ n. n * length entries) (sym first.0);
      own = b.own;
      left = second.1;
    }

pub bucket_read : (code width len digest_len count : ℕ) (result : Result (Unit {0}) IndexError) (old one two new : Option (List ℕ)) (before after : List IndexEntry)
    → Consumes old one (le32 width) → Consumes one two (le64 len) → width < 2 ^ 32 → len < 2 ^ 64 → width ≡ digest_len + 8 → count ≡ len / width
    → ReadsPart (AreRows code digest_len count) (state_of two before) (state_of new after) result → ReadsPart (IsBucket code) (state_of old before) (state_of new after) result
bucket_read code width len digest_len count result old one two new before after p q low fits wide counted r = record {
  reads = λ bytes rest entries known b s.
      let f = bucket_front code width len old one two bytes rest entries p q low fits known b in
      let fwide = f.wide in
      let same : f.digest_len ≡ digest_len = omega arith in
      let some : 0 < width = omega arith in
      let n : length entries ≡ count = sym (mul-div_cancel_left (length entries) some) ∙ ap (λ m. m / width) (sym f.long) ∙ sym counted in
      r.reads (rows entries) rest entries f.left (refl, n, subst (λ d. All (IsOf code d) entries) same f.own) s;
}

-- the width of the rows was read
record WidthFront (code width : ℕ) (rest : List ℕ) (one : Option (List ℕ)) (entries : List IndexEntry) : Type 0 where
  digest_len : ℕ
  wide : width ≡ digest_len + 8
  short : digest_len ≤ 64
  left : one ≡ Some (le64 ((digest_len + 8) * length entries) ++ (rows entries ++ rest))

width_front : (code width : ℕ) (old one : Option (List ℕ)) (bytes rest : List ℕ) (entries : List IndexEntry) → Consumes old one (le32 width) → width < 2 ^ 32
    → old ≡ Some (bytes ++ rest) → IsBucket code bytes entries → WidthFront code width rest one entries
width_front code width old one bytes rest entries p low known b =
    let short = b.short in
    let first = number32_taken (b.digest_len + 8) width _ old one (omega arith) low
    (two_known (le32 (b.digest_len + 8)) (le64 ((b.digest_len + 8) * length entries)) (rows entries) rest bytes old known b.encoded) p in
    record { digest_len = b.digest_len; wide = first.0; short = short; left = first.1 }

pub bucket_no_width : (code : ℕ) (error : IndexError) (old new : Option (List ℕ)) (before after : List IndexEntry) → EndsWithin 4 old error
    → ReadsPart (IsBucket code) (state_of old before) (state_of new after) (Err error)
unfolding le32
bucket_no_width code error old new before after ends = record {
  reads = λ bytes rest entries known b s.
      not_ended 4 (le32 (b.digest_len + 8)) _ old error
      (two_known (le32 (b.digest_len + 8)) (le64 ((b.digest_len + 8) * length entries)) (rows entries) rest bytes old known b.encoded) (omega arith) ends;
}

pub bucket_no_length : (code width : ℕ) (error : IndexError) (old one new : Option (List ℕ)) (before after : List IndexEntry) → Consumes old one (le32 width) → width < 2 ^ 32
    → EndsWithin 8 one error → ReadsPart (IsBucket code) (state_of old before) (state_of new after) (Err error)
unfolding le64
bucket_no_length code width error old one new before after p low ends = record {
  reads = λ bytes rest entries known b s.
      let f = width_front code width old one bytes rest entries p low known b in
      not_ended 8 (le64 ((f.digest_len + 8) * length entries)) _ one error f.left (omega arith) ends;
}

pub bucket_not_narrow : (code width : ℕ) (error : IndexError) (old one new : Option (List ℕ)) (before after : List IndexEntry) → Consumes old one (le32 width) → width < 2 ^ 32
    → width < 8 → ReadsPart (IsBucket code) (state_of old before) (state_of new after) (Err error)
bucket_not_narrow code width error old one new before after p low few = record {
  reads = λ bytes rest entries known b s.
      let f = width_front code width old one bytes rest entries p low known b in
      let wide = f.wide in absurd (omega arith);
}

pub bucket_not_wide : (code width : ℕ) (error : IndexError) (old one new : Option (List ℕ)) (before after : List IndexEntry) → Consumes old one (le32 width) → width < 2 ^ 32
    → 72 < width → ReadsPart (IsBucket code) (state_of old before) (state_of new after) (Err error)
bucket_not_wide code width error old one new before after p low over = record {
  reads = λ bytes rest entries known b s.
      let f = width_front code width old one bytes rest entries p low known b in
      let wide = f.wide in
      let short = f.short in absurd (omega arith);
}

pub bucket_not_uneven : (code width len : ℕ) (error : IndexError) (old one two new : Option (List ℕ)) (before after : List IndexEntry)
    → Consumes old one (le32 width) → Consumes one two (le64 len) → width < 2 ^ 32 → len < 2 ^ 64 → len % width ≢ 0
    → ReadsPart (IsBucket code) (state_of old before) (state_of new after) (Err error)
bucket_not_uneven code width len error old one two new before after p q low fits uneven = record {
  reads = λ bytes rest entries known b s.
      let f = bucket_front code width len old one two bytes rest entries p q low fits known b in
      absurd (uneven (ap (λ n. n % width) f.long ∙ mul-mod_right width (length entries)));
}

pub hash_no_code : (error : IndexError) (old new : Option (List ℕ)) (before after : List IndexEntry) → EndsWithin 8 old error → ReadsPart IsHash (state_of old before) (state_of new after) (Err error)
unfolding le64
hash_no_code error old new before after ends = record {
  reads = λ bytes rest entries known h s.
      not_ended 8 (le64 h.code) _ old error (two_known (le64 h.code) (le32 h.count) h.buckets rest bytes old known h.encoded) (omega arith) ends;
}

pub hash_no_count : (code : ℕ) (error : IndexError) (old one new : Option (List ℕ)) (before after : List IndexEntry) → Consumes old one (le64 code) → code < 2 ^ 64
    → EndsWithin 4 one error → ReadsPart IsHash (state_of old before) (state_of new after) (Err error)
unfolding le32
hash_no_count code error old one new before after p low ends = record {
  reads = λ bytes rest entries known h s.
      let first = number64_taken h.code code _ old one h.in_range.0 low (two_known (le64 h.code) (le32 h.count) h.buckets rest bytes old known h.encoded) p in
      not_ended 4 (le32 h.count) _ one error first.1 (omega arith) ends;
}

pub hash_read : (code count : ℕ) (result : Result (Unit {0}) IndexError) (old one two new : Option (List ℕ)) (before after : List IndexEntry) → Consumes old one (le64 code)
    → Consumes one two (le32 count) → code < 2 ^ 64 → count < 2 ^ 32 → ReadsPart (Parts (IsBucket code) count) (state_of two before) (state_of new after) result
    → ReadsPart IsHash (state_of old before) (state_of new after) result
hash_read code count result old one two new before after p q low few r = record {
  reads = λ bytes rest entries known h s.
      let first = number64_taken h.code code _ old one h.in_range.0 low (two_known (le64 h.code) (le32 h.count) h.buckets rest bytes old known h.encoded) p in
      let second = number32_taken h.count count _ one two h.in_range.1 few first.1 q in
      r.reads h.buckets rest entries second.1
      (subst (λ n. Parts (IsBucket code) n h.buckets entries) (sym second.0) (subst (λ c. Parts (IsBucket c) h.count h.buckets entries) (sym first.0) h.parts)) s;
}

format_len : (f g : IndexFormat) → length (format_code g) ≡ length (format_code f)
unfolding format_code
format_len IndexSorted IndexSorted = refl
format_len IndexSorted MultihashIndexSorted = refl
format_len MultihashIndexSorted IndexSorted = refl
format_len MultihashIndexSorted MultihashIndexSorted = refl

format_same : (f g : IndexFormat) → format_code g ≡ format_code f → g ≡ f
unfolding format_code
format_same IndexSorted IndexSorted e = refl
format_same IndexSorted MultihashIndexSorted e = let first = ap (λ (l : List ℕ). get_or l 0 0) e in absurd (omega arith)
format_same MultihashIndexSorted IndexSorted e = let first = ap (λ (l : List ℕ). get_or l 0 0) e in absurd (omega arith)
format_same MultihashIndexSorted MultihashIndexSorted e = refl

pub index_no_format : (error : IndexError) (old : Option (List ℕ)) (format : IndexFormat) (bytes rest : List ℕ) (entries : List IndexEntry) → ReadsFormat old (Err error)
    → old ≡ Some (bytes ++ rest) → IsIndex format bytes entries → IsOfReader error
index_no_format error old format bytes rest entries f known i = f.reads format _ (two_known (format_code format) (le32 i.count) i.behind rest bytes old known i.encoded)

-- the code of the format that the bytes have was taken
index_format_taken : (f g : IndexFormat) (old one : Option (List ℕ)) (bytes rest : List ℕ) (entries : List IndexEntry) → Consumes old one (format_code g)
    → old ≡ Some (bytes ++ rest) → (i : IsIndex f bytes entries) → (g ≡ f) × (one ≡ Some (le32 i.count ++ (i.behind ++ rest)))
index_format_taken f g old one bytes rest entries p known i =
    let first = front_taken (format_code f) (format_code g) _ old one (format_len f g) (two_known (format_code f) (le32 i.count) i.behind rest bytes old known i.encoded) p in
    (format_same f g first.0, first.1)

pub index_no_count : (error : IndexError) (read : IndexFormat) (old one : Option (List ℕ)) (format : IndexFormat) (bytes rest : List ℕ) (entries : List IndexEntry)
    → Consumes old one (format_code read) → EndsWithin 4 one error → old ≡ Some (bytes ++ rest) → IsIndex format bytes entries → IsOfReader error
unfolding le32
index_no_count error read old one format bytes rest entries p ends known i =
    not_ended 4 (le32 i.count) _ one error (index_format_taken format read old one bytes rest entries p known i).1 (omega arith) ends

-- what is left where the format and a count were read
record IndexFront (read format : IndexFormat) (count : ℕ) (rest : List ℕ) (two : Option (List ℕ)) (entries : List IndexEntry) : Type 0 where
  same : read ≡ format
  behind : List ℕ
  parts : Parts (IsPart read) count behind entries
  left : two ≡ Some (behind ++ rest)

index_front : (read : IndexFormat) (count : ℕ) (old one two : Option (List ℕ)) (format : IndexFormat) (bytes rest : List ℕ) (entries : List IndexEntry) → Consumes old one (format_code read)
    → Consumes one two (le32 count) → count < 2 ^ 32 → old ≡ Some (bytes ++ rest) → IsIndex format bytes entries → IndexFront read format count rest two entries
index_front read count old one two format bytes rest entries p q few known i =
    let first = index_format_taken format read old one bytes rest entries p known i in
    let second = number32_taken i.count count _ one two i.in_range few first.1 q in record {
      same = first.0;
      behind = i.behind;
      parts = subst (λ n. Parts (IsPart read) n i.behind entries) (sym second.0) (subst (λ (f : IndexFormat). Parts (IsPart f) i.count i.behind entries) (sym first.0) i.parts);
      left = second.1;
    }

module _ (read : IndexFormat) (count : ℕ) (old one two new : Option (List ℕ)) (before after : List IndexEntry) (p : Consumes old one (format_code read)) (q : Consumes one two (le32 count))
    (few : count < 2 ^ 32) (empty : before ≡ []) where
  pub index_read : ReadsPart (Parts (IsPart read) count) (state_of two before) (state_of new after) (Ok tt) → (format : IndexFormat) (bytes rest : List ℕ) (entries : List IndexEntry)
      → old ≡ Some (bytes ++ rest) → IsIndex format bytes entries → AreInOrder entries → (read ≡ format) × (after ≡ entries)
  index_read r format bytes rest entries known i s =
      let f = index_front read count old one two format bytes rest entries p q few known i in
      let here : before ++ entries ≡ entries = ap (λ l. l ++ entries) empty in
      (f.same, (r.reads f.behind rest entries f.left f.parts (subst AreInOrder (sym here) s)).1 ∙ here)

  pub index_wrong : (error : IndexError) → ReadsPart (Parts (IsPart read) count) (state_of two before) (state_of new after) (Err error) → (format : IndexFormat) (bytes rest : List ℕ)
      (entries : List IndexEntry) → old ≡ Some (bytes ++ rest) → IsIndex format bytes entries → AreInOrder entries → IsOfReader error
  index_wrong error r format bytes rest entries known i s =
      let f = index_front read count old one two format bytes rest entries p q few known i in
      let here : before ++ entries ≡ entries = ap (λ l. l ++ entries) empty in
      r.reads f.behind rest entries f.left f.parts (subst AreInOrder (sym here) s)
