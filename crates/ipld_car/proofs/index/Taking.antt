-- What reading the parts of an index takes, put together.
use Rattle.std.proofs.Common.{◌≡◌, ◌≤◌, ◌<◌, ◌+◌, ◌*◌, ◌-◌, ◌/◌, ◌%◌, ◌^◌, ℕ, List, [], ◌∷◌, ◌++◌, length, Option, Result, Ok, Err, OnOk, refl, sym, ap, ◌∙◌, subst, append_assoc, append-nil, add-zero, arith}
use Rattle.std.specs.List.{All}
use Rattle.std.specs.Io.KnownBytes.{Consumes}
use Rattle.std.proofs.KnownBytes.{Consumes-nil, Consumes-trans}
use Rattle.std.proofs.Math.Nat.{div-add-mod}
use Rattle.std.proofs.lemmas.Grind.{flat_map-append}
use Rattle.std.proofs.lemmas.List.{length-append}
use Rattle.std.proofs.lemmas.List.Elements.{All-append, All-cons}
use Rattle.ipld_cid.specs.Multihash.{HashParts}
use Rattle.ipld_car.specs.Index.{row, rows, format_code}
use Rattle.ipld_car.specs.IndexLayout.{IsOf, IsBucket, Parts, none, more, IsHash, IsPart}
use Rattle.ipld_car.specs.IndexNumbers.{le32, le64}
use Rattle.ipld_car.specs.IndexOrder.{AreSorted}
use Rattle.ipld_car.specs.IndexReading.{IndexState, AreInOrder, TakesRow, TakesRows, TakesPart, TakesIndex}
use Rattle.ipld_car.specs.declared.index.entry.IndexEntry.{IndexEntry}
use Rattle.ipld_car.specs.declared.index.error.IndexError.{IndexError}
use Rattle.ipld_car.specs.declared.index.format.IndexFormat.{IndexFormat}

-- where reading an index is, by its parts
abbrev pub state_of : Option (List ℕ) → List IndexEntry → IndexState
state_of left entries = record { left = left; entries = entries }

-- ---- rows

no_entries : (P : IndexEntry → Type 0) → All P []
no_entries P k d low = absurd (omega arith)

pub row_taken : (r : Result (Unit {0}) IndexError) (code digest_len offset : ℕ) (digest : List ℕ) (hash : HashParts) (old mid new : Option (List ℕ)) (before after : List IndexEntry)
    → Consumes old mid digest → Consumes mid new (le64 offset) → hash ≡ record { code = code; digest = digest } → length digest ≡ digest_len
    → offset < 2 ^ 64 → OnOk r (after ≡ before ++ record { hash = hash; offset = offset } ∷ []) → OnOk r (AreSorted before → AreSorted after)
    → OnOk r (TakesRow code digest_len (state_of old before) (state_of new after))
unfolding row
row_taken (Err error) code digest_len offset digest hash old mid new before after p q is long fits b s = tt
row_taken (Ok done) code digest_len offset digest hash old mid new before after p q is long fits b s = record {
  entry = record { hash = hash; offset = offset };
  behind = b;
  own = (ap (λ (h : HashParts). h.code) is, ap (λ (h : HashParts). length h.digest) is ∙ long);
  consumed = subst (λ (h : HashParts). Consumes old new (h.digest ++ le64 offset)) (sym is) (Consumes-trans old mid new digest (le64 offset) p q);
  in_order = λ o. (
    s o.0,
    subst (All (λ (e : IndexEntry). e.offset < 2 ^ 64)) (sym b)
        (All-append (λ (e : IndexEntry). e.offset < 2 ^ 64) before _ o.1 (All-cons (λ (e : IndexEntry). e.offset < 2 ^ 64) _ [] fits (no_entries (λ (e : IndexEntry). e.offset < 2 ^ 64)))),
  );
}

pub rows_none : (code digest_len count left : ℕ) (old : Option (List ℕ)) (before : List IndexEntry) → left ≡ count
    → TakesRows code digest_len (count - left) (state_of old before) (state_of old before)
rows_none code digest_len count left old before e = record {
  entries = [];
  behind = sym (append-nil before);
  counted = omega arith;
  own = λ k d low. absurd (omega arith);
  consumed = Consumes-nil old;
  in_order = λ s. s;
}

rows_one : (front : List IndexEntry) (e : IndexEntry) → rows front ++ row e ≡ rows (front ++ e ∷ [])
rows_one front e =
    ap (λ r. rows front ++ r) (sym (append-nil (row e))) ∙ sym (flat_map-append row front (e ∷ []))

pub rows_more : (code digest_len count left less : ℕ) (old mid new : Option (List ℕ)) (before between after : List IndexEntry)
    → TakesRows code digest_len (count - left) (state_of old before) (state_of mid between) → left ≤ count → 0 < left → less ≡ left - 1
    → TakesRow code digest_len (state_of mid between) (state_of new after) → TakesRows code digest_len (count - less) (state_of old before) (state_of new after)
rows_more code digest_len count left less old mid new before between after r few some is t = record {
  entries = r.entries ++ t.entry ∷ [];
  behind = t.behind ∙ ap (λ es. es ++ t.entry ∷ []) r.behind ∙ append_assoc before r.entries (t.entry ∷ []);
  counted = let c = r.counted in let l = length-append r.entries (t.entry ∷ []) in omega arith;
  own = All-append (IsOf code digest_len) r.entries (t.entry ∷ []) r.own (All-cons (IsOf code digest_len) t.entry [] t.own (no_entries (IsOf code digest_len)));
  consumed = subst (Consumes old new) (rows_one r.entries t.entry) (Consumes-trans old mid new (rows r.entries) (row t.entry) r.consumed t.consumed);
  in_order = λ s. t.in_order (r.in_order s);
}

pub rows_all : (code digest_len count left : ℕ) (old new : Option (List ℕ)) (before after : List IndexEntry)
    → TakesRows code digest_len (count - left) (state_of old before) (state_of new after) → left ≡ 0 → TakesRows code digest_len count (state_of old before) (state_of new after)
rows_all code digest_len count left old new before after r e =
    subst (λ n. TakesRows code digest_len n (state_of old before) (state_of new after)) (let same : count - left ≡ count = omega arith in same) r

-- ---- parts

module _ (IsPart : List ℕ → List IndexEntry → Type 0) where
  pub parts_none : (count left : ℕ) (old : Option (List ℕ)) (before : List IndexEntry) → left ≡ count
      → TakesPart (Parts IsPart (count - left)) (state_of old before) (state_of old before)
  parts_none count left old before e = record {
    bytes = [];
    entries = [];
    is_part = subst (λ n. Parts IsPart n [] []) (let zero : 0 ≡ count - left = omega arith in zero) none;
    behind = sym (append-nil before);
    consumed = Consumes-nil old;
    in_order = λ s. s;
  }

  pub parts_more : (count left less : ℕ) (old mid new : Option (List ℕ)) (before between after : List IndexEntry)
      → TakesPart (Parts IsPart (count - left)) (state_of old before) (state_of mid between) → left ≤ count → 0 < left → less ≡ left - 1
      → TakesPart IsPart (state_of mid between) (state_of new after) → TakesPart (Parts IsPart (count - less)) (state_of old before) (state_of new after)
  parts_more count left less old mid new before between after p few some is t = record {
    bytes = p.bytes ++ t.bytes;
    entries = p.entries ++ t.entries;
    is_part = subst (λ n. Parts IsPart n (p.bytes ++ t.bytes) (p.entries ++ t.entries)) (let one : count - left + 1 ≡ count - less = omega arith in one)
        (more (count - left) p.bytes t.bytes p.entries t.entries p.is_part t.is_part);
    behind = t.behind ∙ ap (λ es. es ++ t.entries) p.behind ∙ append_assoc before p.entries t.entries;
    consumed = Consumes-trans old mid new p.bytes t.bytes p.consumed t.consumed;
    in_order = λ s. t.in_order (p.in_order s);
  }

  pub parts_all : (count left : ℕ) (old new : Option (List ℕ)) (before after : List IndexEntry)
      → TakesPart (Parts IsPart (count - left)) (state_of old before) (state_of new after) → left ≡ 0 → TakesPart (Parts IsPart count) (state_of old before) (state_of new after)
  parts_all count left old new before after p e =
      subst (λ n. TakesPart (Parts IsPart n) (state_of old before) (state_of new after)) (let same : count - left ≡ count = omega arith in same) p

-- ---- the parts of an index

-- two numbers, and what stands behind them
two_before : (old one two new : Option (List ℕ)) (a b c : List ℕ) → Consumes old one a → Consumes one two b → Consumes two new c → Consumes old new (a ++ b ++ c)
two_before old one two new a b c p q r = Consumes-trans old two new (a ++ b) c (Consumes-trans old one two a b p q) r

pub bucket_taken : (code width len digest_len count : ℕ) (old one two new : Option (List ℕ)) (before after : List IndexEntry) → Consumes old one (le32 width)
    → Consumes one two (le64 len) → width ≡ digest_len + 8 → digest_len ≤ 64 → len % width ≡ 0 → count ≡ len / width → len < 2 ^ 64
    → TakesRows code digest_len count (state_of two before) (state_of new after) → TakesPart (IsBucket code) (state_of old before) (state_of new after)
bucket_taken code width len digest_len count old one two new before after p q wide short even counted fits r =
    let long : len ≡ width * count = sym (div-add-mod len width) ∙ ap (λ n. width * (len / width) + n) even ∙ add-zero (width * (len / width)) ∙ ap (λ n. width * n) (sym counted) in
    let total : (digest_len + 8) * length r.entries ≡ len = ap (λ n. (digest_len + 8) * n) r.counted ∙ ap (λ n. n * count) (sym wide) ∙ sym long in record {
      bytes = le32 width ++ le64 len ++ rows r.entries;
      entries = r.entries;
      is_part = record {
        digest_len = digest_len;
        short = short;
        own = r.own;
        fits = subst (λ n. n < 2 ^ 64) (sym total) fits;
        encoded = ap (λ w. le32 w ++ le64 len ++ rows r.entries) wide ∙ ap (λ n. le32 (digest_len + 8) ++ le64 n ++ rows r.entries) (sym total);
      };
      behind = r.behind;
      consumed = two_before old one two new (le32 width) (le64 len) (rows r.entries) p q r.consumed;
      in_order = r.in_order;
    }

pub hash_taken : (code count : ℕ) (old one two new : Option (List ℕ)) (before after : List IndexEntry) → Consumes old one (le64 code)
    → Consumes one two (le32 count) → code < 2 ^ 64 → count < 2 ^ 32 → TakesPart (Parts (IsBucket code) count) (state_of two before) (state_of new after)
    → TakesPart IsHash (state_of old before) (state_of new after)
hash_taken code count old one two new before after p q low few t = record {
  bytes = le64 code ++ le32 count ++ t.bytes;
  entries = t.entries;
  is_part = record {
    code = code;
    count = count;
    buckets = t.bytes;
    parts = t.is_part;
    in_range = (low, few);
    encoded = refl;
  };
  behind = t.behind;
  consumed = two_before old one two new (le64 code) (le32 count) t.bytes p q t.consumed;
  in_order = t.in_order;
}

pub ordered_none : (entries : List IndexEntry) → entries ≡ [] → AreInOrder entries
ordered_none entries empty = subst AreInOrder (sym empty) (λ k d low high. absurd (omega arith), λ k d low. absurd (omega arith))

pub index_taken : (format : IndexFormat) (count : ℕ) (old one two new : Option (List ℕ)) (before after : List IndexEntry) → Consumes old one (format_code format) → Consumes one two (le32 count)
    → count < 2 ^ 32 → before ≡ [] → TakesPart (Parts (IsPart format) count) (state_of two before) (state_of new after) → TakesIndex format old new after
index_taken format count old one two new before after p q few empty t = record {
  bytes = format_code format ++ le32 count ++ t.bytes;
  is_index = record {
    count = count;
    behind = t.bytes;
    parts = subst (Parts (IsPart format) count t.bytes) (sym (t.behind ∙ ap (λ es. es ++ t.entries) empty)) t.is_part;
    in_range = few;
    encoded = refl;
  };
  consumed = two_before old one two new (format_code format) (le32 count) t.bytes p q t.consumed;
  sorted = (t.in_order (ordered_none before empty)).0;
}
