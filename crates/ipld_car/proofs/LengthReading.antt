-- The loop that reads a length: the number that the bytes taken so far encode, before what the bytes after them do.
use Rattle.std.proofs.Common.{◌≡◌, ◌≢◌, ℕ, zero, suc, ◌+◌, ◌-◌, ◌*◌, ◌%◌, ◌^◌, ◌<◌, ◌≤◌, ◌⊎◌, ◌&&◌, Bool, true, false, cond, ltb, eqb, List, [], ◌∷◌, ◌++◌, length, Option, Some, None, Result, Ok, Err, inl, inr, refl, sym, ap, subst, ◌∙◌, arith, append_assoc, append-nil, length-append}
use Rattle.std.proofs.lemmas.Bool.{lt-ltb, le-ltb}
use Rattle.std.proofs.KnownBytes.{Consumes-nil, Consumes-trans}
use Rattle.std.specs.Io.KnownBytes.{Consumes}
use Rattle.ipld_cid.specs.declared.error.CidError.{CidError}
use Rattle.ipld_cid.specs.declared.error.CidError.TheVariants.{NotShortest as VarintNotShortest, VarintTooLarge}
use Rattle.ipld_cid.specs.Multihash.{IsBytes}
use Rattle.ipld_cid.specs.Varint.{IsVarint, varint_of, read_varint, read_from, error_at, ◌>>=◌}
use Rattle.ipld_cid.proofs.Varints.{read_varint-sound, varint_encodes, IsBytes-rest}
use Rattle.ipld_cid.proofs.VarintReading.{above, above_zero, above_more, below_more, more_follow}
use Rattle.ipld_car.specs.declared.error.CarErrorKind.{CarErrorKind}
use Rattle.ipld_car.specs.declared.error.CarErrorKind.TheVariants.{Memory, Read, UnexpectedEnd, LengthNotShortest, LengthTooLarge}
use Rattle.ipld_car.specs.Taking.{IsReaderError, Ends, TakesByte}
use Rattle.ipld_car.specs.Lengths.{BeginsVarint, IsNoVarint, LengthFault, ReadsLength, kind_of}
use Rattle.ipld_car.proofs.Takings.{read_out_later}

-- so many groups were read, and what they are
pub record ReadsGroups (old new : Option (List ℕ)) (taken : List ℕ) (value place room : ℕ) : Type 0 where
  pub consumed : Consumes old new taken
  pub placed : length taken ≡ place
  pub within : place ≤ room
  pub few : place ≤ 9
  pub below : value < 2 ^ (7 * place)
  pub whole : IsBytes taken
  pub ahead : (rest : List ℕ) → above value place (read_from place rest) ≡ read_from 0 (taken ++ rest)

pub groups_none : (old : Option (List ℕ)) (room : ℕ) → ReadsGroups old old [] 0 0 room
groups_none old room = record {
  consumed = Consumes-nil old;
  placed = refl;
  within = omega arith;
  few = omega arith;
  below = omega arith;
  whole = λ i. omega arith;
  ahead = λ rest. above_zero (read_from 0 rest);
}

-- the bytes so far begin a varint
pub begins : (old new : Option (List ℕ)) (taken : List ℕ) (value place room : ℕ) → ReadsGroups old new taken value place room → BeginsVarint taken
unfolding read_varint
begins old new taken value place room g = ap (read_from 0) (sym (append-nil taken)) ∙ sym (g.ahead [])

kept : (old mid new : Option (List ℕ)) (taken : List ℕ) → Consumes old mid taken → Consumes mid new [] → Consumes old new taken
kept old mid new taken p q = subst (Consumes old new) (append-nil taken) (Consumes-trans old mid new taken [] p q)

ended : (old mid new : Option (List ℕ)) (taken : List ℕ) (place room : ℕ) → Consumes old mid taken → Ends room mid new taken → Ends room old new taken
ended old mid new taken place room c (inl e) = inl e
ended old mid new taken place room c (inr r) = inr (read_out_later old mid new taken c r)

-- there is no byte at all
pub length_none : (old mid new : Option (List ℕ)) (taken after : List ℕ) (value place room : ℕ) → ReadsGroups old mid taken value place room
    → TakesByte room mid new taken after (Ok None) → place ≡ 0 → ReadsLength room old new after (Ok None)
length_none old mid new [] after value place room g t first =
    rw t.0 (refl, ended old mid new [] place room g.consumed t.2)
length_none old mid new (b ∷ taken) after value place room g t first = absurd (let e = g.placed in omega arith)

-- there is no further byte
pub length_cut : (old mid new : Option (List ℕ)) (taken after : List ℕ) (value place room : ℕ) → ReadsGroups old mid taken value place room
    → TakesByte room mid new taken after (Ok None) → place ≢ 0 → ReadsLength room old new after (Err UnexpectedEnd)
length_cut old mid new taken after value place room g t later =
    rw t.0 (begins old mid taken value place room g, (λ none. later (sym g.placed ∙ ap length none)), ended old mid new taken place room g.consumed t.2)

pub length_ends : (old mid new : Option (List ℕ)) (taken after : List ℕ) (value place room : ℕ) → ReadsGroups old mid taken value place room
    → TakesByte room mid new taken after (Ok None) → Consumes old new after
length_ends old mid new taken after value place room g t = rw t.0 (kept old mid new taken g.consumed t.1)

fault_of_reader : (room : ℕ) (old new : Option (List ℕ)) (taken : List ℕ) (kind : CarErrorKind) → IsReaderError kind → BeginsVarint taken → length taken < room
    → LengthFault room old new taken kind
fault_of_reader room old new taken Memory e b few = (b, few)
fault_of_reader room old new taken (Read error) e b few = (b, e, few)
fault_of_reader room old new taken _ e b few = absurd e

-- the reader failed
pub length_fails : (old mid new : Option (List ℕ)) (taken after : List ℕ) (value place room : ℕ) (kind : CarErrorKind) → ReadsGroups old mid taken value place room
    → TakesByte room mid new taken after (Err kind) → ReadsLength room old new after (Err kind) × Consumes old new after
length_fails old mid new taken after value place room kind g t =
    let few : length taken < room = let p = g.placed in let w = g.within in let r = t.3 in omega arith in
    rw t.0 (fault_of_reader room old new taken kind t.2 (begins old mid taken value place room g) few, kept old mid new taken g.consumed t.1)

-- one byte more
pub length_more : (old mid new : Option (List ℕ)) (taken after : List ℕ) (value place room byte : ℕ) → ReadsGroups old mid taken value place room
    → TakesByte room mid new taken after (Ok (Some byte)) → Consumes old new after
length_more old mid new taken after value place room byte g t = rw t.0 (Consumes-trans old mid new taken (byte ∷ []) g.consumed t.1)

-- what reading the bytes returns, with the next byte
next : (old mid : Option (List ℕ)) (taken : List ℕ) (value place room byte : ℕ) (rest : List ℕ) → ReadsGroups old mid taken value place room
    → read_from 0 ((taken ++ byte ∷ []) ++ rest) ≡ above value place (read_from place (byte ∷ rest))
next old mid taken value place room byte rest g = ap (read_from 0) (append_assoc taken (byte ∷ []) rest) ∙ sym (g.ahead (byte ∷ rest))

stopped : (place byte : ℕ) (rest : List ℕ) (error : CidError) → error_at place byte ≡ Some error → read_from place (byte ∷ rest) ≡ Err error
stopped place byte rest error e = rw e refl

pub no_varint : (old mid : Option (List ℕ)) (taken : List ℕ) (value place room byte : ℕ) (error : CidError) → ReadsGroups old mid taken value place room
    → error_at place byte ≡ Some error → IsNoVarint (taken ++ byte ∷ []) error
unfolding read_varint
no_varint old mid taken value place room byte error g e = record {
  front = taken;
  last = byte;
  parts = refl;
  begins = begins old mid taken value place room g;
  error_is = ap (read_from 0) (sym (append-nil (taken ++ byte ∷ []))) ∙ next old mid taken value place room byte [] g ∙ ap (above value place) (stopped place byte [] error e);
}

-- the errors of a byte, by the tests of it
error_by : Bool → Bool → Option CidError
error_by a b = cond a (Some VarintTooLarge) (cond b (Some VarintNotShortest) None)

error_among : (a b : Bool) → ((error_by a b ≡ None) ⊎ (error_by a b ≡ Some VarintTooLarge)) ⊎ (error_by a b ≡ Some VarintNotShortest)
unfolding error_by
error_among true b = inl (inr refl)
error_among false true = inr refl
error_among false false = inl (inl refl)

pub error_is : (place byte : ℕ) → ((error_at place byte ≡ None) ⊎ (error_at place byte ≡ Some VarintTooLarge)) ⊎ (error_at place byte ≡ Some VarintNotShortest)
unfolding error_by
error_is place byte = error_among (eqb place 9 && ltb 1 byte) (ltb 0 place && eqb byte 0)

pub same_kind : (found kind : CarErrorKind) → ◌≡◌ {A = Option CarErrorKind} (Some found) (Some kind) → found ≡ kind
same_kind found kind e = cc

pub no_kind : (kind : CarErrorKind) → ◌≡◌ {A = Option CarErrorKind} None (Some kind) → ⊥
no_kind kind e = cc

-- no varint begins with the byte there
pub length_faulty : (old mid new : Option (List ℕ)) (taken after : List ℕ) (value place room byte : ℕ) (kind : CarErrorKind) → ReadsGroups old mid taken value place room
    → TakesByte room mid new taken after (Ok (Some byte)) → kind_of (error_at place byte) ≡ Some kind → ReadsLength room old new after (Err kind)
length_faulty old mid new taken after value place room byte kind g t e = rw t.0 (
    elim (error_is place byte) [
      | inl (inl none) ↦ absurd (no_kind kind (sym (ap kind_of none) ∙ e))
      | inl (inr large) ↦ subst (LengthFault room old new (taken ++ byte ∷ [])) (same_kind LengthTooLarge kind (sym (ap kind_of large) ∙ e)) (no_varint old mid taken value place room byte VarintTooLarge g large)
      | inr short ↦ subst (LengthFault room old new (taken ++ byte ∷ [])) (same_kind LengthNotShortest kind (sym (ap kind_of short) ∙ e)) (no_varint old mid taken value place room byte VarintNotShortest g short)
    ])

whole_more : (taken : List ℕ) (byte : ℕ) → IsBytes taken → byte < 256 → IsBytes (taken ++ byte ∷ [])
whole_more [] byte w small zero = small
whole_more [] byte w small (suc i) = omega arith
whole_more (b ∷ taken) byte w small zero = w 0
whole_more (b ∷ taken) byte w small (suc i) = whole_more taken byte (IsBytes-rest b taken w) small i

-- a byte with no error is of a varint
pub sound_at : (place byte : ℕ) → kind_of (error_at place byte) ≡ None → error_at place byte ≡ None
sound_at place byte e = elim (error_is place byte) [
  | inl (inl none) ↦ none
  | inl (inr large) ↦ absurd (no_kind LengthTooLarge (sym e ∙ ap kind_of large))
  | inr short ↦ absurd (no_kind LengthNotShortest (sym e ∙ ap kind_of short))
]

last_read : (value place byte : ℕ) → error_at place byte ≡ None → byte < 128 → above value place (read_from place (byte ∷ [])) ≡ Ok (value + 2 ^ (7 * place) * byte, [])
last_read value place byte sound low = rw (sound, lt-ltb byte 128 low) refl

-- the last byte
pub length_done : (old mid new : Option (List ℕ)) (taken after : List ℕ) (value place room byte : ℕ) → ReadsGroups old mid taken value place room
    → TakesByte room mid new taken after (Ok (Some byte)) → error_at place byte ≡ None → byte < 128
    → ReadsLength room old new after (Ok (Some (value + byte % 128 * 2 ^ (7 * place))))
unfolding read_varint
length_done old mid new taken after value place room byte g t sound low =
    let number = value + byte % 128 * 2 ^ (7 * place) in
    let all = taken ++ byte ∷ [] in
    let small : byte % 128 ≡ byte = omega arith in
    let is : value + 2 ^ (7 * place) * byte ≡ number = rw small (omega arith) in
    let read : read_varint all ≡ Ok (number, []) =
    ap (read_from 0) (sym (append-nil all)) ∙ next old mid taken value place room byte [] g ∙ last_read value place byte sound low ∙ ap (λ (n : ℕ). Ok (n, [])) is in
    let says = read_varint-sound number all [] (whole_more taken byte g.whole t.2) read in
    let encoded : varint_of number ≡ all = sym (says.1 ∙ append-nil (varint_of number)) in
    rw t.0 (subst (IsVarint number) encoded (varint_encodes number says.0), let e = length-append taken (byte ∷ []) in let p = g.placed in let w = g.within in let r = t.3 in omega arith)

high_read : (place byte : ℕ) (rest : List ℕ) → error_at place byte ≡ None → 128 ≤ byte
    → read_from place (byte ∷ rest) ≡ (read_from (suc place) rest >>= λ high. Ok ((byte - 128) + 128 * high.0, high.1))
high_read place byte rest sound high = rw (sound, le-ltb byte 128 high) refl

-- a byte with others after it
pub groups_more : (old mid new : Option (List ℕ)) (taken after : List ℕ) (value place room byte : ℕ) → ReadsGroups old mid taken value place room
    → TakesByte room mid new taken after (Ok (Some byte)) → error_at place byte ≡ None → 128 ≤ byte
    → ReadsGroups old new after (value + byte % 128 * 2 ^ (7 * place)) (place + 1) room
groups_more old mid new taken after value place room byte g t sound high =
    let group : byte % 128 ≡ byte - 128 = let s = t.2 in omega arith in
    let later : suc place ≡ place + 1 = omega arith in
    rw t.0 (record {
      consumed = Consumes-trans old mid new taken (byte ∷ []) g.consumed t.1;
      placed = let e = length-append taken (byte ∷ []) in let p = g.placed in omega arith;
      within = let w = g.within in let r = t.3 in let p = g.placed in omega arith;
      few = more_follow place byte g.few sound high;
      below = below_more value place (byte % 128) g.below (omega arith);
      whole = whole_more taken byte g.whole t.2;
      ahead = λ rest. rw group (sym (next old mid taken value place room byte rest g ∙ ap (above value place) (high_read place byte rest sound high)
          ∙ above_more value place (byte - 128) (read_from (suc place) rest)
          ∙ ap (λ (p : ℕ). above (value + (byte - 128) * 2 ^ (7 * place)) (place + 1) (read_from p rest)) later));
    })

-- no more was taken than may be
pub length_within : (old mid new : Option (List ℕ)) (taken after : List ℕ) (value place room : ℕ) (result : Result (Option ℕ) CarErrorKind)
    → ReadsGroups old mid taken value place room → TakesByte room mid new taken after result → length after ≤ room
length_within old mid new taken after value place room (Ok (Some byte)) g t =
    let e = ap length t.0 ∙ length-append taken (byte ∷ []) in let p = g.placed in let w = g.within in let r = t.3 in omega arith
length_within old mid new taken after value place room (Ok None) g t = let e = ap length t.0 in let p = g.placed in let w = g.within in omega arith
length_within old mid new taken after value place room (Err kind) g t = let e = ap length t.0 in let p = g.placed in let w = g.within in omega arith
