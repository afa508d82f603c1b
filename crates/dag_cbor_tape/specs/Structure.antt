-- The order of the entries in a tape.
use Rattle.std.specs.Prelude.{◌≡◌, ℕ, zero, suc, ◌-◌, ◌==◌, ◌||◌, nat_lt, if◌then◌else◌, Bool, true, false, List, [], ◌∷◌, length, take, drop, Option, Some, None, Result, Ok, Err}
use Rattle.dag_cbor_format.specs.KeysAscend.{follows}
use Rattle.dag_cbor_format.specs.Reading.{among, and_key}
use Rattle.dag_cbor_blocks.specs.declared.tape.TapeEntry.{TapeEntry}
use Rattle.dag_cbor_tape.specs.declared.error.EncodeErrorKind.{EncodeErrorKind}
use Rattle.dag_cbor_tape.specs.declared.error.EncodeErrorKind.TheVariants as wrong
use Rattle.dag_cbor_tape.specs.declared.error.Fault.{Fault}
use Rattle.dag_cbor_tape.specs.declared.entry.EntryKind.{EntryKind}
use Rattle.dag_cbor_tape.specs.declared.entry.EntryKind.TheVariants as kind
use Rattle.dag_cbor_tape.specs.Errors.{fault, ◌>>=◌, at, before}
use Rattle.dag_cbor_tape.specs.Entry.{kind_of, content_of}

-- the number of entries that a list or a map spans, or an error if it is 0
abbrev pub spanned : TapeEntry → Result ℕ EncodeErrorKind
spanned e = if e.len == 0 then Err wrong.Span else Ok e.len

-- the number of entries that a value of this kind spans, or an error if it is not a value's kind
abbrev pub span_in : Option EntryKind → TapeEntry → Result ℕ EncodeErrorKind
span_in None e = Err wrong.Kind
span_in (Some kind.Key) e = Err wrong.Kind
span_in (Some kind.List) e = spanned e
span_in (Some kind.Map) e = spanned e
span_in (Some other) e = Ok 1

-- the entries after the first `n`, or an error if there are fewer
abbrev pub behind : ℕ → List TapeEntry → Result (List TapeEntry) Fault
behind n es = if nat_lt (length es) n then Err (fault wrong.Span (length es)) else Ok (drop n es)

-- the entries after their first value
unfoldable pub after_value : List TapeEntry → Result (List TapeEntry) Fault
after_value [] = Err (fault wrong.Missing 0)
after_value (e ∷ es) = at (length (e ∷ es)) (span_in (kind_of e.kind) e) >>= λ n. behind n (e ∷ es)

-- an error if an entry is left
abbrev pub ends : List TapeEntry → Result (Unit {0}) Fault
ends [] = Ok tt
ends (e ∷ es) = Err (fault wrong.LeftOver (length (e ∷ es)))

-- an error if the entries are not `n` values, one after another
abbrev pub values : ℕ → List TapeEntry → Result (Unit {0}) Fault
values zero es = ends es
values (suc n) es = after_value es >>= values n

-- the content, or an error if it is not within the data
abbrev pub within_data : Option (List ℕ) → Result (List ℕ) EncodeErrorKind
within_data None = Err wrong.Content
within_data (Some k) = Ok k

-- the bytes of an entry of this kind, if it is a key
abbrev pub key_in : List ℕ → Option EntryKind → TapeEntry → Result (List ℕ) EncodeErrorKind
key_in bytes (Some kind.Key) e = within_data (content_of bytes e)
key_in bytes other e = Err wrong.Kind

-- the key of the first entry, and the entries after it
unfoldable pub after_key : List ℕ → List TapeEntry → Result (List ℕ × List TapeEntry) Fault
after_key bytes [] = Err (fault wrong.Missing 0)
after_key bytes (e ∷ es) = at (length (e ∷ es)) (key_in bytes (kind_of e.kind) e) >>= λ k. Ok (k, es)

-- an error if the key is one of those before it, if `left` entries are left, its own included
abbrev pub is_new : List (List ℕ) → List ℕ → ℕ → Result (Unit {0}) Fault
is_new seen k left = if among k seen then Err (fault wrong.DuplicateKey left) else Ok tt

-- an error if the entries are not `n` pairs, or a key is one of those before it
abbrev pub pairs : List ℕ → ℕ → List (List ℕ) → List TapeEntry → Result (Unit {0}) Fault
pairs bytes zero seen es = ends es
pairs bytes (suc n) seen es = after_key bytes es >>= λ k. is_new seen k.0 (length es) >>= λ done. after_value k.1 >>= λ rest. pairs bytes n (and_key k.0 seen) rest

-- the number of entries within a list or a map, if its span is not 0 and ends within the `n`
-- entries after it
abbrev pub inner_count : TapeEntry → ℕ → Option ℕ
inner_count e n = if e.len == 0 || nat_lt n (e.len - 1) then None else Some (e.len - 1)

-- the result of `inner` for the entries within a list or a map, or an error if its span is invalid
abbrev pub within : TapeEntry → List TapeEntry → (List TapeEntry → Result (Unit {0}) Fault) → Option ℕ → Result (Unit {0}) Fault
within e es inner None = Err (fault wrong.Span (suc (length es)))
within e es inner (Some n) = before (length es - n) (inner (take n es))

-- an error if an entry of this kind doesn't span the values or pairs that it counts
unfoldable pub spans : List ℕ → EntryKind → TapeEntry → List TapeEntry → Result (Unit {0}) Fault
spans bytes kind.List e es = within e es (values e.value) (inner_count e (length es))
spans bytes kind.Map e es = within e es (pairs bytes e.value []) (inner_count e (length es))
spans bytes other e es = Ok tt

-- ---- the order of a map's keys

-- Returns true if every key of `n` pairs comes after the one before it in length-first order, or
-- the first error. Returns false at the first key that doesn't.
abbrev pub ascending : List ℕ → ℕ → Option (List ℕ) → List TapeEntry → Result Bool Fault
ascending bytes zero last es = ends es >>= λ done. Ok true
ascending bytes (suc n) last es = after_key bytes es >>= λ k. if follows last k.0 then (after_value k.1 >>= λ rest. ascending bytes n (Some k.0) rest) else Ok false

-- True if the entry is not that of a map, or the pairs of the map are in length-first order of
-- their keys.
abbrev pub IsInTurn : List ℕ → EntryKind → TapeEntry → List TapeEntry → Type 0
IsInTurn bytes kind.Map e es = (n : ℕ) → inner_count e (length es) ≡ Some n → ascending bytes e.value None (take n es) ≡ Ok true
IsInTurn bytes other e es = Unit {0}
