-- What is written for a message is the message.
use Rattle.std.proofs.Common.{◌≡◌, ℕ, suc, ◌+◌, ◌*◌, ◌<◌, ◌≤◌, ◌^◌, List, [], ◌∷◌, ◌++◌, length, Option, Some, None, Ok, Err, option_map, inl, inr, refl, sym, ap, subst, ◌∙◌, arith, append_assoc, length-append, get_or}
use Rattle.std.specs.Prelude.{IfSome, FitsSigned}
use Rattle.std.specs.Int.{w32, w64, cast_unsigned, to_le_bytes}
use Rattle.std.proofs.lemmas.Int.{to_z-of_z}
use Rattle.std.proofs.lemmas.Bool.{cases_eq}
use Rattle.std.proofs.Math.Facts.{Fits-lt-pow, Fits-of_z}
use Rattle.pb_wire.specs.Wire.{IsNumberOf, IsContentOf, IsFixed32Of}
use Rattle.pb_wire.specs.Writing.{number_bytes, fixed32_bytes}
use Rattle.ipld_cid.specs.Varint.{varint_of}
use Rattle.pb_wire.proofs.Written.{varint_written, number_written, content_written, fixed32_written}
use Rattle.dag_pb.specs.Writing.{content_of, number_of}
use Rattle.unixfs.specs.Data.{TimeParts, DataParts, code_of, fraction_of, IsTime, IsTimeOf, IsNumbers, IsData}
use Rattle.unixfs.specs.declared.data.DataType.{DataType}
use Rattle.unixfs.specs.declared.data.DataType.TheVariants.{Raw, Directory, File, Metadata, Symlink, HamtShard}
use Rattle.unixfs.specs.Writing.{fixed32_of, time_bytes, time_of, numbers_bytes, data_bytes, IsWritable, if_valid_time, written}
use Rattle.unixfs.specs.declared.data.UnixTime.{UnixTime}
use Rattle.unixfs.specs.declared.encode_error.UnixFsEncodeError.{UnixFsEncodeError}
use Rattle.unixfs.specs.Views.{parts_of_time}
use Rattle.unixfs.proofs.Times.{fraction_some}

number_of_written : (field : ℕ) (o : Option ℕ) → 8 * field + 0 < 2 ^ 64 → IfSome o (λ n. n < 2 ^ 64) → IsNumberOf field o (number_of (8 * field + 0) o)
number_of_written field None known fits = refl
number_of_written field (Some n) known fits = number_written field n known fits

content_of_written : (field : ℕ) (o : Option (List ℕ)) → 8 * field + 2 < 2 ^ 64 → IfSome o (λ c. length c < 2 ^ 64) → IsContentOf field o (content_of (8 * field + 2) o)
content_of_written field None known fits = refl
content_of_written field (Some c) known fits = content_written field c known fits

numbers_written : (field : ℕ) (ns : List ℕ) → 8 * field + 0 < 2 ^ 64 → ((i : ℕ) → get_or ns i 0 < 2 ^ 64) → IsNumbers field ns (numbers_bytes (8 * field + 0) ns)
numbers_written field [] known fits = refl
numbers_written field (n ∷ ns) known fits =
    (number_bytes (8 * field + 0) n, numbers_bytes (8 * field + 0) ns, number_written field n known (fits 0), numbers_written field ns known (λ i. fits (suc i)), refl)

-- a fraction that is 0 has no field
fraction_written : (n : ℕ) → n < 1000000000 → IsFixed32Of 2 (fraction_of n) (fixed32_of 21 (fraction_of n))
fraction_written n small =
    elim (cases_eq n 0) [
      | inl none ↦ subst (λ (x : ℕ). IsFixed32Of 2 (fraction_of x) (fixed32_of 21 (fraction_of x))) (sym none) refl
      | inr some ↦ rw (fraction_some n some) (fixed32_written 2 n (omega arith) (omega arith))
    ]

time_written : (t : TimeParts) → FitsSigned w64 t.seconds → t.nanoseconds < 1000000000 → IsTime t (time_bytes t)
unfolding time_bytes
time_written t fits small = record {
  number = cast_unsigned w64 t.seconds;
  seconds = number_bytes 8 (cast_unsigned w64 t.seconds);
  fraction = fixed32_of 21 (fraction_of t.nanoseconds);
  seconds_are = sym (to_z-of_z w64 t.seconds fits);
  seconds_encoded = number_written 1 (cast_unsigned w64 t.seconds) (omega arith) (Fits-lt-pow (Fits-of_z fits));
  below = small;
  fraction_encoded = fraction_written t.nanoseconds small;
  encoded = refl;
}

-- a time's message is short
fraction_short : (n : ℕ) → length (fixed32_of 21 (fraction_of n)) ≤ 20
unfolding fixed32_bytes
fraction_short n =
    elim (cases_eq n 0) [
      | inl none ↦ subst (λ (x : ℕ). length (fixed32_of 21 (fraction_of x)) ≤ 20) (sym none) (omega arith)
      | inr some ↦
          let key = varint_written 21 (omega arith) in
          let value : length (to_le_bytes w32 n) ≡ 4 = refl in
          rw (fraction_some n some) (omega (arith, length-append (varint_of 21) (to_le_bytes w32 n), key.short))
    ]

time_short : (t : TimeParts) → FitsSigned w64 t.seconds → length (time_bytes t) < 2 ^ 64
unfolding time_bytes number_bytes
time_short t fits =
    let key = varint_written 8 (omega arith) in
    let value = varint_written (cast_unsigned w64 t.seconds) (Fits-lt-pow (Fits-of_z fits)) in
    let fraction = fraction_short t.nanoseconds in
    omega (arith, length-append (varint_of 8 ++ varint_of (cast_unsigned w64 t.seconds)) (fixed32_of 21 (fraction_of t.nanoseconds)), length-append (varint_of 8) (varint_of (cast_unsigned w64 t.seconds)), key.short, value.short)

mtime_written : (o : Option TimeParts) → IfSome o (λ t. FitsSigned w64 t.seconds) → IfSome o (λ t. t.nanoseconds < 1000000000) → IsTimeOf o (time_of o)
mtime_written None fits small = refl
mtime_written (Some t) fits small = (time_bytes t, time_written t fits small, content_written 8 (time_bytes t) (omega arith) (time_short t fits))

code_fits : (t : DataType) → code_of t < 2 ^ 64
code_fits Raw = omega arith
code_fits Directory = omega arith
code_fits File = omega arith
code_fits Metadata = omega arith
code_fits Symlink = omega arith
code_fits HamtShard = omega arith

-- a mode is a number below 2^64
mode_wide : (o : Option ℕ) → IfSome o (λ n. n < 2 ^ 32) → IfSome o (λ n. n < 2 ^ 64)
mode_wide None fits = tt
mode_wide (Some n) fits = omega arith

pub data_written : (d : DataParts) → IsWritable d → IfSome d.mtime (λ t. t.nanoseconds < 1000000000) → IsData d (data_bytes d)
unfolding data_bytes
data_written d is small = record {
  data_type = number_bytes 8 (code_of d.data_type);
  content = content_of 18 d.content;
  filesize = number_of 24 d.filesize;
  blocksizes = numbers_bytes 32 d.blocksizes;
  hash_type = number_of 40 d.hash_type;
  fanout = number_of 48 d.fanout;
  mode = number_of 56 d.mode;
  mtime = time_of d.mtime;
  data_type_encoded = number_written 1 (code_of d.data_type) (omega arith) (code_fits d.data_type);
  content_encoded = content_of_written 2 d.content (omega arith) is.content;
  filesize_encoded = number_of_written 3 d.filesize (omega arith) is.filesize;
  blocksizes_encoded = numbers_written 4 d.blocksizes (omega arith) is.blocksizes;
  hash_type_encoded = number_of_written 5 d.hash_type (omega arith) is.hash_type;
  fanout_encoded = number_of_written 6 d.fanout (omega arith) is.fanout;
  mode_encoded = number_of_written 7 d.mode (omega arith) (mode_wide d.mode is.mode);
  mode_fits = is.mode;
  mtime_encoded = mtime_written d.mtime is.seconds small;
  encoded = refl;
}

-- the fields are what was appended
pub fields_written : (d : DataParts) (old a b c e f g h all : List ℕ) → a ≡ old ++ number_bytes 8 (code_of d.data_type) → b ≡ a ++ content_of 18 d.content → c ≡ b ++ number_of 24 d.filesize
    → e ≡ c ++ numbers_bytes 32 d.blocksizes → f ≡ e ++ number_of 40 d.hash_type → g ≡ f ++ number_of 48 d.fanout → h ≡ g ++ number_of 56 d.mode → all ≡ h ++ time_of d.mtime → all ≡ old ++ data_bytes d
unfolding data_bytes
fields_written d old a b c e f g h all a_is b_is c_is e_is f_is g_is h_is all_is = rw (all_is, h_is, g_is, f_is, e_is, c_is, b_is, a_is) (simp append_assoc)

-- the message is all that was appended
pub message_is : (d : DataParts) (start bytes : List ℕ) → start ≡ [] → bytes ≡ start ++ data_bytes d → data_bytes d ≡ bytes
message_is d start bytes empty is = sym (is ∙ ap (λ (x : List ℕ). x ++ data_bytes d) empty)

pub message_written : (d : DataParts) (bytes : List ℕ) → if_valid_time d.mtime (data_bytes d) ≡ Ok (data_bytes d) → data_bytes d ≡ bytes → written d ≡ Ok bytes
unfolding written
message_written d bytes valid is = valid ∙ ap Ok is

pub error_written : (d : DataParts) (error : UnixFsEncodeError) → if_valid_time d.mtime (data_bytes d) ≡ Err error → written d ≡ Err error
unfolding written
error_written d error e = e

pub time_parts : (o : Option UnixTime) → IfSome o (λ t. t.nanoseconds < 1000000000) → IfSome (option_map parts_of_time o) (λ t. t.nanoseconds < 1000000000)
time_parts None small = tt
time_parts (Some t) small = small
