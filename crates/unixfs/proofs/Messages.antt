-- Messages: what is read is encoded, and what is encoded is read.
use Rattle.unixfs.specs.declared.data.DataType.{DataType}
use Rattle.std.proofs.Common.{◌≡◌, ℕ, Option, ◌+◌, ◌<◌, List, [], ◌++◌, length, Result, Ok, Err, inl, inr, refl, sym, ap, ◌∙◌, arith}
use Rattle.std.proofs.lemmas.List.{append-nil}
use Rattle.std.specs.Prelude.{IfSome, ◌^◌, ◌⊎◌}
use Rattle.ipld_cid.specs.Multihash.{IsBytes}
use Rattle.pb_wire.specs.Steps.{◌>>=◌}
use Rattle.pb_wire.specs.Wire.{IsNumber, IsNumberOf, IsContentOf}
use Rattle.pb_wire.proofs.Steps.{bind_ok, same_ok}
use Rattle.pb_wire.proofs.Optional.{From, from_number, no_key}
use Rattle.unixfs.specs.declared.error.Fault.{Fault}
use Rattle.unixfs.specs.declared.error.UnixFsError.{UnixFsError}
use Rattle.unixfs.specs.declared.error.UnixFsErrorKind.TheVariants.{Memory}
use Rattle.unixfs.specs.Errors.{error_in, no_memory}
use Rattle.unixfs.specs.Views.{IsOutOfMemory}
use Rattle.unixfs.specs.Data.{DataParts, code_of, IsTimeOf, IsNumbers, IsData}
use Rattle.unixfs.specs.Reading.{read_number, read_bytes, read_type, read_mode, read_end, read_numbers, read_mtime, is_data_key, HeadParts, DetailParts, read_head, read_details, data_parts, read_fields, in_message, read_data}
use Rattle.unixfs.proofs.Values.{number_front, number_back, bytes_front, bytes_back, type_front, type_back, mode_front, mode_back, numbers_front, numbers_back, from_numbers, end_sound}
use Rattle.unixfs.proofs.Times.{mtime_front, mtime_back, from_mtime}

-- ---- the first four fields

-- the first four fields, and what follows them
record HeadFront (h : HeadParts) (bytes rest : List ℕ) : Type 0 where
  data_type : List ℕ
  content : List ℕ
  filesize : List ℕ
  blocksizes : List ℕ
  data_type_encoded : IsNumber 1 (code_of h.data_type) data_type
  content_encoded : IsContentOf 2 h.content content
  filesize_encoded : IsNumberOf 3 h.filesize filesize
  blocksizes_encoded : IsNumbers 4 h.blocksizes blocksizes
  parts : bytes ≡ data_type ++ (content ++ (filesize ++ (blocksizes ++ rest)))
  rest_fits : IsBytes rest

head_front : (bytes : List ℕ) (h : HeadParts) (rest : List ℕ) → IsBytes bytes → read_head bytes ≡ Ok (h, rest) → HeadFront h bytes rest
unfolding read_head
head_front bytes h rest whole e =
    let t = bind_ok (read_type bytes) (λ t.
    read_bytes 18 t.1 >>= λ content.
    read_number 24 content.1 >>= λ filesize.
    read_numbers 32 filesize.1 >>= λ sizes.
    Ok (record { data_type = t.0; content = content.0; filesize = filesize.0; blocksizes = sizes.0 }, sizes.1)) (h, rest) e in
    let content = bind_ok (read_bytes 18 t.0.1) (λ content.
    read_number 24 content.1 >>= λ filesize.
    read_numbers 32 filesize.1 >>= λ sizes.
    Ok (record { data_type = t.0.0; content = content.0; filesize = filesize.0; blocksizes = sizes.0 }, sizes.1)) (h, rest) t.2 in
    let filesize = bind_ok (read_number 24 content.0.1) (λ filesize.
    read_numbers 32 filesize.1 >>= λ sizes.
    Ok (record { data_type = t.0.0; content = content.0.0; filesize = filesize.0; blocksizes = sizes.0 }, sizes.1)) (h, rest) content.2 in
    let sizes = bind_ok (read_numbers 32 filesize.0.1) (λ sizes.
    Ok (record { data_type = t.0.0; content = content.0.0; filesize = filesize.0.0; blocksizes = sizes.0 }, sizes.1)) (h, rest) filesize.2 in
    let first = type_front bytes t.0.0 t.0.1 whole t.1 in
    let second = bytes_front 2 t.0.1 content.0.0 content.0.1 first.rest_fits content.1 in
    let third = number_front 3 content.0.1 filesize.0.0 filesize.0.1 second.rest_fits filesize.1 in
    let fourth = numbers_front 4 filesize.0.1 sizes.0.0 sizes.0.1 third.rest_fits sizes.1 in
    same_ok (λ (p : HeadParts × List ℕ). HeadFront p.0 bytes p.1) (record { data_type = t.0.0; content = content.0.0; filesize = filesize.0.0; blocksizes = sizes.0.0 }, sizes.0.1) (h, rest) sizes.2 (record {
      data_type = first.taken;
      content = second.taken;
      filesize = third.taken;
      blocksizes = fourth.taken;
      data_type_encoded = first.is;
      content_encoded = second.is;
      filesize_encoded = third.is;
      blocksizes_encoded = fourth.is;
      parts = first.parts ∙ ap (λ (x : List ℕ). first.taken ++ x) (second.parts ∙ ap (λ (x : List ℕ). second.taken ++ x) (third.parts ∙ ap (λ (x : List ℕ). third.taken ++ x) fourth.parts));
      rest_fits = fourth.rest_fits;
    })

head_back : (h : HeadParts) (data_type content filesize blocksizes rest : List ℕ) → IsNumber 1 (code_of h.data_type) data_type → IsContentOf 2 h.content content → IsNumberOf 3 h.filesize filesize
    → IsNumbers 4 h.blocksizes blocksizes → From 40 rest → read_head (data_type ++ (content ++ (filesize ++ (blocksizes ++ rest)))) ≡ Ok (h, rest)
unfolding read_head
head_back h data_type content filesize blocksizes rest is_type is_content is_filesize are_sizes others =
    let sizes = from_numbers 4 40 h.blocksizes blocksizes rest are_sizes (omega arith) others in
    let size = from_number 3 32 h.filesize filesize (blocksizes ++ rest) is_filesize (omega arith) sizes in
    rw (
      type_back h.data_type data_type (content ++ (filesize ++ (blocksizes ++ rest))) is_type,
      bytes_back 2 h.content content (filesize ++ (blocksizes ++ rest)) is_content (no_key 18 24 (filesize ++ (blocksizes ++ rest)) (omega arith) size),
      number_back 3 h.filesize filesize (blocksizes ++ rest) is_filesize (no_key 24 32 (blocksizes ++ rest) (omega arith) sizes),
      numbers_back 4 h.blocksizes blocksizes rest are_sizes (no_key 32 40 rest (omega arith) others),
    ) refl

-- ---- the last four fields

record DetailsAre (d : DetailParts) (bytes : List ℕ) : Type 0 where
  hash_type : List ℕ
  fanout : List ℕ
  mode : List ℕ
  mtime : List ℕ
  hash_type_encoded : IsNumberOf 5 d.hash_type hash_type
  fanout_encoded : IsNumberOf 6 d.fanout fanout
  mode_encoded : IsNumberOf 7 d.mode mode
  mode_fits : IfSome d.mode (λ m. m < 2 ^ 32)
  mtime_encoded : IsTimeOf d.mtime mtime
  parts : bytes ≡ hash_type ++ (fanout ++ (mode ++ mtime))

details_sound : (bytes : List ℕ) (d : DetailParts) → IsBytes bytes → read_details bytes ≡ Ok d → DetailsAre d bytes
unfolding read_details
details_sound bytes d whole e =
    let hash_type = bind_ok (read_number 40 bytes) (λ hash_type.
    read_number 48 hash_type.1 >>= λ fanout.
    read_mode fanout.1 >>= λ mode.
    read_mtime mode.1 >>= λ mtime.
    read_end is_data_key mtime.1 >>= λ end.
    Ok (record { hash_type = hash_type.0; fanout = fanout.0; mode = mode.0; mtime = mtime.0 })) d e in
    let fanout = bind_ok (read_number 48 hash_type.0.1) (λ fanout.
    read_mode fanout.1 >>= λ mode.
    read_mtime mode.1 >>= λ mtime.
    read_end is_data_key mtime.1 >>= λ end.
    Ok (record { hash_type = hash_type.0.0; fanout = fanout.0; mode = mode.0; mtime = mtime.0 })) d hash_type.2 in
    let mode = bind_ok (read_mode fanout.0.1) (λ mode.
    read_mtime mode.1 >>= λ mtime.
    read_end is_data_key mtime.1 >>= λ end.
    Ok (record { hash_type = hash_type.0.0; fanout = fanout.0.0; mode = mode.0; mtime = mtime.0 })) d fanout.2 in
    let mtime = bind_ok (read_mtime mode.0.1) (λ mtime.
    read_end is_data_key mtime.1 >>= λ end.
    Ok (record { hash_type = hash_type.0.0; fanout = fanout.0.0; mode = mode.0.0; mtime = mtime.0 })) d mode.2 in
    let end = bind_ok (read_end is_data_key mtime.0.1) (λ end.
    Ok (record { hash_type = hash_type.0.0; fanout = fanout.0.0; mode = mode.0.0; mtime = mtime.0.0 })) d mtime.2 in
    let first = number_front 5 bytes hash_type.0.0 hash_type.0.1 whole hash_type.1 in
    let second = number_front 6 hash_type.0.1 fanout.0.0 fanout.0.1 first.rest_fits fanout.1 in
    let third = mode_front fanout.0.1 mode.0.0 mode.0.1 second.rest_fits mode.1 in
    let fourth = mtime_front mode.0.1 mtime.0.0 mtime.0.1 third.front.rest_fits mtime.1 in
    let none = end_sound is_data_key mtime.0.1 end.1 in
    same_ok (λ (x : DetailParts). DetailsAre x bytes) (record { hash_type = hash_type.0.0; fanout = fanout.0.0; mode = mode.0.0; mtime = mtime.0.0 }) d end.2 (record {
      hash_type = first.taken;
      fanout = second.taken;
      mode = third.front.taken;
      mtime = fourth.taken;
      hash_type_encoded = first.is;
      fanout_encoded = second.is;
      mode_encoded = third.front.is;
      mode_fits = third.fits;
      mtime_encoded = fourth.is;
      parts = first.parts ∙ ap (λ (x : List ℕ). first.taken ++ x) (second.parts ∙ ap (λ (x : List ℕ). second.taken ++ x) (third.front.parts ∙ ap (λ (x : List ℕ). third.front.taken ++ x)
          (fourth.parts ∙ ap (λ (x : List ℕ). fourth.taken ++ x) none ∙ append-nil fourth.taken)));
    })

-- what follows the sizes
details_from : (d : DetailParts) (bytes : List ℕ) (is : DetailsAre d bytes) → From 40 (is.hash_type ++ (is.fanout ++ (is.mode ++ (is.mtime ++ []))))
details_from d bytes is =
    from_number 5 48 d.hash_type is.hash_type (is.fanout ++ (is.mode ++ (is.mtime ++ []))) is.hash_type_encoded (omega arith)
    (from_number 6 56 d.fanout is.fanout (is.mode ++ (is.mtime ++ [])) is.fanout_encoded (omega arith)
    (from_number 7 66 d.mode is.mode (is.mtime ++ []) is.mode_encoded (omega arith) (from_mtime d.mtime is.mtime [] is.mtime_encoded (inl refl))))

details_back : (d : DetailParts) (bytes : List ℕ) (is : DetailsAre d bytes) → read_details (is.hash_type ++ (is.fanout ++ (is.mode ++ (is.mtime ++ [])))) ≡ Ok d
unfolding read_details read_end
details_back d bytes is =
    let time = from_mtime d.mtime is.mtime [] is.mtime_encoded (inl refl) in
    let mode = from_number 7 66 d.mode is.mode (is.mtime ++ []) is.mode_encoded (omega arith) time in
    let fanout = from_number 6 56 d.fanout is.fanout (is.mode ++ (is.mtime ++ [])) is.fanout_encoded (omega arith) mode in
    rw (
      number_back 5 d.hash_type is.hash_type (is.fanout ++ (is.mode ++ (is.mtime ++ []))) is.hash_type_encoded (no_key 40 48 (is.fanout ++ (is.mode ++ (is.mtime ++ []))) (omega arith) fanout),
      number_back 6 d.fanout is.fanout (is.mode ++ (is.mtime ++ [])) is.fanout_encoded (no_key 48 56 (is.mode ++ (is.mtime ++ [])) (omega arith) mode),
      mode_back d.mode is.mode (is.mtime ++ []) is.mode_encoded is.mode_fits (no_key 56 66 (is.mtime ++ []) (omega arith) time),
      mtime_back d.mtime is.mtime [] is.mtime_encoded (no_key 66 67 [] (omega arith) (inl refl)),
    ) refl

-- ---- messages

fields_sound : (bytes : List ℕ) (d : DataParts) → IsBytes bytes → read_fields bytes ≡ Ok d → IsData d bytes
unfolding read_fields
fields_sound bytes d whole e =
    let head = bind_ok (read_head bytes) (λ head. read_details head.1 >>= λ details. Ok (data_parts head.0 details)) d e in
    let details = bind_ok (read_details head.0.1) (λ details. Ok (data_parts head.0.0 details)) d head.2 in
    let first = head_front bytes head.0.0 head.0.1 whole head.1 in
    let last = details_sound head.0.1 details.0 first.rest_fits details.1 in
    same_ok (λ (x : DataParts). IsData x bytes) (data_parts head.0.0 details.0) d details.2 (record {
      data_type = first.data_type;
      content = first.content;
      filesize = first.filesize;
      blocksizes = first.blocksizes;
      hash_type = last.hash_type;
      fanout = last.fanout;
      mode = last.mode;
      mtime = last.mtime;
      data_type_encoded = first.data_type_encoded;
      content_encoded = first.content_encoded;
      filesize_encoded = first.filesize_encoded;
      blocksizes_encoded = first.blocksizes_encoded;
      hash_type_encoded = last.hash_type_encoded;
      fanout_encoded = last.fanout_encoded;
      mode_encoded = last.mode_encoded;
      mode_fits = last.mode_fits;
      mtime_encoded = last.mtime_encoded;
      encoded = first.parts ∙ ap (λ (x : List ℕ). first.data_type ++ (first.content ++ (first.filesize ++ (first.blocksizes ++ x)))) last.parts;
    })

-- a message without an error
in_message_ok : {A : Type 0} (len : ℕ) (r : Result A Fault) (x : A) → in_message len r ≡ Ok x → r ≡ Ok x
in_message_ok {A} len (Ok y) x e = ap Ok (same_ok (λ (z : A). y ≡ z) y x e refl)
in_message_ok len (Err f) x e = absurd cc

pub data_sound : (bytes : List ℕ) (d : DataParts) → IsBytes bytes → read_data bytes ≡ Ok d → IsData d bytes
unfolding read_data
data_sound bytes d whole e = fields_sound bytes d whole (in_message_ok (length bytes) (read_fields bytes) d e)

pub fields_complete : (bytes : List ℕ) (d : DataParts) → IsData d bytes → read_fields bytes ≡ Ok d
unfolding read_fields
fields_complete bytes d is =
    let h : HeadParts = record { data_type = d.data_type; content = d.content; filesize = d.filesize; blocksizes = d.blocksizes } in
    let l : DetailParts = record { hash_type = d.hash_type; fanout = d.fanout; mode = d.mode; mtime = d.mtime } in
    let last : List ℕ = is.hash_type ++ (is.fanout ++ (is.mode ++ is.mtime)) in
    let are : DetailsAre l last = record {
      hash_type = is.hash_type;
      fanout = is.fanout;
      mode = is.mode;
      mtime = is.mtime;
      hash_type_encoded = is.hash_type_encoded;
      fanout_encoded = is.fanout_encoded;
      mode_encoded = is.mode_encoded;
      mode_fits = is.mode_fits;
      mtime_encoded = is.mtime_encoded;
      parts = refl;
    } in
    let rest : List ℕ = is.hash_type ++ (is.fanout ++ (is.mode ++ (is.mtime ++ []))) in
    let whole : bytes ≡ is.data_type ++ (is.content ++ (is.filesize ++ (is.blocksizes ++ rest))) =
    is.encoded ∙ ap (λ (x : List ℕ). is.data_type ++ (is.content ++ (is.filesize ++ (is.blocksizes ++ (is.hash_type ++ (is.fanout ++ (is.mode ++ x))))))) (sym (append-nil is.mtime)) in
    ap (λ (x : List ℕ). read_head x >>= λ head. read_details head.1 >>= λ details. Ok (data_parts head.0 details)) whole
    ∙ ap (λ (r : Result (HeadParts × List ℕ) Fault). r >>= λ head. read_details head.1 >>= λ details. Ok (data_parts head.0 details))
    (head_back h is.data_type is.content is.filesize is.blocksizes rest is.data_type_encoded is.content_encoded is.filesize_encoded is.blocksizes_encoded (details_from l last are))
    ∙ ap (λ (r : Result DetailParts Fault). r >>= λ details. Ok (data_parts h details)) (details_back l last are)

pub data_complete : (bytes : List ℕ) (d : DataParts) → IsData d bytes → read_data bytes ≡ Ok d
unfolding read_data
data_complete bytes d is = ap (in_message (length bytes)) (fields_complete bytes d is)

-- ---- what callers are told

pub no_memory_left : (len : ℕ) (fault : Fault) (error : UnixFsError) → error ≡ error_in len fault → len < 2 ^ 64 → fault ≡ no_memory → IsOutOfMemory error
no_memory_left len fault error is short none =
    is ∙ ap (error_in len) none ∙ ap (λ (n : ℕ). record { kind = Memory; offset = n }) (omega arith)

pub error_told : (bytes : List ℕ) (fault : Fault) (error : UnixFsError) → error ≡ error_in (length bytes) fault → length bytes < 2 ^ 64 → (fault ≡ no_memory) ⊎ (read_fields bytes ≡ Err fault)
    → IsOutOfMemory error ⊎ (read_data bytes ≡ Err error)
unfolding read_data
error_told bytes fault error is short (inl none) = inl (no_memory_left (length bytes) fault error is short none)
error_told bytes fault error is short (inr read) = inr (ap (in_message (length bytes)) read ∙ ap Err (sym is))

pub only_memory : (bytes : List ℕ) (d : DataParts) (error : UnixFsError) → IsData d bytes → IsOutOfMemory error ⊎ (read_data bytes ≡ Err error) → IsOutOfMemory error
only_memory bytes d error is (inl none) = none
only_memory bytes d error is (inr read) = let found = data_complete bytes d is in absurd cc

pub message_told : (bytes : List ℕ) (d : DataParts) → read_fields bytes ≡ Ok d → read_data bytes ≡ Ok d
unfolding read_data
message_told bytes d read = ap (in_message (length bytes)) read

pub only_message : (bytes : List ℕ) (d other : DataParts) → read_data bytes ≡ Ok d → IsData other bytes → d ≡ other
only_message bytes d other read is = same_ok (λ (x : DataParts). d ≡ x) d other (sym read ∙ data_complete bytes other is) refl

-- ---- messages without sizes

-- the numbers of a head without sizes are none
pub head_sizes : (bytes a b c rest : List ℕ) (t : DataType) (content : Option (List ℕ)) (filesize : Option ℕ) (h : HeadParts) → read_type bytes ≡ Ok (t, a) → read_bytes 18 a ≡ Ok (content, b)
    → read_number 24 b ≡ Ok (filesize, c) → read_head bytes ≡ Ok (h, rest) → h.blocksizes ≡ [] → (last : List ℕ) × (read_numbers 32 c ≡ Ok ([], last))
unfolding read_head
head_sizes bytes a b c rest t content filesize h is_type is_content is_filesize read none =
    let e = rw (is_type, is_content, is_filesize) at read in
    let sizes = bind_ok (read_numbers 32 c) (λ sizes. Ok (record { data_type = t; content = content; filesize = filesize; blocksizes = sizes.0 }, sizes.1)) (h, rest) e in
    let same : sizes.0.0 ≡ [] = same_ok (λ (p : HeadParts × List ℕ). sizes.0.0 ≡ p.0.blocksizes)
    (record { data_type = t; content = content; filesize = filesize; blocksizes = sizes.0.0 }, sizes.0.1) (h, rest) sizes.2 refl ∙ none in
    (sizes.0.1, sizes.1 ∙ ap (λ (ns : List ℕ). Ok (ns, sizes.0.1)) same)

-- the head of a message without sizes has none
pub fields_head : (bytes : List ℕ) (d : DataParts) → read_fields bytes ≡ Ok d → d.blocksizes ≡ [] → (head : HeadParts × List ℕ) × (read_head bytes ≡ Ok head) × (head.0.blocksizes ≡ [])
unfolding read_fields
fields_head bytes d read none =
    let head = bind_ok (read_head bytes) (λ head. read_details head.1 >>= λ details. Ok (data_parts head.0 details)) d read in
    let details = bind_ok (read_details head.0.1) (λ details. Ok (data_parts head.0.0 details)) d head.2 in
    (head.0, head.1, same_ok (λ (x : DataParts). head.0.0.blocksizes ≡ x.blocksizes) (data_parts head.0.0 details.0) d details.2 refl ∙ none)
