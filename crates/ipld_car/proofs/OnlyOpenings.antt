-- What stands before the sections, at the beginning of known bytes, is what is read of them.
use Rattle.std.proofs.Common.{◌≡◌, ℕ, pos, ◌+◌, ◌-◌, ◌^◌, ◌<◌, ◌≤◌, max, List, [], ◌∷◌, ◌++◌, length, drop, slice_range, codes, Option, Some, None, inl, inr, refl, sym, ap, subst, ◌∙◌, arith, append_assoc, append-nil, length-append}
use Rattle.std.proofs.lemmas.List.{append_cancel_left}
use Rattle.std.specs.Int.{w64, from_le_bytes}
use Rattle.std.specs.Io.KnownBytes.{Consumes}
use Rattle.ipld_cid.specs.Cid.{Link}
use Rattle.ipld_cid.specs.Varint.{IsVarint}
use Rattle.ipld_cid.proofs.Varints.{varint_encodes}
use Rattle.ipld_tree.specs.Limits.{Within}
use Rattle.ipld_tree.specs.Tree.{Tree, integer, entries, no_members, member}
use Rattle.ipld_tree.specs.Walk.{links_of, nest, items_nest}
use Rattle.dag_cbor_format.specs.declared.major.Major.TheVariants.{Unsigned, Map}
use Rattle.dag_cbor_format.specs.Canonical.{canonical, headed, joined}
use Rattle.dag_cbor_format.specs.Encoding.{EncodesTree}
use Rattle.dag_cbor_format.specs.Head.{head}
use Rattle.dag_cbor.specs.Lemmas.BlockLaws.{block_encoded_once, block_writes_encoded}
use Rattle.dag_cbor_blocks.specs.Within.{Stops}
use Rattle.dag_cbor_format.proofs.Ascii.{ascii_utf8}
use Rattle.dag_cbor_blocks.proofs.BlockLimits.{only_memory}
use Rattle.dag_cbor_blocks.proofs.Fits.{values_fit, allowed}
use Rattle.dag_cbor_format.proofs.Writing.{text_written}
use Rattle.ipld_car.specs.declared.error.CarError.{CarError}
use Rattle.ipld_car.specs.declared.error.CarErrorKind.{CarErrorKind}
use Rattle.ipld_car.specs.declared.error.CarErrorKind.TheVariants.{Memory, Read, UnexpectedEnd, ShortPayload, HeaderBlock, NotAHeader, Payload as NoPayload}
use Rattle.ipld_car.specs.declared.version.CarVersion.{CarVersion}
use Rattle.ipld_car.specs.declared.version.CarVersion.TheVariants.{V1, V2}
use Rattle.ipld_car.specs.Framing.{IsFramed}
use Rattle.ipld_car.specs.Header.{links, header_tree}
use Rattle.ipld_car.specs.HeaderReading.{header_limits, IsOtherBlock}
use Rattle.ipld_car.specs.Opening.{IsHeaderWithin, IsFront, Opens, IsNoPragma, HeaderFault, PayloadFault, OpenFault, in_header, in_version2, in_payload}
use Rattle.ipld_car.specs.Taking.{IsReaderError}
use Rattle.ipld_car.specs.Version2.{pragma_block, pragma, start_in, IsBeforePayload, Version2Fault}
use Rattle.ipld_car.proofs.Headers.{links_of_header}
use Rattle.ipld_car.proofs.OnlyFramed.{StandsNext, same_front, same_frame, same_content, long_enough, not_cut, no_framing_fault}
use Rattle.ipld_car.proofs.Openings.{ten, pragma_is}
use Rattle.ipld_car.proofs.SectionReading.{content_is}
use Rattle.ipld_car.proofs.Skipping.{start_kept}

-- ---- the block of a header

roots_flat : (roots : List Link) → items_nest (links roots) ≡ 0
roots_flat [] = refl
roots_flat (l ∷ roots) = ap (max 0) (roots_flat roots)

header_flat : (roots : List Link) → nest (header_tree roots) ≤ 2
header_flat roots = rw (roots_flat roots) (omega arith)

header_allowed : (roots : List Link) (block : List ℕ) → EncodesTree (header_tree roots) block → length block ≤ 2 ^ 64 - 1 → Within header_limits (header_tree roots)
header_allowed roots block e few = allowed header_limits 2 (header_tree roots) block e (header_flat roots) (omega arith) few

some_block : (roots : List Link) (block : List ℕ) → EncodesTree (header_tree roots) block → 0 < length block
some_block roots block e = omega (arith, values_fit (header_tree roots) block e)

header_stands : (limit room : ℕ) (bytes rest taken left : List ℕ) (roots : List Link) → (h : IsHeaderWithin limit bytes roots) → length bytes ≤ room
    → bytes ++ rest ≡ taken ++ left → StandsNext limit room h.header.block taken left
header_stands limit room bytes rest taken left roots h fits e = record {
  size = h.header.size;
  rest = rest;
  sized = h.header.size_encoded;
  some = some_block roots h.header.block h.header.block_encoded;
  within_limit = h.within_limit;
  within_room = let n = ap length h.header.encoded ∙ length-append h.header.size h.header.block in omega arith;
  taken_is = sym e ∙ ap (λ l. l ++ rest) h.header.encoded ∙ append_assoc h.header.size h.header.block rest;
}

framed_is : (limit room : ℕ) (content taken left : List ℕ) (place : ℕ) → StandsNext limit room content taken left → (f : IsFramed limit room taken place)
    → drop place taken ≡ content
framed_is limit room content taken left place s f =
    content_is limit room taken place f ∙ sym (same_content limit room content taken left f.size f.content s f.size_encoded f.encoded)

-- a block that stands next and has a tree is at fault only where it is no header
no_header_fault : (limit room : ℕ) (block taken left known : List ℕ) (new : Option (List ℕ)) (t : Tree) (kind : CarErrorKind) (place : ℕ)
    → StandsNext limit room block taken left → new ≡ Some left → EncodesTree t block → Within header_limits t
    → (kind ≡ NotAHeader → IsFramed limit room taken place → IsOtherBlock block → ⊥)
    → HeaderFault limit room (Some known) new taken kind place → IsReaderError kind
no_header_fault limit room block taken left known new t Memory place s is e w other f = tt
no_header_fault limit room block taken left known new t (HeaderBlock kind) place s is e w other f =
    absurd (f.1.1 (only_memory header_limits block t e w kind (subst (λ xs. Stops header_limits xs kind) (framed_is limit room block taken left place s f.0) f.1.0)))
no_header_fault limit room block taken left known new t NotAHeader place s is e w other f =
    absurd (other refl f.0 (subst IsOtherBlock (framed_is limit room block taken left place s f.0) f.1))
no_header_fault limit room block taken left known new t UnexpectedEnd place s is e w other f =
    absurd (not_cut limit room block taken left s (long_enough limit room block taken left new known s is f.1) f.0)
no_header_fault limit room block taken left known new t kind place s is e w other f = no_framing_fault limit room block taken left known new kind s is f.0

no_payload_fault : (limit room : ℕ) (block taken left known : List ℕ) (new : Option (List ℕ)) (t : Tree) (kind : CarErrorKind) (place : ℕ)
    → StandsNext limit room block taken left → new ≡ Some left → EncodesTree t block → Within header_limits t
    → (kind ≡ NotAHeader → IsFramed limit room taken place → IsOtherBlock block → ⊥)
    → PayloadFault limit room (Some known) new taken kind place → IsReaderError kind
no_payload_fault limit room block taken left known new t (ShortPayload expected found) place s is e w other f =
    absurd (not_cut limit room block taken left s (long_enough limit room block taken left new known s is (inr f.0.ends)) f.0.cut)
no_payload_fault limit room block taken left known new t UnexpectedEnd place s is e w other f =
    absurd (not_cut limit room block taken left s (long_enough limit room block taken left new known s is (inl f.1)) f.0)
no_payload_fault limit room block taken left known new t kind place s is e w other f =
    no_header_fault limit room block taken left known new t kind place s is e w other f

no_other : (roots : List Link) (block : List ℕ) → EncodesTree (header_tree roots) block → IsOtherBlock block → ⊥
no_other roots block e o = o.2 roots (block_encoded_once o.0 (header_tree roots) block o.1 e)

-- ---- the pragma

abbrev pragma_tree : Tree
pragma_tree = entries (member (codes "version") (integer (pos 2)) no_members)

pragma_written : canonical pragma_tree ≡ Some pragma_block
unfolding head
pragma_written = ap (λ o. headed Map 1 (joined (joined o (Some (head Unsigned 2))) (Some []))) (text_written (codes "version") (ascii_utf8 (codes "version") refl) (omega arith))

pragma_encoded : EncodesTree pragma_tree pragma_block
pragma_encoded = block_writes_encoded pragma_tree pragma_block pragma_written

pragma_sized : IsVarint 10 (0x0a ∷ [])
pragma_sized = subst (IsVarint 10) ten (varint_encodes 10 (omega arith))

pragma_allowed : Within header_limits pragma_tree
pragma_allowed = allowed header_limits 2 pragma_tree pragma_block pragma_encoded (omega arith) (omega arith) (omega arith)

pragma_stands : (limit : ℕ) (more taken left : List ℕ) → length pragma_block ≤ limit → pragma ++ more ≡ taken ++ left
    → StandsNext limit (2 ^ 64 - 1) pragma_block taken left
pragma_stands limit more taken left fits e = record {
  size = 0x0a ∷ [];
  rest = more;
  sized = pragma_sized;
  some = omega arith;
  within_limit = fits;
  within_room = omega arith;
  taken_is = sym e;
}

abbrev first_key : Tree → List ℕ
first_key (entries (member k t ms)) = k
first_key _ = []

-- the pragma is no header
no_header : (roots : List Link) → EncodesTree (header_tree roots) pragma_block → ⊥
no_header roots e =
    let same : pragma_tree ≡ header_tree roots = block_encoded_once pragma_tree (header_tree roots) pragma_block pragma_encoded e in
    let keys : ◌≡◌ {A = ℕ} 7 5 = ap (λ t. length (first_key t)) same in omega (arith, keys)

no_pragma_before : (limit : ℕ) (bytes rest more : List ℕ) (roots : List Link) → IsHeaderWithin limit bytes roots → bytes ++ rest ≡ pragma ++ more → ⊥
no_pragma_before limit bytes rest more roots h e =
    let same = same_frame (length h.header.block) 10 h.header.size h.header.block rest (0x0a ∷ []) pragma_block more h.header.size_encoded pragma_sized refl refl
    (sym (append_assoc h.header.size h.header.block rest) ∙ ap (λ l. l ++ rest) (sym h.header.encoded) ∙ e) in
    no_header roots (subst (EncodesTree (header_tree roots)) same.1 h.header.block_encoded)

-- ---- what stands before a payload

before_more : (before rest : List ℕ) (size : ℕ) → (b : IsBeforePayload before size) → before ++ rest ≡ pragma ++ (b.header ++ (b.padding ++ rest))
before_more before rest size b = ap (λ l. l ++ rest) b.encoded ∙ append_assoc (pragma ++ b.header) b.padding rest ∙ append_assoc pragma b.header (b.padding ++ rest)

before_long : (before : List ℕ) (size : ℕ) → (b : IsBeforePayload before size) → length before ≡ 51 + length b.padding
before_long before size b =
    let e = ap length b.encoded in let s = b.sized in
    let c = length-append (pragma ++ b.header) b.padding in let d = length-append pragma b.header in omega arith

two_befores : (before rest before_too rest_too : List ℕ) (size size_too : ℕ) → IsBeforePayload before size → IsBeforePayload before_too size_too
    → before ++ rest ≡ before_too ++ rest_too → (before ≡ before_too) × (size ≡ size_too) × (rest ≡ rest_too)
two_befores before rest before_too rest_too size size_too b c e =
    let behind = append_cancel_left pragma _ _ (sym (before_more before rest size b) ∙ e ∙ before_more before_too rest_too size_too c) in
    let header : b.header ≡ c.header = same_front b.header c.header (b.padding ++ rest) (c.padding ++ rest_too) behind (b.sized ∙ sym c.sized) in
    let long : length before ≡ length before_too = sym b.begins ∙ ap start_in header ∙ c.begins in
    let same : before ≡ before_too = same_front before before_too rest rest_too e long in (
      same,
      sym b.spans ∙ ap (λ h. from_le_bytes w64 (slice_range h 24 32)) header ∙ c.spans,
      append_cancel_left before_too rest rest_too (ap (λ l. l ++ rest) (sym same) ∙ e),
    )

-- the payload is where the header says
no_version2_fault : (before rest got left known : List ℕ) (new : Option (List ℕ)) (size : ℕ) (kind : CarErrorKind) (place : ℕ) → IsBeforePayload before size
    → before ++ rest ≡ (pragma ++ got) ++ left → new ≡ Some left → length before + size < 2 ^ 64 → Version2Fault (Some known) new got kind place → IsReaderError kind
no_version2_fault before rest got left known new size Memory place b e is fits f = tt
no_version2_fault before rest got left known new size (Read error) place b e is fits f = f.1
no_version2_fault before rest got left known new size UnexpectedEnd place b e is fits f =
    let none : left ≡ [] = let out = sym is ∙ f.1 in cc in
    let behind = append_cancel_left pragma _ _ (sym (append_assoc pragma got left) ∙ sym e ∙ before_more before rest size b) in
    let all : got ≡ b.header ++ (b.padding ++ rest) = sym (append-nil got) ∙ ap (λ l. got ++ l) (sym none) ∙ behind in
    let start : start_in got ≡ length before = ap start_in all ∙ start_kept b.header (b.padding ++ rest) b.sized ∙ b.begins in
    let long : length got ≡ 40 + (length b.padding + length rest) =
    let x = ap length all in let y = length-append b.header (b.padding ++ rest) in let z = length-append b.padding rest in let s = b.sized in omega arith in
    let whole = before_long before size b in
    absurd (elim f.2 [
      | inl few ↦ omega arith
      | inr cut ↦ let few = cut.1 in omega arith
    ])
no_version2_fault before rest got left known new size NoPayload place b e is fits f =
    let behind = append_cancel_left pragma _ _ (sym (append_assoc pragma got left) ∙ sym e ∙ before_more before rest size b) in
    let header : got ≡ b.header = same_front got b.header left (b.padding ++ rest) behind (f.1 ∙ sym b.sized) in
    let whole = before_long before size b in
    let begins = ap start_in header ∙ b.begins in
    let spans = ap (λ h. from_le_bytes w64 (slice_range h 24 32)) header ∙ b.spans in
    absurd (elim f.2 [
      | inl early ↦ omega arith
      | inr late ↦ omega arith
    ])
no_version2_fault before rest got left known new size _ place b e is fits f = absurd f

-- ---- all of it

consumed_of : (known taken : List ℕ) (new : Option (List ℕ)) → Consumes (Some known) new taken → (left : List ℕ) × (new ≡ Some left) × (known ≡ taken ++ left)
consumed_of known taken None c = absurd c
consumed_of known taken (Some left) c = (left, refl, c)

-- nothing is at fault before the sections of version 1
no_fault_in_1 : (limit : ℕ) (new : Option (List ℕ)) (error : CarError) (bytes rest : List ℕ) (roots : List Link) → IsHeaderWithin limit bytes roots
    → length bytes ≤ 2 ^ 64 - 1 → OpenFault limit (Some (bytes ++ rest)) new error → IsReaderError error.kind
no_fault_in_1 limit new error bytes rest roots h fits (in_header taken c f other) =
    let k = consumed_of (bytes ++ rest) taken new c in
    let block = h.header.block in
    let e = h.header.block_encoded in
    let s = header_stands limit (2 ^ 64 - 1) bytes rest taken k.0 roots h fits k.2 in
    no_header_fault limit (2 ^ 64 - 1) block taken k.0 (bytes ++ rest) new (header_tree roots) error.kind f.place s k.1 e
    (header_allowed roots block e (let w = s.within_room in omega arith)) (λ kind framed o. no_other roots block e o) f.why
no_fault_in_1 limit new error bytes rest roots h fits (in_version2 got limited c f) =
    let k = consumed_of (bytes ++ rest) (pragma ++ got) new c in
    absurd (no_pragma_before limit bytes rest (got ++ k.0) roots h (k.2 ∙ append_assoc pragma got k.0))
no_fault_in_1 limit new error bytes rest roots h fits (in_payload before taken size limited b short c f) =
    let k = consumed_of (bytes ++ rest) (before ++ taken) new c in
    absurd (no_pragma_before limit bytes rest (b.header ++ (b.padding ++ (taken ++ k.0))) roots h
    (k.2 ∙ append_assoc before taken k.0 ∙ before_more before (taken ++ k.0) size b))

-- nor before those of version 2
no_fault_in_2 : (limit : ℕ) (new : Option (List ℕ)) (error : CarError) (before header rest : List ℕ) (size : ℕ) (roots : List Link) → IsBeforePayload before size
    → IsHeaderWithin limit header roots → length pragma_block ≤ limit → length header ≤ size → length before + size < 2 ^ 64
    → OpenFault limit (Some (before ++ (header ++ rest))) new error → IsReaderError error.kind
no_fault_in_2 limit new error before header rest size roots b h few within fits (in_header taken c f other) =
    let k = consumed_of (before ++ (header ++ rest)) taken new c in
    let s = pragma_stands limit (b.header ++ (b.padding ++ (header ++ rest))) taken k.0 few (sym (before_more before (header ++ rest) size b) ∙ k.2) in
    no_header_fault limit (2 ^ 64 - 1) pragma_block taken k.0 (before ++ (header ++ rest)) new pragma_tree error.kind f.place s k.1 pragma_encoded pragma_allowed
    (λ kind framed o. subst (IsNoPragma taken) kind other
    (pragma_is limit (2 ^ 64 - 1) taken f.place framed (framed_is limit (2 ^ 64 - 1) pragma_block taken k.0 f.place s framed))) f.why
no_fault_in_2 limit new error before header rest size roots b h few within fits (in_version2 got limited c f) =
    let k = consumed_of (before ++ (header ++ rest)) (pragma ++ got) new c in
    no_version2_fault before (header ++ rest) got k.0 (before ++ (header ++ rest)) new size error.kind f.place b k.2 k.1 fits f.why
no_fault_in_2 limit new error before header rest size roots b h few within fits (in_payload before_too taken size_too limited d short c f) =
    let k = consumed_of (before ++ (header ++ rest)) (before_too ++ taken) new c in
    let same = two_befores before (header ++ rest) before_too (taken ++ k.0) size size_too b d (k.2 ∙ append_assoc before_too taken k.0) in
    let block = h.header.block in
    let e = h.header.block_encoded in
    let s = header_stands limit size header rest taken k.0 roots h within same.2 in
    no_payload_fault limit size block taken k.0 (before ++ (header ++ rest)) new (header_tree roots) error.kind f.place s k.1 e
    (header_allowed roots block e (let w = s.within_room in omega arith)) (λ kind framed o. no_other roots block e o)
    (subst (λ n. PayloadFault limit n (Some (before ++ (header ++ rest))) new taken error.kind f.place) (sym same.1) f.why)

-- where known bytes begin with what stands before the sections, nothing is at fault
pub no_open_fault : (limit : ℕ) (old new : Option (List ℕ)) (error : CarError) → OpenFault limit old new error
    → (version : CarVersion) (bytes rest : List ℕ) (roots : List Link) (start end : ℕ) → old ≡ Some (bytes ++ rest) → IsFront limit version bytes roots start end
    → length bytes ≤ end → end < 2 ^ 64 → IsReaderError error.kind
no_open_fault limit old new error f V1 bytes rest roots start end known front within fits =
    no_fault_in_1 limit new error bytes rest roots front.0 (let e = front.2 in omega arith) (subst (λ o. OpenFault limit o new error) known f)
no_open_fault limit old new error f V2 bytes rest roots start end known (before, header, size, parts, b, h, few, begins, ends) within fits =
    let e = ap length parts ∙ length-append before header in
    no_fault_in_2 limit new error before header rest size roots b h few (omega arith) (omega arith)
    (subst (λ o. OpenFault limit o new error) (known ∙ ap (λ l. Some (l ++ rest)) parts ∙ ap Some (append_assoc before header rest)) f)

-- two headers of the same bytes are one
two_headers : (limit : ℕ) (bytes rest bytes_too rest_too : List ℕ) (roots roots_too : List Link) → IsHeaderWithin limit bytes roots → IsHeaderWithin limit bytes_too roots_too
    → bytes ++ rest ≡ bytes_too ++ rest_too → (bytes ≡ bytes_too) × (roots ≡ roots_too)
two_headers limit bytes rest bytes_too rest_too roots roots_too h g e =
    let same = same_frame (length h.header.block) (length g.header.block) h.header.size h.header.block rest g.header.size g.header.block rest_too
    h.header.size_encoded g.header.size_encoded refl refl
    (sym (append_assoc h.header.size h.header.block rest) ∙ ap (λ l. l ++ rest) (sym h.header.encoded) ∙ e
    ∙ ap (λ l. l ++ rest_too) g.header.encoded ∙ append_assoc g.header.size g.header.block rest_too) in
    let trees = block_encoded_once (header_tree roots) (header_tree roots_too) h.header.block h.header.block_encoded
    (subst (EncodesTree (header_tree roots_too)) (sym same.1) g.header.block_encoded) in (
      h.header.encoded ∙ ap (λ l. l ++ h.header.block) same.0 ∙ ap (λ l. g.header.size ++ l) same.1 ∙ sym g.header.encoded,
      sym (links_of_header roots) ∙ ap links_of trees ∙ links_of_header roots_too,
    )

-- two fronts of the same bytes are one
two_fronts : (limit : ℕ) (version version_too : CarVersion) (bytes rest bytes_too rest_too : List ℕ) (roots roots_too : List Link) (start end start_too end_too : ℕ)
    → IsFront limit version bytes roots start end → IsFront limit version_too bytes_too roots_too start_too end_too → bytes ++ rest ≡ bytes_too ++ rest_too
    → (version ≡ version_too) × (roots ≡ roots_too) × (start ≡ start_too) × (bytes ≡ bytes_too) × (end ≡ end_too)
two_fronts limit V1 V1 bytes rest bytes_too rest_too roots roots_too start end start_too end_too f g e =
    let same = two_headers limit bytes rest bytes_too rest_too roots roots_too f.0 g.0 e in (refl, same.1, f.1 ∙ sym g.1, same.0, f.2 ∙ sym g.2)
two_fronts limit V1 V2 bytes rest bytes_too rest_too roots roots_too start end start_too end_too f (before, header, size, parts, b, h, few, begins, ends) e =
    absurd (no_pragma_before limit bytes rest (b.header ++ (b.padding ++ (header ++ rest_too))) roots f.0
    (e ∙ ap (λ l. l ++ rest_too) parts ∙ append_assoc before header rest_too ∙ before_more before (header ++ rest_too) size b))
two_fronts limit V2 V1 bytes rest bytes_too rest_too roots roots_too start end start_too end_too (before, header, size, parts, b, h, few, begins, ends) g e =
    absurd (no_pragma_before limit bytes_too rest_too (b.header ++ (b.padding ++ (header ++ rest))) roots_too g.0
    (sym e ∙ ap (λ l. l ++ rest) parts ∙ append_assoc before header rest ∙ before_more before (header ++ rest) size b))
two_fronts limit V2 V2 bytes rest bytes_too rest_too roots roots_too start end start_too end_too
    (before, header, size, parts, b, h, few, begins, ends) (before_too, header_too, size_too, parts_too, b_too, h_too, few_too, begins_too, ends_too) e =
    let same = two_befores before (header ++ rest) before_too (header_too ++ rest_too) size size_too b b_too
    (sym (append_assoc before header rest) ∙ ap (λ l. l ++ rest) (sym parts) ∙ e ∙ ap (λ l. l ++ rest_too) parts_too ∙ append_assoc before_too header_too rest_too) in
    let headers = two_headers limit header rest header_too rest_too roots roots_too h h_too same.2 in (
      refl,
      headers.1,
      begins ∙ ap length same.0 ∙ sym begins_too,
      parts ∙ ap (λ l. l ++ header) same.0 ∙ ap (λ l. before_too ++ l) headers.0 ∙ sym parts_too,
      ends ∙ ap (λ l. length l + size) same.0 ∙ ap (λ n. length before_too + n) same.1 ∙ sym ends_too,
    )

pub only_opens : (limit : ℕ) (old new : Option (List ℕ)) (version_too : CarVersion) (roots_too : List Link) (start_too offset end_too : ℕ)
    → Opens limit old new version_too roots_too start_too offset end_too
    → (version : CarVersion) (bytes rest : List ℕ) (roots : List Link) (start end : ℕ) → old ≡ Some (bytes ++ rest) → IsFront limit version bytes roots start end
    → (version_too ≡ version) × (roots_too ≡ roots) × (start_too ≡ start) × (offset ≡ length bytes) × (end_too ≡ end)
only_opens limit old new version_too roots_too start_too offset end_too o version bytes rest roots start end known front =
    let k = consumed_of (bytes ++ rest) o.bytes new (subst (λ x. Consumes x new o.bytes) known o.consumed) in
    let same = two_fronts limit version_too version o.bytes k.0 bytes rest roots_too roots start_too end_too start end o.front front (sym k.2) in
    (same.0, same.1, same.2, o.position ∙ ap length same.3, same.4)
