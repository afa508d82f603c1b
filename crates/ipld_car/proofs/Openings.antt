-- What stands before the sections, by the bytes that were taken.
use Rattle.std.proofs.Common.{◌≡◌, ◌≢◌, ℕ, ◌+◌, ◌-◌, ◌^◌, ◌≤◌, nat_lt, Bool, true, false, List, [], ◌∷◌, ◌++◌, length, drop, map, Option, Some, None, Result, Ok, Err, inl, inr, refl, sym, ap, subst, ◌∙◌, arith, length-append, append_assoc, Vec, MatchResult}
use Rattle.std.proofs.KnownBytes.{Consumes-trans}
use Rattle.std.proofs.lemmas.Bool.{ltb-true, ltb-false}
use Rattle.std.specs.Io.KnownBytes.{Consumes}
use Rattle.std.specs.declared.alloc.Global.{Global}
use Rattle.ipld_cid.specs.Cid.{Link}
use Rattle.ipld_cid.specs.LinkOf.{link_of}
use Rattle.ipld_cid.specs.declared.cid.CidGeneric.{CidGeneric}
use Rattle.ipld_cid.specs.declared.error.CidError.TheVariants.{End}
use Rattle.ipld_cid.specs.Varint.{IsVarint, varint_of, read_varint}
use Rattle.ipld_cid.proofs.Varints.{varint_alone}
use Rattle.dag_cbor_format.specs.Encoding.{EncodesTree}
use Rattle.ipld_car.specs.declared.error.CarError.{CarError}
use Rattle.ipld_car.specs.declared.error.CarErrorKind.{CarErrorKind}
use Rattle.ipld_car.specs.declared.error.CarErrorKind.TheVariants.{Memory, UnexpectedEnd, ShortPayload, HeaderBlock, NotAHeader}
use Rattle.ipld_car.specs.declared.opening.Opening.{Opening}
use Rattle.ipld_car.specs.declared.version.CarVersion.TheVariants.{V1, V2}
use Rattle.ipld_car.specs.Fails.{Fails}
use Rattle.ipld_car.specs.Taking.{Ends}
use Rattle.ipld_car.specs.Framing.{IsFramed, FramingFault, ReadsFramed, fault_place}
use Rattle.ipld_car.specs.Header.{header_tree}
use Rattle.ipld_car.specs.Payload.{end_kind, short_kind, short_payload}
use Rattle.ipld_car.specs.HeaderReading.{ReadsRoots}
use Rattle.ipld_car.specs.Version2.{pragma_block, pragma, IsBeforePayload, Version2Fault, TakesToPayload, FailsBeforePayload}
use Rattle.ipld_car.specs.Opening.{Opens, IsHeaderWithin, IsNoPragma, BlockFault, HeaderFault, PayloadFault, OpenFault, in_header, in_version2, in_payload, ReadsHeaderBlock, ReadsRootsAt}
use Rattle.ipld_car.specs.OpeningOf as behind
use Rattle.ipld_car.proofs.SectionReading.{content_is}
use Rattle.ipld_car.proofs.OnlyFramed.{varint_read, rest_in}
use Rattle.ipld_car.proofs.Takings.{read_out_later}
use Rattle.ipld_car.proofs.Takings.{taking}

pub block_taken : (limit begin end : ℕ) (old new : Option (List ℕ)) (taken : List ℕ) (start : ℕ) → ReadsFramed limit (end - begin) old new taken (Ok (Some start))
    → ReadsHeaderBlock (taking limit begin end old new taken) (Ok start)
block_taken limit begin end old new taken start f = f

nothing : read_varint [] ≡ Err End
unfolding read_varint
nothing = refl

-- there is nothing
pub block_none : (limit begin end : ℕ) (old new : Option (List ℕ)) (taken : List ℕ) (error : CarError) → ReadsFramed limit (end - begin) old new taken (Ok None)
    → error ≡ record { kind = UnexpectedEnd; section = begin; offset = begin + 0 } → ReadsHeaderBlock (taking limit begin end old new taken) (Err error)
block_none limit begin end old new taken error f e = rw (e, f.0) (record {
  place = 0;
  section = refl;
  offset = refl;
  why = (inl nothing, subst (Ends (end - begin) old new) f.0 f.1, refl);
})

unframed : (limit room : ℕ) (old new : Option (List ℕ)) (taken : List ℕ) (kind : CarErrorKind) → FramingFault limit room old new taken kind
    → BlockFault limit room old new taken kind (fault_place kind (length taken))
unframed limit room old new taken UnexpectedEnd f = (f.0, f.2, refl)
unframed limit room old new taken _ f = (f, refl)

-- a fault of the block is one of the header
of_block : (limit room : ℕ) (old new : Option (List ℕ)) (taken : List ℕ) (kind : CarErrorKind) (place : ℕ) → BlockFault limit room old new taken kind place
    → HeaderFault limit room old new taken kind place
of_block limit room old new taken Memory place f = inl f
of_block limit room old new taken (HeaderBlock kind) place f = absurd f.0
of_block limit room old new taken NotAHeader place f = absurd f.0
of_block limit room old new taken _ place f = f

block_no_pragma : (limit room : ℕ) (old new : Option (List ℕ)) (taken : List ℕ) (kind : CarErrorKind) (place : ℕ) → BlockFault limit room old new taken kind place
    → IsNoPragma taken kind
block_no_pragma limit room old new taken NotAHeader place f = absurd f.0
block_no_pragma limit room old new taken _ place f = tt

-- the end of the file, or of the payload
at_end : (limit size : ℕ) (old new : Option (List ℕ)) (taken : List ℕ) (place : ℕ) (short : Bool) → nat_lt (length taken) size ≡ short → length taken ≤ size
    → BlockFault limit size old new taken UnexpectedEnd place → PayloadFault limit size old new taken (end_kind short size (length taken)) place
at_end limit size old new taken place true e within (cut, inl full, at) = absurd (let less = ltb-true (length taken) size e in omega arith)
at_end limit size old new taken place true e within (cut, inr out, at) = (record { cut = cut; short = ltb-true (length taken) size e; ends = out }, refl, refl, at)
at_end limit size old new taken place false e within f = (f.0, let more = ltb-false (length taken) size e in omega arith, f.2)

-- the fault of the block of a payload's header
payload_block : (limit size : ℕ) (old new : Option (List ℕ)) (taken : List ℕ) (kind : CarErrorKind) (place : ℕ) → length taken ≤ size
    → BlockFault limit size old new taken kind place → PayloadFault limit size old new taken (short_kind size (length taken) kind) place
payload_block limit size old new taken UnexpectedEnd place within f = at_end limit size old new taken place (nat_lt (length taken) size) refl within f
payload_block limit size old new taken Memory place within f = inl f
payload_block limit size old new taken (HeaderBlock kind) place within f = absurd f.0
payload_block limit size old new taken NotAHeader place within f = absurd f.0
payload_block limit size old new taken (ShortPayload expected found) place within f = absurd f.0
payload_block limit size old new taken _ place within f = f

pub block_fails : (limit begin end : ℕ) (old new : Option (List ℕ)) (taken : List ℕ) (kind : CarErrorKind) (place : ℕ) (error : CarError)
    → ReadsFramed limit (end - begin) old new taken (Err kind) → place ≡ fault_place kind (length taken)
    → error ≡ record { kind = kind; section = begin; offset = begin + place } → ReadsHeaderBlock (taking limit begin end old new taken) (Err error)
block_fails limit begin end old new taken kind place error f at e = rw e (record {
  place = place;
  section = refl;
  offset = refl;
  why = rw at (unframed limit (end - begin) old new taken kind f);
})

-- the bytes of a header
header_is : (limit room : ℕ) (taken : List ℕ) (start : ℕ) (roots : List Link) → IsFramed limit room taken start
    → EncodesTree (header_tree roots) (drop start taken) → IsHeaderWithin limit taken roots
header_is limit room taken start roots f e = record {
  header = record {
    size = f.size;
    block = f.content;
    size_encoded = f.size_encoded;
    block_encoded = subst (EncodesTree (header_tree roots)) (content_is limit room taken start f) e;
    encoded = f.encoded;
  };
  within_limit = f.within_limit;
}

roots_fault : (limit room : ℕ) (old new : Option (List ℕ)) (taken : List ℕ) (start : ℕ) (kind : CarErrorKind) → IsFramed limit room taken start
    → ReadsRoots (drop start taken) (Err kind) → HeaderFault limit room old new taken kind start
roots_fault limit room old new taken start Memory f r = inr f
roots_fault limit room old new taken start (HeaderBlock kind) f r = (f, r)
roots_fault limit room old new taken start NotAHeader f r = (f, r)
roots_fault limit room old new taken start _ f r = absurd r

payload_roots : (limit size : ℕ) (old new : Option (List ℕ)) (taken : List ℕ) (start : ℕ) (kind : CarErrorKind) → IsFramed limit size taken start
    → ReadsRoots (drop start taken) (Err kind) → PayloadFault limit size old new taken kind start
payload_roots limit size old new taken start Memory f r = inr f
payload_roots limit size old new taken start (HeaderBlock kind) f r = (f, r)
payload_roots limit size old new taken start NotAHeader f r = (f, r)
payload_roots limit size old new taken start _ f r = absurd r

ten_read : read_varint pragma ≡ Ok (10, pragma_block)
unfolding read_varint
ten_read = refl

-- the pragma is no block but its own
no_pragma : (limit room : ℕ) (taken : List ℕ) (start : ℕ) → IsFramed limit room taken start → (drop start taken ≡ pragma_block → ⊥) → taken ≢ pragma
no_pragma limit room taken start f other is =
    let read : read_varint pragma ≡ Ok (length f.content, f.content) = varint_read (length f.content) f.size f.content pragma f.size_encoded (sym is ∙ f.encoded) in
    other (content_is limit room taken start f ∙ ap rest_in (sym read ∙ ten_read))

roots_no_pragma : (limit room : ℕ) (taken : List ℕ) (start : ℕ) (kind : CarErrorKind) → IsFramed limit room taken start → (drop start taken ≡ pragma_block → ⊥)
    → IsNoPragma taken kind
roots_no_pragma limit room taken start NotAHeader f other = no_pragma limit room taken start f other
roots_no_pragma limit room taken start _ f other = tt

pub version1_opens : (limit : ℕ) (old new : Option (List ℕ)) (taken : List ℕ) (start : ℕ) (roots : Vec (CidGeneric 64) Global) → Consumes old new taken
    → length taken ≤ 2 ^ 64 - 1 - 0 → ReadsHeaderBlock (taking limit 0 (2 ^ 64 - 1) old new taken) (Ok start) → ReadsRootsAt (drop start taken) 0 start (Ok roots)
    → Opens limit old new V1 (map link_of roots.items) 0 (length taken) (2 ^ 64 - 1)
version1_opens limit old new taken start roots c within f r = record {
  bytes = taken;
  consumed = c;
  front = (header_is limit (2 ^ 64 - 1 - 0) taken start (map link_of roots.items) f r, refl, refl);
  position = refl;
  behind = omega arith;
  within = omega arith;
}

pub version1_header : (limit : ℕ) (old new : Option (List ℕ)) (taken : List ℕ) (error : CarError) → Consumes old new taken
    → ReadsHeaderBlock (taking limit 0 (2 ^ 64 - 1) old new taken) (Err error) → OpenFault limit old new error
version1_header limit old new taken error c f =
    in_header taken c (record { place = f.place; section = f.section; offset = f.offset; why = of_block limit (2 ^ 64 - 1) old new taken error.kind f.place f.why })
    (block_no_pragma limit (2 ^ 64 - 1) old new taken error.kind f.place f.why)

pub version1_roots : (limit : ℕ) (old new : Option (List ℕ)) (taken : List ℕ) (start : ℕ) (error : CarError) → Consumes old new taken
    → ReadsHeaderBlock (taking limit 0 (2 ^ 64 - 1) old new taken) (Ok start) → (drop start taken ≡ pragma_block → ⊥) → ReadsRootsAt (drop start taken) 0 start (Err error)
    → OpenFault limit old new error
version1_roots limit old new taken start error c f other r =
    in_header taken c (record { place = start; section = r.0; offset = r.1; why = roots_fault limit (2 ^ 64 - 1) old new taken start error.kind f r.2 })
    (roots_no_pragma limit (2 ^ 64 - 1) taken start error.kind f other)

pub ten : varint_of 10 ≡ 0x0a ∷ []
unfolding varint_of
ten = refl

-- a header whose block is the pragma's is the pragma
pub pragma_is : (limit room : ℕ) (taken : List ℕ) (start : ℕ) → IsFramed limit room taken start → drop start taken ≡ pragma_block → taken ≡ pragma
pragma_is limit room taken start f is =
    let content : f.content ≡ pragma_block = sym (content_is limit room taken start f) ∙ is in
    let size : f.size ≡ varint_of 10 = varint_alone 10 f.size (subst (λ xs. IsVarint (length xs) f.size) content f.size_encoded) in
    f.encoded ∙ ap (λ xs. xs ++ f.content) (size ∙ ten) ∙ ap (λ xs. (0x0a ∷ []) ++ xs) content

before_is : (start end : ℕ) (old new : Option (List ℕ)) → (t : TakesToPayload old new start end)
    → IsBeforePayload (pragma ++ (t.header ++ t.padding)) (end - start) × (length (pragma ++ (t.header ++ t.padding)) ≡ start)
before_is start end old new t =
    let long : length (pragma ++ (t.header ++ t.padding)) ≡ start =
    let a = length-append pragma (t.header ++ t.padding) in let b = length-append t.header t.padding in let s = t.sized in let p = t.padded in omega arith in (
      record {
        header = t.header;
        padding = t.padding;
        sized = t.sized;
        encoded = sym (append_assoc pragma t.header t.padding);
        begins = t.places.begins ∙ sym long;
        spans = let e = t.places.ends in omega arith;
        fits = let e = t.places.ends in let f = t.places.fits in omega arith;
      },
      long,
    )

pub version2_opens : (limit start end : ℕ) (old mid new : Option (List ℕ)) (taken : List ℕ) (place : ℕ) (roots : Vec (CidGeneric 64) Global) (opening : Opening)
    → TakesToPayload old mid start end → Consumes mid new taken → length taken ≤ end - start → start ≤ end
    → ReadsHeaderBlock (taking limit start end mid new taken) (Ok place) → ReadsRootsAt (drop place taken) start place (Ok roots)
    → opening ≡ record { roots = roots; version = V2; start = start; offset = start + length taken; end = end } → behind.OpensBehindPragma limit old new opening
version2_opens limit start end old mid new taken place roots opening t c within ordered f r e =
    let before = before_is start end old mid t in
    rw e (record {
      before = t.header ++ t.padding;
      header = taken;
      size = end - start;
      consumed = Consumes-trans old mid new (t.header ++ t.padding) taken t.consumed c;
      before_payload = before.0;
      is_header = header_is limit (end - start) taken place (map link_of roots.items) f r;
      version = refl;
      start = sym before.1;
      position = let l = before.1 in let a = length-append (pragma ++ (t.header ++ t.padding)) taken in omega arith;
      ends = let l = before.1 in omega arith;
      within = omega arith;
    })

pub version2_before : (limit : ℕ) (old new : Option (List ℕ)) (error : CarError) → FailsBeforePayload old new error → behind.FaultBehindPragma limit old new error
version2_before limit old new error f = behind.before_payload f.got f.consumed f.fails

-- what is said of what a later reading left is said of what the first began with
ends_later : (room : ℕ) (old mid new : Option (List ℕ)) (got taken : List ℕ) → Consumes old mid got → Ends room mid new taken → Ends room old new taken
ends_later room old mid new got taken c (inl e) = inl e
ends_later room old mid new got taken c (inr r) = inr (read_out_later old mid new got c r)

fault_later : (limit size : ℕ) (old mid new : Option (List ℕ)) (got taken : List ℕ) (kind : CarErrorKind) (place : ℕ) → Consumes old mid got
    → PayloadFault limit size mid new taken kind place → PayloadFault limit size old new taken kind place
fault_later limit size old mid new got taken (ShortPayload expected found) place c f =
    (record { cut = f.0.cut; short = f.0.short; ends = read_out_later old mid new got c f.0.ends }, f.1, f.2, f.3)
fault_later limit size old mid new got taken _ place c f = f

version2_later : (old mid new : Option (List ℕ)) (before got : List ℕ) (kind : CarErrorKind) (place : ℕ) → Consumes old mid before
    → Version2Fault mid new got kind place → Version2Fault old new got kind place
version2_later old mid new before got UnexpectedEnd place c f = (f.0, read_out_later old mid new before c f.1, f.2)
version2_later old mid new before got _ place c f = f

version2_fault : (limit start end : ℕ) (old mid new : Option (List ℕ)) (taken : List ℕ) (error : CarError)
    → TakesToPayload old mid start end → Consumes mid new taken → length taken ≤ end - start → Fails start (PayloadFault limit (end - start) mid new taken) error
    → behind.FaultBehindPragma limit old new error
version2_fault limit start end old mid new taken error t c within f =
    let before = before_is start end old mid t in
    behind.in_payload (t.header ++ t.padding) taken (end - start) before.0 within (Consumes-trans old mid new (t.header ++ t.padding) taken t.consumed c)
    (record {
      place = f.place;
      section = f.section ∙ sym before.1;
      offset = f.offset ∙ ap (λ n. n + f.place) (sym before.1);
      why = fault_later limit (end - start) old mid new (t.header ++ t.padding) taken error.kind f.place t.consumed f.why;
    })

pub version2_header : (limit start end : ℕ) (old mid new : Option (List ℕ)) (taken : List ℕ) (found : ℕ) (error : CarError)
    → TakesToPayload old mid start end → Consumes mid new taken → length taken ≤ end - start → found ≡ length taken
    → ReadsHeaderBlock (taking limit start end mid new taken) (Err error) → behind.FaultBehindPragma limit old new (short_payload (end - start) found error)
version2_header limit start end old mid new taken found error t c within counted f = rw counted (
    version2_fault limit start end old mid new taken (short_payload (end - start) (length taken) error) t c within (record {
      place = f.place;
      section = f.section;
      offset = f.offset;
      why = payload_block limit (end - start) mid new taken error.kind f.place within f.why;
    }))

pub version2_roots : (limit start end : ℕ) (old mid new : Option (List ℕ)) (taken : List ℕ) (place : ℕ) (error : CarError)
    → TakesToPayload old mid start end → Consumes mid new taken → ReadsHeaderBlock (taking limit start end mid new taken) (Ok place)
    → ReadsRootsAt (drop place taken) start place (Err error) → behind.FaultBehindPragma limit old new error
version2_roots limit start end old mid new taken place error t c f r =
    version2_fault limit start end old mid new taken error t c f.within_room
    (record { place = place; section = r.0; offset = r.1; why = payload_roots limit (end - start) mid new taken place error.kind f r.2 })

pragma_within : (limit room : ℕ) (taken : List ℕ) (start : ℕ) → IsFramed limit room taken start → drop start taken ≡ pragma_block → length pragma_block ≤ limit
pragma_within limit room taken start f is = subst (λ xs. length xs ≤ limit) (sym (content_is limit room taken start f) ∙ is) f.within_limit

-- the pragma and what is behind it
pub version2_all : (limit : ℕ) (old mid new : Option (List ℕ)) (taken : List ℕ) (start : ℕ) (opening : Opening) → Consumes old mid taken
    → ReadsHeaderBlock (taking limit 0 (2 ^ 64 - 1) old mid taken) (Ok start) → drop start taken ≡ pragma_block → behind.OpensVersion2 limit mid new (Ok opening)
    → Opens limit old new opening.version (map link_of opening.roots.items) opening.start opening.offset opening.end
version2_all limit old mid new taken start opening c f is o =
    let first : Consumes old mid pragma = subst (Consumes old mid) (pragma_is limit (2 ^ 64 - 1) taken start f is) c in
    rw o.version (record {
      bytes = pragma ++ (o.before ++ o.header);
      consumed = Consumes-trans old mid new pragma (o.before ++ o.header) first o.consumed;
      front = (
        pragma ++ o.before,
        o.header,
        o.size,
        sym (append_assoc pragma o.before o.header),
        o.before_payload,
        o.is_header,
        pragma_within limit (2 ^ 64 - 1) taken start f is,
        o.start,
        o.ends,
      );
      position = o.position ∙ ap length (append_assoc pragma o.before o.header);
      behind =
          let p = o.position in let s = o.start in let a = length-append (pragma ++ o.before) o.header in let b = ap length (append_assoc pragma o.before o.header) in omega arith;
      within = o.within;
    })

pub version2_fails : (limit : ℕ) (old mid new : Option (List ℕ)) (taken : List ℕ) (start : ℕ) (error : CarError) → Consumes old mid taken
    → ReadsHeaderBlock (taking limit 0 (2 ^ 64 - 1) old mid taken) (Ok start) → drop start taken ≡ pragma_block → behind.OpensVersion2 limit mid new (Err error)
    → OpenFault limit old new error
version2_fails limit old mid new taken start error c f is (behind.before_payload got g w) =
    let first : Consumes old mid pragma = subst (Consumes old mid) (pragma_is limit (2 ^ 64 - 1) taken start f is) c in
    in_version2 got (pragma_within limit (2 ^ 64 - 1) taken start f is) (Consumes-trans old mid new pragma got first g)
    (record { place = w.place; section = w.section; offset = w.offset; why = version2_later old mid new pragma got error.kind w.place first w.why })
version2_fails limit old mid new taken start error c f is (behind.in_payload before header size b within g w) =
    let first : Consumes old mid pragma = subst (Consumes old mid) (pragma_is limit (2 ^ 64 - 1) taken start f is) c in
    in_payload (pragma ++ before) header size (pragma_within limit (2 ^ 64 - 1) taken start f is) b within (subst (Consumes old new) (sym (append_assoc pragma before header)) (Consumes-trans old mid new pragma (before ++ header) first g))
    (record { place = w.place; section = w.section; offset = w.offset; why = fault_later limit size old mid new pragma header error.kind w.place first w.why })

pub version2_either : (limit : ℕ) (old mid new : Option (List ℕ)) (taken : List ℕ) (start : ℕ) (result : Result Opening CarError) → Consumes old mid taken
    → ReadsHeaderBlock (taking limit 0 (2 ^ 64 - 1) old mid taken) (Ok start) → drop start taken ≡ pragma_block → behind.OpensVersion2 limit mid new result
    → MatchResult result (λ opening. Opens limit old new opening.version (map link_of opening.roots.items) opening.start opening.offset opening.end)
    (OpenFault limit old new)
version2_either limit old mid new taken start (Ok opening) c f is o = version2_all limit old mid new taken start opening c f is o
version2_either limit old mid new taken start (Err error) c f is o = version2_fails limit old mid new taken start error c f is o
