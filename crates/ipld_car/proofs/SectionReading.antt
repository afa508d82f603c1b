-- A section, by the bytes that were taken.
use Rattle.std.proofs.Common.{◌≡◌, ℕ, ◌+◌, ◌-◌, ◌≤◌, Bool, true, false, List, ◌++◌, length, take, drop, Option, Some, None, Result, Ok, Err, refl, sym, ap, subst, ◌∙◌, arith, length-append, append_assoc, MatchResult}
use Rattle.std.proofs.Math.Seq.{drop-append_seam}
use Rattle.std.proofs.lemmas.List.{take-append-drop, take_rest}
use Rattle.ipld_cid.specs.Bytes.{read_cid}
use Rattle.ipld_cid.specs.Cid.{Link}
use Rattle.ipld_cid.specs.declared.error.CidError.{CidError}
use Rattle.ipld_cid.specs.Varint.{IsVarint}
use Rattle.ipld_cid.proofs.Encodings.{one_encoding}
use Rattle.ipld_car.specs.declared.error.CarError.{CarError}
use Rattle.ipld_car.specs.declared.error.CarErrorKind.{CarErrorKind}
use Rattle.ipld_car.specs.declared.error.CarErrorKind.TheVariants.{Cid}
use Rattle.ipld_cid.specs.Front.{BeginsWith}
use Rattle.ipld_car.specs.Taking.{Ends}
use Rattle.ipld_car.specs.Framing.{IsFramed, FramingFault, ReadsFramed, fault_place}
use Rattle.ipld_car.specs.Section.{Block}
use Rattle.ipld_car.specs.Reading.{TakingFault, NamesNone, TakesSection}
use Rattle.ipld_car.proofs.Takings.{taking}

-- what stands behind the length
pub content_is : (limit room : ℕ) (bytes : List ℕ) (start : ℕ) → (f : IsFramed limit room bytes start) → drop start bytes ≡ f.content
content_is limit room bytes start f = rw (f.encoded, ← f.starts) (drop-append_seam f.size f.content)

-- the last bytes
pub tail_is : (start : ℕ) (bytes front rest : List ℕ) → start ≤ length bytes → drop start bytes ≡ front ++ rest → drop (length bytes - length rest) bytes ≡ rest
tail_is start bytes front rest within e =
    let whole : bytes ≡ (take start bytes ++ front) ++ rest =
    sym (take-append-drop start bytes) ∙ ap (λ xs. take start bytes ++ xs) e ∙ sym (append_assoc (take start bytes) front rest) in
    let count : length bytes - length rest ≡ length (take start bytes ++ front) =
    let s = ap length whole ∙ length-append (take start bytes ++ front) rest in omega arith in
    ap (λ n. drop n bytes) count ∙ ap (drop (length (take start bytes ++ front))) whole ∙ drop-append_seam (take start bytes ++ front) rest

-- the bytes behind the CID, by their number
pub named : (start : ℕ) (bytes : List ℕ) (link : Link) (rest : List ℕ) → start ≤ length bytes → BeginsWith 64 (drop start bytes) link rest
    → BeginsWith 64 (drop start bytes) link (drop (length bytes - length rest) bytes)
named start bytes link rest within b = subst (BeginsWith 64 (drop start bytes) link) (sym (tail_is start bytes b.front rest within b.parts)) b

-- the section of a block
pub section_named : (limit begin end : ℕ) (old new : Option (List ℕ)) (taken : List ℕ) (start : ℕ) (block : Block)
    → ReadsFramed limit (end - begin) old new taken (Ok (Some start)) → BeginsWith 64 (drop start taken) block.cid block.bytes
    → TakesSection (taking limit begin end old new taken) block (Ok true)
section_named limit begin end old new taken start block f b =
    let content : f.content ≡ b.front ++ block.bytes = sym (content_is limit (end - begin) taken start f) ∙ b.parts in (
      record {
        size = f.size;
        cid = b.front;
        size_encoded = subst (λ xs. IsVarint (length xs) f.size) content f.size_encoded;
        cid_encoded = b.encoded;
        encoded = f.encoded ∙ ap (λ xs. f.size ++ xs) content ∙ sym (append_assoc f.size b.front block.bytes);
      },
      let e = ap length (content ∙ ap (λ xs. xs ++ block.bytes) (one_encoding 64 b.front block.cid b.encoded)) in let w = f.within_limit in omega arith,
      f.within_room,
    )

-- no CID stands behind the length
pub section_unnamed : (limit begin end : ℕ) (old new : Option (List ℕ)) (taken : List ℕ) (start : ℕ) (block : Block) (error : CarError)
    → ReadsFramed limit (end - begin) old new taken (Ok (Some start)) → NamesNone (drop start taken) begin start error
    → TakesSection (taking limit begin end old new taken) block (Err error)
section_unnamed limit begin end old new taken start block error f n = record {
  place = start;
  section = n.section;
  offset = n.offset;
  why = rw n.kind (record { framed = f; error_is = n.error_is; none = n.none });
}

-- there is nothing
pub section_none : (limit begin end : ℕ) (old new : Option (List ℕ)) (taken : List ℕ) (block : Block)
    → ReadsFramed limit (end - begin) old new taken (Ok None) → TakesSection (taking limit begin end old new taken) block (Ok false)
section_none limit begin end old new taken block f = (f.0, subst (Ends (end - begin) old new) f.0 f.1)

pub unframed : (limit room : ℕ) (old new : Option (List ℕ)) (taken : List ℕ) (kind : CarErrorKind) → FramingFault limit room old new taken kind
    → TakingFault limit room old new taken kind (fault_place kind (length taken))
unframed limit room old new taken (Cid error) f = absurd f
unframed limit room old new taken _ f = (f, refl)

-- the bytes are no varint and as many bytes as it says
pub section_fails : (limit begin end : ℕ) (old new : Option (List ℕ)) (taken : List ℕ) (block : Block) (kind : CarErrorKind) (place : ℕ) (error : CarError)
    → ReadsFramed limit (end - begin) old new taken (Err kind) → place ≡ fault_place kind (length taken)
    → error ≡ record { kind = kind; section = begin; offset = begin + place }
    → TakesSection (taking limit begin end old new taken) block (Err error)
section_fails limit begin end old new taken block kind place error f at e = rw e (record {
  place = place;
  section = refl;
  offset = refl;
  why = rw at (unframed limit (end - begin) old new taken kind f);
})

-- the same of the bytes as a slice lends them
pub named_in : (start n : ℕ) (bytes lent rest : List ℕ) (link : Link) → start ≤ length bytes → lent ≡ bytes → n ≡ length bytes
    → BeginsWith 64 (take (length lent - start) (drop start lent)) link rest → BeginsWith 64 (drop start bytes) link (drop (n - length rest) bytes)
named_in start n bytes lent rest link within is counted b =
    rw counted (named start bytes link rest within (subst (λ xs. BeginsWith 64 (drop start xs) link rest) is (subst (λ xs. BeginsWith 64 xs link rest) (take_rest lent start) b)))

pub named_none : (begin start : ℕ) (bytes lent : List ℕ) (reason : CidError) (error : CarError) → lent ≡ bytes
    → read_cid 64 (take (length lent - start) (drop start lent)) ≡ Err reason
    → ((link : Link) (rest : List ℕ) → BeginsWith 64 (take (length lent - start) (drop start lent)) link rest → ⊥)
    → error ≡ record { kind = Cid reason; section = begin; offset = begin + start } → NamesNone (drop start bytes) begin start error
named_none begin start bytes lent reason error is read none made =
    let slice : take (length lent - start) (drop start lent) ≡ drop start bytes = take_rest lent start ∙ ap (drop start) is in
    rw made (record {
      reason = reason;
      kind = refl;
      section = refl;
      offset = refl;
      error_is = ap (read_cid 64) (sym slice) ∙ read;
      none = λ link rest b. none link rest (subst (λ xs. BeginsWith 64 xs link rest) (sym slice) b);
    })

pub not_true : ◌≡◌ {A = Bool} false true → ⊥
not_true e = cc

-- what naming the block returns
pub section_either : (limit begin end : ℕ) (old new : Option (List ℕ)) (taken kept : List ℕ) (start : ℕ) (block : Block) (result : Result Bool CarError)
    → ReadsFramed limit (end - begin) old new taken (Ok (Some start)) → kept ≡ taken
    → MatchResult result (λ has. (has ≡ true) × BeginsWith 64 (drop start taken) block.cid block.bytes) (λ error. NamesNone (drop start taken) begin start error)
    → TakesSection (taking limit begin end old new kept) block result
section_either limit begin end old new taken kept start block (Ok true) f k n =
    subst (λ xs. TakesSection (taking limit begin end old new xs) block (Ok true)) (sym k) (section_named limit begin end old new taken start block f n.1)
section_either limit begin end old new taken kept start block (Ok false) f k n = absurd (not_true n.0)
section_either limit begin end old new taken kept start block (Err error) f k n =
    subst (λ xs. TakesSection (taking limit begin end old new xs) block (Err error)) (sym k) (section_unnamed limit begin end old new taken start block error f n)
