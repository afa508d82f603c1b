-- The end of a payload, by that of the file.
use Rattle.std.proofs.Common.{◌≡◌, ℕ, ◌+◌, ◌-◌, ◌≤◌, nat_lt, Bool, true, false, List, [], length, Option, Result, Ok, Err, inl, inr, refl, sym, ap, ◌∙◌, arith}
use Rattle.std.proofs.lemmas.Bool.{ltb-true, ltb-false}
use Rattle.ipld_cid.specs.declared.error.CidError.TheVariants.{End}
use Rattle.ipld_cid.specs.Varint.{read_varint}
use Rattle.ipld_car.specs.declared.error.CarError.{CarError}
use Rattle.ipld_car.specs.declared.error.CarErrorKind.{CarErrorKind}
use Rattle.ipld_car.specs.declared.error.CarErrorKind.TheVariants.{UnexpectedEnd, ShortPayload}
use Rattle.ipld_car.specs.declared.version.CarVersion.TheVariants.{V1, V2}
use Rattle.ipld_car.specs.Padding.{IsPadded}
use Rattle.ipld_car.specs.Payload.{end_kind, short_kind, end_result, within_payload}
use Rattle.ipld_car.specs.Reading.{TakingFault, SectionFault, TakesSection, ReadsSection, EndOf, EndsOf, Leaves}
use Rattle.ipld_car.specs.Section.{Block}
use Rattle.ipld_car.specs.Taking.{Ends}
use Rattle.ipld_car.proofs.Takings.{taking}

pub same_fault : (limit room : ℕ) (old new : Option (List ℕ)) (taken : List ℕ) (kind : CarErrorKind) (place : ℕ) → TakingFault limit room old new taken kind place
    → SectionFault limit room old new taken kind place
same_fault limit room old new taken (ShortPayload expected found) place f = absurd f.0
same_fault limit room old new taken _ place f = f

first_end : (limit room size found : ℕ) (old new : Option (List ℕ)) (taken : List ℕ) (kind : CarErrorKind) (place : ℕ) → TakingFault limit room old new taken kind place
    → EndOf V1 size found kind
first_end limit room size found old new taken (ShortPayload expected came) place f = absurd f.0
first_end limit room size found old new taken _ place f = tt

-- version 1 ends with the file
pub version1_read : (limit begin end size found : ℕ) (old new : Option (List ℕ)) (taken : List ℕ) (block : Block) (result : Result Bool CarError)
    → TakesSection (taking limit begin end old new taken) block result → ReadsSection false (taking limit begin end old new taken) block result × EndsOf V1 size found (IsPadded false old new) result
version1_read limit begin end size found old new taken block (Ok true) r = (r, tt)
version1_read limit begin end size found old new taken block (Ok false) r = ((r.0, inl r.1), tt)
version1_read limit begin end size found old new taken block (Err error) r = (
  record { place = r.place; section = r.section; offset = r.offset; why = same_fault limit (end - begin) old new taken error.kind r.place r.why },
  first_end limit (end - begin) size found old new taken error.kind r.place r.why,
)

-- the fault of an end, of the file or of the payload
at_end : (limit room size found : ℕ) (old new : Option (List ℕ)) (taken : List ℕ) (place : ℕ) (short : Bool) → nat_lt found size ≡ short
    → room + found ≡ size + length taken → length taken ≤ room → TakingFault limit room old new taken UnexpectedEnd place
    → SectionFault limit room old new taken (end_kind short size found) place × EndOf V2 size found (end_kind short size found)
at_end limit room size found old new taken place true e counted within ((cut, some, inl full), at) = absurd (let less = ltb-true found size e in omega arith)
at_end limit room size found old new taken place true e counted within ((cut, some, inr out), at) =
    let less = ltb-true found size e in ((record { cut = cut; short = omega arith; ends = out }, at), (less, refl, refl))
at_end limit room size found old new taken place false e counted within f = let more = ltb-false found size e in (f, omega arith)

payload_fault : (limit room size found : ℕ) (old new : Option (List ℕ)) (taken : List ℕ) (kind : CarErrorKind) (place : ℕ) → room + found ≡ size + length taken
    → length taken ≤ room → TakingFault limit room old new taken kind place
    → SectionFault limit room old new taken (short_kind size found kind) place × EndOf V2 size found (short_kind size found kind)
payload_fault limit room size found old new taken UnexpectedEnd place counted within f = at_end limit room size found old new taken place (nat_lt found size) refl counted within f
payload_fault limit room size found old new taken (ShortPayload expected came) place counted within f = absurd f.0
payload_fault limit room size found old new taken _ place counted within f = (f, tt)

pub nothing : read_varint [] ≡ Err End
unfolding read_varint
nothing = refl

-- no section at the end of the file, or of the payload
none_left : (limit begin end size found offset : ℕ) (old new : Option (List ℕ)) (taken : List ℕ) (block : Block) (short : Bool) → nat_lt found size ≡ short
    → end - begin + found ≡ size + length taken → offset ≡ begin + length taken → (taken ≡ []) × Ends (end - begin) old new []
    → ReadsSection false (taking limit begin end old new taken) block (end_result short size found offset) × EndsOf V2 size found (IsPadded false old new) (end_result short size found offset)
none_left limit begin end size found offset old new taken block true e counted at (none, inl full) =
    absurd (let less = ltb-true found size e in let l : length taken ≡ 0 = ap length none in let z : 0 ≡ end - begin = full in omega arith)
none_left limit begin end size found offset old new taken block true e counted at (none, inr out) =
    let less = ltb-true found size e in
    let l : length taken ≡ 0 = ap length none in (
      record {
        place = 0;
        section = omega arith;
        offset = omega arith;
        why = (record { cut = inl (ap read_varint none ∙ nothing); short = omega arith; ends = out }, sym l);
      },
      (less, refl, refl),
    )
none_left limit begin end size found offset old new taken block false e counted at n =
    ((n.0, inl n.1), inl (let more = ltb-false found size e in let l : length taken ≡ 0 = ap length n.0 in omega arith))

-- the payload of version 2 has its own end
pub version2_read : (limit begin start end at : ℕ) (old new : Option (List ℕ)) (taken : List ℕ) (block : Block) (result : Result Bool CarError)
    → TakesSection (taking limit begin end old new taken) block result → length taken ≤ end - begin → start ≤ begin → begin ≤ end → at ≡ begin + length taken
    → ReadsSection false (taking limit begin end old new taken) block (within_payload (end - start) (at - start) at result)
    × EndsOf V2 (end - start) (at - start) (IsPadded false old new) (within_payload (end - start) (at - start) at result)
version2_read limit begin start end at old new taken block (Ok true) r within behind ordered is = (r, tt)
version2_read limit begin start end at old new taken block (Ok false) r within behind ordered is =
    none_left limit begin end (end - start) (at - start) at old new taken block (nat_lt (at - start) (end - start)) refl (omega arith) is r
version2_read limit begin start end at old new taken block (Err error) r within behind ordered is =
    let f = payload_fault limit (end - begin) (end - start) (at - start) old new taken error.kind r.place (omega arith) within r.why in
    (record { place = r.place; section = r.section; offset = r.offset; why = f.0 }, f.1)

leaves_none : (old new : Block) (size found at : ℕ) (short : Bool) → Leaves old new (Ok false) → Leaves old new (end_result short size found at)
leaves_none old new size found at true l = l
leaves_none old new size found at false l = l

pub leaves_kept : (old new : Block) (size found at : ℕ) (result : Result Bool CarError) → Leaves old new result → Leaves old new (within_payload size found at result)
leaves_kept old new size found at (Ok true) l = l
leaves_kept old new size found at (Ok false) l = leaves_none old new size found at (nat_lt found size) l
leaves_kept old new size found at (Err error) l = l
