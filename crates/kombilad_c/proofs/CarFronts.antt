-- The part of a CAR before its sections, of which some bytes are at hand.
use Rattle.std.proofs.Common.{◌≡◌, ℕ, ◌-◌, ◌<◌, ◌≤◌, ◌^◌, min, List, [], ◌∷◌, ◌++◌, length, drop, Option, Some, None, inl, inr, refl, sym, ap, subst, ◌∙◌, arith, append_assoc, append-nil, length-append}
use Rattle.std.specs.Prelude.{unwrap_or}
use Rattle.ipld_cid.specs.Cid.{Link}
use Rattle.std.proofs.Math.Seq.{drop-append_seam}
use Rattle.ipld_car.specs.declared.error.CarError.{CarError}
use Rattle.ipld_car.specs.declared.error.CarErrorKind.{CarErrorKind}
use Rattle.ipld_car.specs.declared.error.CarErrorKind.TheVariants.{Memory, Read, UnexpectedEnd, ShortPayload, LengthNotShortest, LengthTooLarge, Empty, TooLong, Cid, HeaderBlock, NotAHeader, Payload as NoPayload}
use Rattle.ipld_car.specs.Fails.{Fails}
use Rattle.ipld_car.specs.Framing.{IsCut}
use Rattle.ipld_car.specs.declared.version.CarVersion.{CarVersion}
use Rattle.ipld_car.specs.declared.version.CarVersion.TheVariants.{V1, V2}
use Rattle.ipld_car.specs.Opening.{IsFront, Opens, HeaderFault, PayloadFault, in_header, in_version2, in_payload}
use Rattle.ipld_car.specs.Position.{FaultOf, stated_end}
use Rattle.ipld_car.specs.Taking.{Ends}
use Rattle.ipld_car.specs.Version2.{pragma, IsBeforePayload, EndsBeforePayload, Version2Fault}
use Rattle.kombilad_c.proofs.CarParts.{IsShort}
use Rattle.kombilad_c.specs.CarPart as part
use Rattle.kombilad_c.specs.declared.car_place.CarPlace.{CarPlace}
use Rattle.kombilad_c.specs.CarPart.{Continues, NeedsMore, NeedsPayload, NeedsFront}

-- an end of the bytes, or of a payload, within a header
abbrev pub IsEnd : CarErrorKind → Type 0
IsEnd UnexpectedEnd = Unit {0}
IsEnd _ = ⊥

-- ---- with more bytes

further : (car more taken left : List ℕ) → car ≡ taken ++ left → car ++ more ≡ taken ++ (left ++ more)
further car more taken left e = ap (λ xs. xs ++ more) e ∙ append_assoc taken left more

header_further : (limit room : ℕ) (old new old_too new_too : Option (List ℕ)) (taken : List ℕ) (kind : CarErrorKind) (place : ℕ) → (IsEnd kind → ⊥)
    → HeaderFault limit room old new taken kind place → HeaderFault limit room old_too new_too taken kind place
header_further limit room old new old_too new_too taken Memory place other f = f
header_further limit room old new old_too new_too taken (Read error) place other f = f
header_further limit room old new old_too new_too taken UnexpectedEnd place other f = absurd (other tt)
header_further limit room old new old_too new_too taken (ShortPayload expected found) place other f = absurd f.0
header_further limit room old new old_too new_too taken LengthNotShortest place other f = f
header_further limit room old new old_too new_too taken LengthTooLarge place other f = f
header_further limit room old new old_too new_too taken Empty place other f = f
header_further limit room old new old_too new_too taken (TooLong n) place other f = f
header_further limit room old new old_too new_too taken (Cid error) place other f = absurd f.0
header_further limit room old new old_too new_too taken (HeaderBlock kind) place other f = f
header_further limit room old new old_too new_too taken NotAHeader place other f = f
header_further limit room old new old_too new_too taken NoPayload place other f = absurd f.0

version2_further : (old new old_too new_too : Option (List ℕ)) (got : List ℕ) (kind : CarErrorKind) (place : ℕ) → (IsEnd kind → ⊥)
    → Version2Fault old new got kind place → Version2Fault old_too new_too got kind place
version2_further old new old_too new_too got Memory place other f = f
version2_further old new old_too new_too got (Read error) place other f = f
version2_further old new old_too new_too got UnexpectedEnd place other f = absurd (other tt)
version2_further old new old_too new_too got NoPayload place other f = f
version2_further old new old_too new_too got _ place other f = absurd f

payload_further : (limit size : ℕ) (old new old_too new_too : Option (List ℕ)) (taken : List ℕ) (kind : CarErrorKind) (place : ℕ) → (IsShort kind → ⊥)
    → PayloadFault limit size old new taken kind place → PayloadFault limit size old_too new_too taken kind place
payload_further limit size old new old_too new_too taken Memory place other f = f
payload_further limit size old new old_too new_too taken (Read error) place other f = f
payload_further limit size old new old_too new_too taken UnexpectedEnd place other f = f
payload_further limit size old new old_too new_too taken (ShortPayload expected found) place other f = absurd (other tt)
payload_further limit size old new old_too new_too taken LengthNotShortest place other f = f
payload_further limit size old new old_too new_too taken LengthTooLarge place other f = f
payload_further limit size old new old_too new_too taken Empty place other f = f
payload_further limit size old new old_too new_too taken (TooLong n) place other f = f
payload_further limit size old new old_too new_too taken (Cid error) place other f = absurd f.0
payload_further limit size old new old_too new_too taken (HeaderBlock kind) place other f = f
payload_further limit size old new old_too new_too taken NotAHeader place other f = f
payload_further limit size old new old_too new_too taken NoPayload place other f = absurd f.0

fails_by : (begin : ℕ) (P Q : CarErrorKind → ℕ → Type 0) (error : CarError) → ((place : ℕ) → P error.kind place → Q error.kind place) → Fails begin P error → Fails begin Q error
fails_by begin P Q error by f = record { place = f.place; section = f.section; offset = f.offset; why = by f.place f.why }

before_long : (before : List ℕ) (size : ℕ) → IsBeforePayload before size → 51 ≤ length before
before_long before size is =
    let l = ap length is.encoded ∙ length-append (pragma ++ is.header) is.padding in
    let m = length-append pragma is.header in
    let h = is.sized in omega arith

-- an error that is not the end of the bytes is one of any bytes that begin with them
pub fault_further : (limit : ℕ) (car more : List ℕ) (error : CarError) → (IsShort error.kind → ⊥) → (IsEnd error.kind → 51 ≤ error.section)
    → FaultOf limit (Some car) error → FaultOf limit (Some (car ++ more)) error
fault_further limit car more error short end (None, in_header taken consumed fails no_pragma) = absurd consumed
fault_further limit car more error short end (None, in_version2 got limited consumed fails) = absurd consumed
fault_further limit car more error short end (None, in_payload before taken size limited is within consumed fails) = absurd consumed
fault_further limit car more error short end (Some left, in_header taken consumed fails no_pragma) = (
  Some (left ++ more),
  in_header taken (further car more taken left consumed) (fails_by 0 (HeaderFault limit (2 ^ 64 - 1) (Some car) (Some left) taken)
      (HeaderFault limit (2 ^ 64 - 1) (Some (car ++ more)) (Some (left ++ more)) taken) error
      (λ place f. header_further limit (2 ^ 64 - 1) (Some car) (Some left) (Some (car ++ more)) (Some (left ++ more)) taken error.kind place
      (λ is. let far = end is in let s = fails.section in absurd (omega arith)) f) fails) no_pragma,
)
fault_further limit car more error short end (Some left, in_version2 got limited consumed fails) = (
  Some (left ++ more),
  in_version2 got limited (further car more (pragma ++ got) left consumed) (fails_by 11 (Version2Fault (Some car) (Some left) got) (Version2Fault (Some (car ++ more)) (Some (left ++ more)) got) error
      (λ place f. version2_further (Some car) (Some left) (Some (car ++ more)) (Some (left ++ more)) got error.kind place
      (λ is. let far = end is in let s = fails.section in absurd (omega arith)) f) fails),
)
fault_further limit car more error short end (Some left, in_payload before taken size limited is within consumed fails) = (
  Some (left ++ more),
  in_payload before taken size limited is within (further car more (before ++ taken) left consumed) (fails_by (length before) (PayloadFault limit size (Some car) (Some left) taken)
      (PayloadFault limit size (Some (car ++ more)) (Some (left ++ more)) taken) error
      (λ place f. payload_further limit size (Some car) (Some left) (Some (car ++ more)) (Some (left ++ more)) taken error.kind place short f) fails),
)

-- ---- too few bytes

same_some : (xs : List ℕ) → ◌≡◌ {A = Option (List ℕ)} (Some xs) (Some []) → xs ≡ []
same_some xs e = cc

-- all bytes were taken
all_taken : (car taken left : List ℕ) → car ≡ taken ++ left → ◌≡◌ {A = Option (List ℕ)} (Some left) (Some []) → car ≡ taken
all_taken car taken left e out = e ∙ ap (λ xs. taken ++ xs) (same_some left out) ∙ append-nil taken

drop_before : (before taken car : List ℕ) (start section : ℕ) → car ≡ before ++ taken → section ≡ length before → start ≡ min (length car) section → drop start car ≡ taken
drop_before before taken car start section e s is =
    let l = ap length e ∙ length-append before taken in
    let at : start ≡ length before = omega (arith, min) in
    ap (drop start) e ∙ ap (λ (n : ℕ). drop n (before ++ taken)) at ∙ drop-append_seam before taken

-- what the header or the pragma needs
taken_ends : (car taken left : List ℕ) → length car < 2 ^ 64 - 1 → car ≡ taken ++ left → Ends (2 ^ 64 - 1) (Some car) (Some left) taken → car ≡ taken
taken_ends car taken left few e (inl full) = let l = ap length e ∙ length-append taken left in absurd (omega arith)
taken_ends car taken left few e (inr out) = all_taken car taken left e out

header_needs : (limit : ℕ) (car taken left : List ℕ) (kind : CarErrorKind) (place n : ℕ) → length car < 2 ^ 64 - 1 → IsEnd kind → car ≡ taken ++ left
    → HeaderFault limit (2 ^ 64 - 1) (Some car) (Some left) taken kind place → (IsCut limit car → length car < 2 ^ 64 - 1 → NeedsMore limit (2 ^ 64 - 1) car n)
    → NeedsFront limit car n
header_needs limit car taken left UnexpectedEnd place n few is e f needs =
    part.in_header (needs (subst (IsCut limit) (sym (taken_ends car taken left few e f.1)) f.0) few)
header_needs limit car taken left _ place n few is e f needs = absurd is

pub needs_in_header : (limit : ℕ) (car : List ℕ) (error : CarError) (n : ℕ) → length car < 2 ^ 64 - 1 → IsEnd error.kind → error.section ≡ 0 → FaultOf limit (Some car) error
    → ((l : ℕ) → IsCut l car → length car < 2 ^ 64 - 1 → NeedsMore l (2 ^ 64 - 1) car n) → NeedsFront limit car n
needs_in_header limit car error n few end none (None, in_header taken consumed fails no_pragma) needs = absurd consumed
needs_in_header limit car error n few end none (None, in_version2 got limited consumed fails) needs = absurd consumed
needs_in_header limit car error n few end none (None, in_payload before taken size limited is within consumed fails) needs = absurd consumed
needs_in_header limit car error n few end none (Some left, in_header taken consumed fails no_pragma) needs =
    header_needs limit car taken left error.kind fails.place n few end consumed fails.why (needs limit)
needs_in_header limit car error n few end none (Some left, in_version2 got limited consumed fails) needs = let s = fails.section in absurd (omega arith)
needs_in_header limit car error n few end none (Some left, in_payload before taken size limited is within consumed fails) needs =
    let s = fails.section in let l = before_long before size is in absurd (omega arith)

version2_needs : (limit : ℕ) (car got left : List ℕ) (kind : CarErrorKind) (place n : ℕ) → IsEnd kind → car ≡ (pragma ++ got) ++ left
    → Version2Fault (Some car) (Some left) got kind place
    → ((gotten : List ℕ) → car ≡ pragma ++ gotten → EndsBeforePayload gotten → NeedsPayload gotten n)
    → NeedsFront limit car n
version2_needs limit car got left UnexpectedEnd place n is e f needs =
    let all = all_taken car (pragma ++ got) left e f.1 in part.in_version2 got all (needs got all f.2)
version2_needs limit car got left _ place n is e f needs = absurd is

pub needs_in_version2 : (limit : ℕ) (car : List ℕ) (error : CarError) (n : ℕ) → IsEnd error.kind → (error.section ≡ 0 → ⊥) → error.section < 51 → FaultOf limit (Some car) error
    → ((got : List ℕ) → car ≡ pragma ++ got → EndsBeforePayload got → NeedsPayload got n) → NeedsFront limit car n
needs_in_version2 limit car error n end some few (None, in_header taken consumed fails no_pragma) needs = absurd consumed
needs_in_version2 limit car error n end some few (None, in_version2 got limited consumed fails) needs = absurd consumed
needs_in_version2 limit car error n end some few (None, in_payload before taken size limited is within consumed fails) needs = absurd consumed
needs_in_version2 limit car error n end some few (Some left, in_header taken consumed fails no_pragma) needs = absurd (some fails.section)
needs_in_version2 limit car error n end some few (Some left, in_version2 got limited consumed fails) needs =
    version2_needs limit car got left error.kind fails.place n end consumed fails.why needs
needs_in_version2 limit car error n end some few (Some left, in_payload before taken size limited is within consumed fails) needs =
    let s = fails.section in let l = before_long before size is in absurd (omega arith)

payload_needs : (limit : ℕ) (car before taken left : List ℕ) (size start section n place : ℕ) (kind : CarErrorKind) (expected found : ℕ) → IsBeforePayload before size
    → car ≡ (before ++ taken) ++ left → section ≡ length before → start ≡ min (length car) section → kind ≡ ShortPayload expected found
    → PayloadFault limit size (Some car) (Some left) taken kind place
    → ((l : ℕ) → IsCut l (drop start car) → length (drop start car) < expected → NeedsMore l expected (drop start car) n)
    → NeedsFront limit car n
payload_needs limit car before taken left size start section n place kind expected found is e s at same f needs =
    let g : PayloadFault limit size (Some car) (Some left) taken (ShortPayload expected found) place = subst (λ k. PayloadFault limit size (Some car) (Some left) taken k place) same f in
    let all : car ≡ before ++ taken = all_taken car (before ++ taken) left e g.0.ends in
    let rest : drop start car ≡ taken = drop_before before taken car start section all s at in
    let got : NeedsMore limit expected taken n =
    subst (λ xs. NeedsMore limit expected xs n) rest
    (needs limit (subst (IsCut limit) (sym rest) g.0.cut) (let l = ap length rest in let m = g.0.short in let x = g.1 in omega arith)) in
    part.in_payload before taken size is all (subst (λ (m : ℕ). NeedsMore limit m taken n) g.1 got)

pub needs_in_payload : (limit : ℕ) (car : List ℕ) (error : CarError) (start n expected found : ℕ) → error.kind ≡ ShortPayload expected found → start ≡ min (length car) error.section
    → FaultOf limit (Some car) error
    → ((l : ℕ) → IsCut l (drop start car) → length (drop start car) < expected → NeedsMore l expected (drop start car) n) → NeedsFront limit car n
needs_in_payload limit car error start n expected found same at (None, in_header taken consumed fails no_pragma) needs = absurd consumed
needs_in_payload limit car error start n expected found same at (None, in_version2 got limited consumed fails) needs = absurd consumed
needs_in_payload limit car error start n expected found same at (None, in_payload before taken size limited is within consumed fails) needs = absurd consumed
needs_in_payload limit car error start n expected found same at (Some left, in_header taken consumed fails no_pragma) needs =
    absurd (subst (λ k. HeaderFault limit (2 ^ 64 - 1) (Some car) (Some left) taken k fails.place) same fails.why).0
needs_in_payload limit car error start n expected found same at (Some left, in_version2 got limited consumed fails) needs =
    absurd (subst (λ k. Version2Fault (Some car) (Some left) got k fails.place) same fails.why)
needs_in_payload limit car error start n expected found same at (Some left, in_payload before taken size limited is within consumed fails) needs =
    payload_needs limit car before taken left size start error.section n fails.place error.kind expected found is consumed fails.section at same fails.why needs

-- ---- the whole CAR

none_gone : (gone : List ℕ) → length gone ≡ 0 → gone ≡ []
none_gone [] e = refl
none_gone (b ∷ gone) e = absurd (omega arith)

-- a CAR that begins with the bytes
pub from_front : (bytes car : List ℕ) (is_all : ℕ) → (k : Continues 0 bytes is_all car) → car ≡ bytes ++ k.more
from_front bytes car is_all k = k.parts ∙ ap (λ xs. xs ++ (bytes ++ k.more)) (none_gone k.gone k.before)

pub from_all : (bytes car : List ℕ) (is_all : ℕ) → (k : Continues 0 bytes is_all car) → (is_all ≡ 0 → ⊥) → car ≡ bytes
from_all bytes car is_all k all = from_front bytes car is_all k ∙ ap (λ xs. bytes ++ xs) (k.all all) ∙ append-nil bytes

open_end_in : (limit : ℕ) (version : CarVersion) (bytes : List ℕ) (roots : List Link) (start end : ℕ) → IsFront limit version bytes roots start end
    → unwrap_or (stated_end version end) (2 ^ 64 - 1) ≡ end
open_end_in limit V1 bytes roots start end f = sym f.2
open_end_in limit V2 bytes roots start end f = refl

pub opened_at : (limit : ℕ) (bytes more car left : List ℕ) (version : CarVersion) (roots : List Link) (start offset end at last : ℕ)
    → Opens limit (Some bytes) (Some left) version roots start offset end → car ≡ bytes ++ more → at ≡ offset → last ≡ unwrap_or (stated_end version end) (2 ^ 64 - 1)
    → Opens limit (Some car) (Some (left ++ more)) version roots start at last
opened_at limit bytes more car left version roots start offset end at last o e is_at is_last =
    rw (is_at, is_last ∙ open_end_in limit version o.bytes roots start end o.front) (record {
      bytes = o.bytes;
      consumed = e ∙ further bytes more o.bytes left o.consumed;
      front = o.front;
      position = o.position;
      behind = o.behind;
      within = o.within;
    })

pub last_of : (limit : ℕ) (version version_too : CarVersion) (bytes : List ℕ) (roots : List Link) (start end end_too last : ℕ) → IsFront limit version bytes roots start end
    → version_too ≡ version → end_too ≡ end → last ≡ unwrap_or (stated_end version_too end_too) (2 ^ 64 - 1) → last ≡ end
last_of limit version version_too bytes roots start end end_too last f v e is =
    is ∙ ap (λ w. unwrap_or (stated_end w end_too) (2 ^ 64 - 1)) v ∙ ap (λ (n : ℕ). unwrap_or (stated_end version n) (2 ^ 64 - 1)) e
    ∙ open_end_in limit version bytes roots start end f

pub same_place : (v w a b e f : ℕ) → v ≡ w → a ≡ b → e ≡ f → ◌≡◌ {A = CarPlace} (record { version = v; at = a; end = e }) (record { version = w; at = b; end = f })
same_place v w a b e f p q r = rw (p, q, r) refl

pub not_end : (kind : CarErrorKind) → (kind ≡ UnexpectedEnd → ⊥) → IsEnd kind → ⊥
not_end UnexpectedEnd other is = other refl
not_end _ other is = is
