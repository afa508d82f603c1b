-- Sections, read one after the other.
use Rattle.std.proofs.Common.{◌≡◌, ℕ, ◌+◌, ◌-◌, ◌⊎◌, Bool, true, false, List, [], ◌∷◌, ◌++◌, length, Option, Some, None, Ok, Err, inl, inr, refl, sym, ap, subst, ◌∙◌, arith, append_assoc, append-nil, length-append}
use Rattle.std.proofs.KnownBytes.{Consumes-nil, Consumes-trans}
use Rattle.std.specs.Io.KnownBytes.{Consumes}
use Rattle.ipld_car.specs.declared.error.CarError.{CarError}
use Rattle.ipld_car.specs.declared.error.CarErrorKind.{CarErrorKind}
use Rattle.ipld_car.specs.declared.error.CarErrorKind.TheVariants.{UnexpectedEnd, ShortPayload, Cid}
use Rattle.ipld_car.specs.declared.reader.CarReader.{CarReader}
use Rattle.ipld_car.specs.Fails.{Fails}
use Rattle.ipld_car.specs.Padding.{IsPadded}
use Rattle.ipld_car.specs.Position.{Moves}
use Rattle.ipld_car.specs.Reading.{ReadsSection, SectionFault}
use Rattle.ipld_car.specs.Section.{Block, AreSections}
use Rattle.ipld_car.specs.Taking.{Take, Ends, IsReadOut}
use Rattle.car_files.specs.declared.error.CarFileError.{CarFileError}
use Rattle.car_files.specs.declared.error.CarFileError.TheVariants.{Memory, Car}
use Rattle.car_files.specs.Reading.{Reads, ReadsAll, NoSection, StopsAt, StopsNext, ReadsNext, IsErrorOf}
use Rattle.car_files.proofs.Streams.{read_from}

-- bytes were taken, and then the rest
read_out_later : (old mid new : Option (List ℕ)) (got : List ℕ) → Consumes old mid got → IsReadOut mid new → IsReadOut old new
read_out_later None mid new got c r = tt
read_out_later (Some xs) None new got c r = absurd c
read_out_later (Some xs) (Some ys) new got c r = r

ends_later : (room : ℕ) (old mid new : Option (List ℕ)) (got taken : List ℕ) → Consumes old mid got → Ends room mid new taken → Ends room old new taken
ends_later room old mid new got taken c (inl full) = inl full
ends_later room old mid new got taken c (inr out) = inr (read_out_later old mid new got c out)

padded_later : (allowed : Bool) (old mid new : Option (List ℕ)) (got : List ℕ) → Consumes old mid got → IsPadded allowed mid new → IsPadded allowed old new
padded_later allowed None None new got c p = p
padded_later allowed None (Some ys) new got c p = p.0
padded_later allowed (Some xs) None new got c p = absurd c
padded_later allowed (Some xs) (Some ys) new got c p = p

-- no section follows those that were read before and now
none_follows : (room : ℕ) (allowed : Bool) (old mid new : Option (List ℕ)) (got : List ℕ) → Consumes old mid got
    → Ends room mid new [] ⊎ IsPadded allowed mid new → Ends room old new [] ⊎ IsPadded allowed old new
none_follows room allowed old mid new got c (inl ends) = inl (ends_later room old mid new got [] c ends)
none_follows room allowed old mid new got c (inr padded) = inr (padded_later allowed old mid new got c padded)

fault_later : (limit room : ℕ) (old mid new : Option (List ℕ)) (got taken : List ℕ) (kind : CarErrorKind) (place : ℕ) → Consumes old mid got
    → SectionFault limit room mid new taken kind place → SectionFault limit room old new taken kind place
fault_later limit room old mid new got taken UnexpectedEnd place c f = ((f.0.0, f.0.1, ends_later room old mid new got taken c f.0.2), f.1)
fault_later limit room old mid new got taken (ShortPayload expected found) place c f =
    (record { cut = f.0.cut; short = f.0.short; ends = read_out_later old mid new got c f.0.ends }, f.1)
fault_later limit room old mid new got taken (Cid error) place c f = f
fault_later limit room old mid new got taken _ place c f = f

-- what was taken of the next section
abbrev pub section_from : {R : Type 0} → Option (List ℕ) → Option (List ℕ) → CarReader R → List ℕ → Take
section_from before after car taken =
    record { limit = car.limit; begin = car.offset; end = car.end; before = before; after = after; taken = taken }

-- a section that was read
pub next_found : {R : Type 0} (before after : Option (List ℕ)) (old new : CarReader R) (taken : List ℕ) (block : Block) → Consumes before after taken
    → Moves old new (length taken) → ReadsSection old.zero_padding (section_from before after old taken) block (Ok true) → ReadsNext (read_from before after old new) block (Ok true)
next_found before after old new taken block c m r =
    record { bytes = taken; consumed = c; sections = (taken, [], sym (append-nil taken), r.0, refl); moves = m }

-- there was none
pub next_none : {R : Type 0} (before after : Option (List ℕ)) (old new : CarReader R) (taken : List ℕ) (block : Block) → Consumes before after taken
    → Moves old new (length taken) → ReadsSection old.zero_padding (section_from before after old taken) block (Ok false) → ReadsNext (read_from before after old new) block (Ok false)
next_none before after old new taken block c m r =
    let none : length taken ≡ 0 = ap length r.0 in
    let here : new.offset ≡ old.offset = let at = m.offset in omega arith in
    record {
      reads = record { bytes = taken; consumed = c; sections = r.0; moves = m };
      ends = rw (here, m.end) r.1;
    }

-- the bytes were no section
pub next_fails : {R : Type 0} (before after : Option (List ℕ)) (old new : CarReader R) (taken : List ℕ) (block : Block) (error : CarError) (made : CarFileError)
    → Consumes before after taken → Moves old new (length taken) → ReadsSection old.zero_padding (section_from before after old taken) block (Err error)
    → IsErrorOf error made → ReadsNext (read_from before after old new) block (Err made)
next_fails before after old new taken block error Memory c m r i = tt
next_fails before after old new taken block error (Car same) c m r i =
    let at : old.offset ≡ old.offset + 0 = omega arith in
    subst (λ (e : CarError). StopsNext (read_from before after old new) (Car e)) (sym i.0) (
      record {
        blocks = [];
        front = [];
        taken = taken;
        consumed = c;
        sections = refl;
        moves = m;
        fails = subst (λ n. Fails n (SectionFault old.limit (old.end - n) before after taken) error) at r;
      },
      refl,
    )
next_fails before after old new taken block error _ c m r i = absurd i

moves_more : {R : Type 0} (old mid new : CarReader R) (a b : List ℕ) → Moves old mid (length a) → Moves mid new (length b) → Moves old new (length (a ++ b))
moves_more old mid new a b m n = record {
  offset = let e = length-append a b in let f = m.offset in let g = n.offset in omega arith;
  start = n.start ∙ m.start;
  end = n.end ∙ m.end;
  limit = n.limit ∙ m.limit;
  version = n.version ∙ m.version;
  roots = n.roots ∙ m.roots;
  zero_padding = n.zero_padding ∙ m.zero_padding;
}

pub sections_more : (a b : List ℕ) (xs ys : List Block) → AreSections a xs → AreSections b ys → AreSections (a ++ b) (xs ++ ys)
sections_more a b [] ys s t = rw s t
sections_more a b (x ∷ xs) ys s t =
    (s.0, s.1 ++ b, ap (λ l. l ++ b) s.2 ∙ append_assoc s.0 s.1 b, s.3, sections_more s.1 b xs ys s.4 t)

-- nothing was read yet
pub reads_none : {R : Type 0} (bytes : Option (List ℕ)) (car : CarReader R) → Reads (read_from bytes bytes car car) []
reads_none bytes car = record {
  bytes = [];
  consumed = Consumes-nil bytes;
  sections = refl;
  moves = record { offset = omega arith; start = refl; end = refl; limit = refl; version = refl; roots = refl; zero_padding = refl };
}

-- more blocks
pub reads_more : {R : Type 0} (before between after : Option (List ℕ)) (old mid new : CarReader R) (xs ys : List Block) → Reads (read_from before between old mid) xs
    → Reads (read_from between after mid new) ys → Reads (read_from before after old new) (xs ++ ys)
reads_more before between after old mid new xs ys r s = record {
  bytes = r.bytes ++ s.bytes;
  consumed = Consumes-trans before between after r.bytes s.bytes r.consumed s.consumed;
  sections = sections_more r.bytes s.bytes xs ys r.sections s.sections;
  moves = moves_more old mid new r.bytes s.bytes r.moves s.moves;
}

-- and no more
pub reads_all : {R : Type 0} (before between after : Option (List ℕ)) (old mid new : CarReader R) (xs : List Block) → Reads (read_from before between old mid) xs
    → ReadsAll (read_from between after mid new) [] → ReadsAll (read_from before after old new) xs
reads_all before between after old mid new xs r s = record {
  reads = subst (Reads (read_from before after old new)) (append-nil xs) (reads_more before between after old mid new xs [] r s.reads);
  ends = none_follows (new.end - new.offset) old.zero_padding before between after r.bytes r.consumed (rw (← r.moves.zero_padding) s.ends);
}

-- and then none: these are the blocks that were read
pub none_later : {R : Type 0} (before between after : Option (List ℕ)) (old mid new : CarReader R) (xs : List Block) (error : CarError)
    → Reads (read_from before between old mid) xs → (s : NoSection (read_from between after mid new) error) → s.blocks ≡ [] → (stops : NoSection (read_from before after old new) error) × (stops.blocks ≡ xs)
none_later before between after old mid new xs error r s none =
    let at : mid.offset + length s.front ≡ old.offset + length (r.bytes ++ s.front) =
    let e = length-append r.bytes s.front in let f = r.moves.offset in omega arith in
    let fails : Fails (old.offset + length (r.bytes ++ s.front)) (SectionFault mid.limit (mid.end - (mid.offset + length s.front)) between after s.taken) error =
    subst (λ n. Fails n (SectionFault mid.limit (mid.end - (mid.offset + length s.front)) between after s.taken) error) at s.fails in (
      record {
        blocks = xs;
        front = r.bytes ++ s.front;
        taken = s.taken;
        consumed = subst (Consumes before after) (sym (append_assoc r.bytes s.front s.taken))
            (Consumes-trans before between after r.bytes (s.front ++ s.taken) r.consumed s.consumed);
        sections = subst (AreSections (r.bytes ++ s.front)) (ap (λ (bs : List Block). xs ++ bs) none ∙ append-nil xs)
            (sections_more r.bytes s.front xs s.blocks r.sections s.sections);
        moves = subst (λ l. Moves old new (length l)) (sym (append_assoc r.bytes s.front s.taken)) (moves_more old mid new r.bytes (s.front ++ s.taken) r.moves s.moves);
        fails = record {
          place = fails.place;
          section = fails.section;
          offset = fails.offset;
          why = rw (← at, ← r.moves.limit, ← r.moves.end)
              (fault_later mid.limit (mid.end - (mid.offset + length s.front)) before between after r.bytes s.taken error.kind fails.place r.consumed fails.why);
        };
      },
      refl,
    )

pub stops_later : {R : Type 0} (before between after : Option (List ℕ)) (old mid new : CarReader R) (xs : List Block) (error : CarFileError)
    → Reads (read_from before between old mid) xs → StopsNext (read_from between after mid new) error → StopsAt (read_from before after old new) error
stops_later before between after old mid new xs Memory r s = tt
stops_later before between after old mid new xs (Car error) r s = (none_later before between after old mid new xs error r s.0 s.1).0
stops_later before between after old mid new xs _ r s = absurd s
