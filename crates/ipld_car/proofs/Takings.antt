-- Bytes of a reader, taken piece by piece.
use Rattle.std.proofs.Common.{◌≡◌, ℕ, ◌+◌, ◌-◌, ◌<◌, List, [], ◌++◌, length, true, false, IfSome, Option, Some, None, Ok, Err, refl, sym, ap, ◌∙◌, arith, append_assoc, append-nil, length-append}
use Rattle.std.proofs.KnownBytes.{Consumes-nil, Consumes-trans}
use Rattle.std.specs.Io.KnownBytes.{Consumes, Keeps}
use Rattle.ipld_car.specs.declared.error.CarErrorKind.{CarErrorKind}
use Rattle.ipld_car.specs.Taking.{Take, TakesSome, Fills, IsReaderError, IsReadOut}

-- what is taken of a section or a header, by its parts
abbrev pub taking : ℕ → ℕ → ℕ → Option (List ℕ) → Option (List ℕ) → List ℕ → Take
taking limit begin end before after taken =
    record { limit = limit; begin = begin; end = end; before = before; after = after; taken = taken }

-- the reader lent nothing, and so is at its end
pub takes_none : (old new : Option (List ℕ)) (before s : List ℕ) (most : ℕ) → Keeps old new → IfSome old (λ xs. length s ≡ 0 → xs ≡ []) → length s ≡ 0
    → TakesSome old new before before most (Ok None)
takes_none None new before s most kept ends none = record { got = []; behind = sym (append-nil before); consumed = tt; outcome = (refl, tt) }
takes_none (Some xs) None before s most kept ends none = absurd kept
takes_none (Some xs) (Some ys) before s most kept ends none =
    record { got = []; behind = sym (append-nil before); consumed = sym kept; outcome = (refl, ap Some (kept ∙ ends none)) }

-- bytes were taken, and then the rest
pub read_out_later : (old mid new : Option (List ℕ)) (got : List ℕ) → Consumes old mid got → IsReadOut mid new → IsReadOut old new
read_out_later None mid new got c r = tt
read_out_later (Some xs) None new got c r = absurd c
read_out_later (Some xs) (Some ys) new got c r = r

-- some of `count` bytes were taken, and some are left
pub record FillsSoFar (old new : Option (List ℕ)) (before after : List ℕ) (count left : ℕ) : Type 0 where
  pub got : List ℕ
  pub behind : after ≡ before ++ got
  pub consumed : Consumes old new got
  pub total : length got + left ≡ count
  pub some : 0 < left

pub fills_none : (old : Option (List ℕ)) (before : List ℕ) (count : ℕ) → 0 < count → FillsSoFar old old before before count count
fills_none old before count some = record { got = []; behind = sym (append-nil before); consumed = Consumes-nil old; total = omega arith; some = some }

pub fills_zero : (old : Option (List ℕ)) (before : List ℕ) (count : ℕ) → count ≡ 0 → Fills old old before before count (Ok true)
fills_zero old before count none = record { got = []; behind = sym (append-nil before); consumed = Consumes-nil old; outcome = sym none }

joined : (before mid after a b : List ℕ) → mid ≡ before ++ a → after ≡ mid ++ b → after ≡ before ++ (a ++ b)
joined before mid after a b p q = q ∙ ap (λ l. l ++ b) p ∙ append_assoc before a b

-- a piece more, and more is left
pub fills_more : (old mid new : Option (List ℕ)) (before between after : List ℕ) (count left n : ℕ)
    → FillsSoFar old mid before between count left → TakesSome mid new between after left (Ok (Some n)) → 0 < left - n
    → FillsSoFar old new before after count (left - n)
fills_more old mid new before between after count left n f t some = record {
  got = f.got ++ t.got;
  behind = joined before between after f.got t.got f.behind t.behind;
  consumed = Consumes-trans old mid new f.got t.got f.consumed t.consumed;
  total = let e = length-append f.got t.got in let o = t.outcome in let k = f.total in omega arith;
  some = some;
}

-- the last piece
pub fills_all : (old mid new : Option (List ℕ)) (before between after : List ℕ) (count left n : ℕ)
    → FillsSoFar old mid before between count left → TakesSome mid new between after left (Ok (Some n)) → left - n ≡ 0
    → Fills old new before after count (Ok true)
fills_all old mid new before between after count left n f t none = record {
  got = f.got ++ t.got;
  behind = joined before between after f.got t.got f.behind t.behind;
  consumed = Consumes-trans old mid new f.got t.got f.consumed t.consumed;
  outcome = let e = length-append f.got t.got in let o = t.outcome in let k = f.total in omega arith;
}

-- the reader is at its end
pub fills_part : (old mid new : Option (List ℕ)) (before between after : List ℕ) (count left : ℕ)
    → FillsSoFar old mid before between count left → TakesSome mid new between after left (Ok None)
    → Fills old new before after count (Ok false)
fills_part old mid new before between after count left f t = record {
  got = f.got ++ t.got;
  behind = joined before between after f.got t.got f.behind t.behind;
  consumed = Consumes-trans old mid new f.got t.got f.consumed t.consumed;
  outcome = (let e = length-append f.got t.got in let o = ap length t.outcome.0 in let k = f.total in let m = f.some in omega arith, read_out_later old mid new f.got f.consumed t.outcome.1);
}

-- the reader failed
pub fills_until : (old mid new : Option (List ℕ)) (before between after : List ℕ) (count left : ℕ) (kind : CarErrorKind)
    → FillsSoFar old mid before between count left → TakesSome mid new between after left (Err kind)
    → Fills old new before after count (Err kind)
fills_until old mid new before between after count left kind f t = record {
  got = f.got ++ t.got;
  behind = joined before between after f.got t.got f.behind t.behind;
  consumed = Consumes-trans old mid new f.got t.got f.consumed t.consumed;
  outcome = (let e = length-append f.got t.got in let o = ap length t.outcome.0 in let k = f.total in let m = f.some in omega arith, t.outcome.1);
}

-- the reader never gives more
pub fills_never : (old new : Option (List ℕ)) (before after : List ℕ) (count left : ℕ) (kind : CarErrorKind)
    → FillsSoFar old new before after count left → IsReaderError kind → Fills old new before after count (Err kind)
fills_never old new before after count left kind f e = record {
  got = f.got;
  behind = f.behind;
  consumed = f.consumed;
  outcome = (let k = f.total in let m = f.some in omega arith, e);
}
