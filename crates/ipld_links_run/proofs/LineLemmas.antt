-- The lines of an input, by the parts that a reader has buffered.
use Rattle.std.proofs.Common.{◌≡◌, ℕ, ◌+◌, ◌<◌, ◌++◌, Bool, true, false, not, eqb, eqb-true, ne_eqb, cond, List, [], ◌∷◌, length, take, get_or, get_or-take, length-take-le, take_all, le_refl, Option, None, Some, IfSome, IsSome, suc, refl, sym, ap, ◌∙◌, append_assoc, append-nil, arith}
use Rattle.std.proofs.lemmas.Bool.{false≢true}
use Rattle.std.proofs.lemmas.List.{take_more}
use Rattle.std.specs.Io.KnownBytes.{Keeps, Consumes}
use Rattle.ipld_codec.specs.Codec.{IsReadOut}
use Rattle.memchr.specs.Find.{IsFirstByte, Nowhere, Passes, is_byte}
use Rattle.ipld_links_run.specs.declared.lines.Part.{Part}
use Rattle.ipld_links_run.specs.declared.lines.Part.TheVariants.{Open, Ended, Last}
use Rattle.ipld_links_run.specs.Lines.{lines_of, onto_first, before_first, lines_behind, TakesLine, TakesPart}

before_first-append : (xs ys : List ℕ) (lines : List (List ℕ)) → before_first (xs ++ ys) lines ≡ before_first xs (before_first ys lines)
before_first-append [] ys lines = refl
before_first-append (x ∷ xs) ys lines = ap (onto_first x) (before_first-append xs ys lines)

before_first-line : (xs line : List ℕ) (rest : List (List ℕ)) → before_first xs (line ∷ rest) ≡ (xs ++ line) ∷ rest
before_first-line [] line rest = refl
before_first-line (x ∷ xs) line rest = ap (onto_first x) (before_first-line xs line rest)

before_first-none : (x : ℕ) (xs : List ℕ) → before_first (x ∷ xs) [] ≡ (x ∷ xs) ∷ []
before_first-none x [] = refl
before_first-none x (y ∷ ys) = ap (onto_first x) (before_first-none y ys)

-- no byte of these is a line feed
abbrev NoFeed : List ℕ → Type 0
NoFeed xs = (k : ℕ) → k < length xs → eqb (get_or xs k 0) 10 ≡ true → ⊥

with_first : (x : ℕ) (rest : List ℕ) (lines : List (List ℕ)) (b : Bool) → eqb x 10 ≡ b → (eqb x 10 ≡ true → ⊥) → lines_of rest ≡ lines
    → cond b ([] ∷ lines_of rest) (onto_first x (lines_of rest)) ≡ onto_first x lines
with_first x rest lines true is no_feed more = absurd (no_feed is)
with_first x rest lines false is no_feed more = ap (onto_first x) more

open_lines : (xs rest : List ℕ) → NoFeed xs → lines_of (xs ++ rest) ≡ before_first xs (lines_of rest)
unfolding lines_of
open_lines [] rest none = refl
open_lines (x ∷ xs) rest none =
    with_first x (xs ++ rest) (before_first xs (lines_of rest)) (eqb x 10) refl (none 0 (omega arith)) (open_lines xs rest (λ k within. none (suc k) (omega arith)))

-- a line feed ends the first line
ended_line : (rest : List ℕ) → lines_of (10 ∷ rest) ≡ [] ∷ lines_of rest
unfolding lines_of
ended_line rest = refl

no_lines : lines_of [] ≡ []
unfolding lines_of
no_lines = refl

-- only an empty input has no lines
lines_none : (input : List ℕ) → lines_of input ≡ [] → input ≡ []
unfolding lines_of
lines_none [] none = refl
lines_none (x ∷ xs) none = at (eqb x 10) none
  where
    some : (ls : List (List ℕ)) → onto_first x ls ≡ [] → x ∷ xs ≡ []
    some [] e = absurd cc
    some (l ∷ ls) e = absurd cc

    at : (b : Bool) → cond b ([] ∷ lines_of xs) (onto_first x (lines_of xs)) ≡ [] → x ∷ xs ≡ []
    at true e = absurd cc
    at false e = some (lines_of xs) e

no_feed_before : (shown : List ℕ) (end : ℕ) → end < length shown → Nowhere (Passes (is_byte 10) shown) 0 end → NoFeed (take end shown)
no_feed_before shown end within none k below is =
    let few : k < end = omega (arith, length-take-le end shown (omega arith)) in
    none k (omega arith) few (ap (λ b. eqb b 10) (sym (get_or-take end shown k 0 few)) ∙ is)

-- ---- what a look at the buffer takes

-- an interrupted read takes nothing
pub nothing_taken : (a b : Option (List ℕ)) (line : List ℕ) → Keeps a b → IfSome a (λ input. TakesPart Open line line input b)
nothing_taken None b line kept = tt
nothing_taken (Some x) None line kept = absurd kept
nothing_taken (Some x) (Some y) line kept =
    record { bytes = []; rest = y; line_is = sym (append-nil line); left_is = refl; lines_are = ap lines_of (sym kept); at_end = λ last. absurd cc }

-- nothing is left
pub end_seen : (a b : Option (List ℕ)) (line shown : List ℕ) → length shown ≡ 0 → IfSome a (λ xs. length shown ≡ 0 → xs ≡ []) → Keeps a b
    → IfSome a (λ input. TakesPart Last line line input b)
end_seen None b line shown none end kept = tt
end_seen (Some x) None line shown none end kept = absurd kept
end_seen (Some x) (Some y) line shown none end kept =
    record { bytes = []; rest = y; line_is = sym (append-nil line); left_is = refl; lines_are = ap lines_of (sym kept); at_end = λ last. kept ∙ end none }

-- the bytes up to a line feed are taken, and that
pub line_ended : (a c : Option (List ℕ)) (before line shown : List ℕ) (end : ℕ) → Consumes a c (take (end + 1) shown) → IsFirstByte (is_byte 10) shown (Some end)
    → line ≡ before ++ take end shown → IfSome a (λ input. TakesPart Ended before line input c)
line_ended None c before line shown end consumed first is = tt
line_ended (Some x) None before line shown end consumed first is = absurd consumed
line_ended (Some x) (Some y) before line shown end consumed first is =
    let within : end < length shown = first.0.high in
    let part : x ≡ take end shown ++ 10 ∷ y =
    consumed ∙ ap (λ front. front ++ y) (take_more shown end 0 within ∙ ap (λ b. take end shown ++ b ∷ []) (eqb-true (get_or shown end 0) 10 first.1)) ∙ append_assoc (take end shown) (10 ∷ []) y in
    record {
      bytes = take end shown;
      rest = y;
      line_is = is;
      left_is = refl;
      lines_are = ap lines_of part ∙ open_lines (take end shown) (10 ∷ y) (no_feed_before shown end within first.0.before) ∙ ap (before_first (take end shown)) (ended_line y);
      at_end = λ last. absurd cc;
    }

-- all that is buffered is taken
pub line_open : (a c : Option (List ℕ)) (before line shown : List ℕ) → Consumes a c (take (length shown) shown) → IsFirstByte (is_byte 10) shown None
    → line ≡ before ++ shown → IfSome a (λ input. TakesPart Open before line input c)
line_open None c before line shown consumed none is = tt
line_open (Some x) None before line shown consumed none is = absurd consumed
line_open (Some x) (Some y) before line shown consumed none is =
    record {
      bytes = shown;
      rest = y;
      line_is = is;
      left_is = refl;
      lines_are = ap lines_of (consumed ∙ ap (λ front. front ++ y) (take_all (length shown) shown (le_refl (length shown)))) ∙ open_lines shown y (λ k within. none k (omega arith) within);
      at_end = λ last. absurd cc;
    }

-- ---- a line of parts

-- the line so far stands before what is left
pub record Reads (input line : List ℕ) (left : Option (List ℕ)) : Type 0 where
  pub rest : List ℕ
  pub left_is : left ≡ Some rest
  pub lines_are : lines_of input ≡ before_first line (lines_of rest)

pub reads_start : (left : Option (List ℕ)) (line : List ℕ) → line ≡ [] → IfSome left (λ input. Reads input line left)
reads_start None line none = tt
reads_start (Some input) line none = record { rest = input; left_is = refl; lines_are = ap (λ l. before_first l (lines_of input)) (sym none) }

-- a part more
part_more : (input line more : List ℕ) (part : Part) (b c : Option (List ℕ)) → Reads input line b → IfSome b (λ rest. TakesPart part line more rest c)
    → (rest : List ℕ) × (c ≡ Some rest) × (lines_of input ≡ before_first more (lines_behind part rest)) × (part ≡ Last → rest ≡ [])
part_more input line more part b c so_far taken =
    let p = rw so_far.left_is at taken in (
      p.rest,
      p.left_is,
      so_far.lines_are ∙ ap (before_first line) p.lines_are ∙ sym (before_first-append line p.bytes (lines_behind part p.rest))
          ∙ ap (λ l. before_first l (lines_behind part p.rest)) (sym p.line_is),
      p.at_end,
    )

pub reads_more : (a b c : Option (List ℕ)) (line more : List ℕ) → IfSome a (λ input. Reads input line b) → IfSome b (λ rest. TakesPart Open line more rest c)
    → IfSome a (λ input. Reads input more c)
reads_more None b c line more so_far taken = tt
reads_more (Some input) b c line more so_far taken =
    let p = part_more input line more Open b c so_far taken in
    record { rest = p.0; left_is = p.1; lines_are = p.2 }

-- the line feed came
pub line_taken : (a b c : Option (List ℕ)) (line more : List ℕ) → IfSome a (λ input. Reads input line b) → IfSome b (λ rest. TakesPart Ended line more rest c)
    → IfSome a (λ input. TakesLine input true more c)
line_taken None b c line more so_far taken = tt
line_taken (Some input) b c line more so_far taken =
    let p = part_more input line more Ended b c so_far taken in
    (p.0, p.1, p.2 ∙ before_first-line more [] (lines_of p.0) ∙ ap (λ l. l ∷ lines_of p.0) (append-nil more))

-- the input ended
pub last_taken : (a b c : Option (List ℕ)) (line more : List ℕ) (found : Bool) → IfSome a (λ input. Reads input line b) → IfSome b (λ rest. TakesPart Last line more rest c)
    → found ≡ not (eqb (length more) 0) → IfSome a (λ input. TakesLine input found more c)
last_taken None b c line more found so_far taken is = tt
last_taken (Some input) b c line more found so_far taken is =
    let p = part_more input line more Last b c so_far taken in
    let none : lines_of p.0 ≡ [] = ap lines_of (p.3 refl) ∙ no_lines in
    at more is (p.1 ∙ ap Some (p.3 refl)) (p.2 ∙ ap (before_first more) none)
  where
    at : (more : List ℕ) → found ≡ not (eqb (length more) 0) → c ≡ Some [] → lines_of input ≡ before_first more [] → TakesLine input found more c
    at [] is left lines = rw is (lines_none input lines, left)
    at (x ∷ xs) is left lines = rw (is, ne_eqb (length (x ∷ xs)) 0 (λ e. absurd (omega arith))) ([], left, lines ∙ before_first-none x xs ∙ ap (λ l. (x ∷ xs) ∷ l) (sym no_lines))

-- ---- what is read to its end

pub read_out : (a b c : Option (List ℕ)) → IfSome a (λ _. IsSome b) → IsReadOut b c → IsReadOut a c
read_out None b c p q = tt
read_out (Some x) None c p q = absurd (false≢true p)
read_out (Some x) (Some y) c p q = q
