-- The steps of a walk.
use Rattle.std.proofs.Common.{◌≡◌, ℕ, zero, suc, ◌+◌, ◌-◌, ◌≤◌, ◌<◌, Bool, true, false, List, [], ◌∷◌, ◌++◌, length, map, Option, Some, None, inl, inr, refl, sym, ap, subst, ◌∙◌, arith, length-append, length-drop, length-take, append-nil, drop, min}
use Rattle.std.specs.Prelude.{◌==◌, not, if◌then◌else◌, nat_lt, ◌^◌, reverse, option_to_list, unwrap_or, IsSome}
use Rattle.std.proofs.lemmas.Bool.{ltb-false, eqb-true}
use Rattle.std.proofs.lemmas.List.{reverse-append}
use Rattle.std.proofs.lemmas.List.Elements.{All-nil}
use Rattle.std.proofs.lemmas.Option.{none-some}
use Rattle.ipld_block.specs.Digest.{digest_by}
use Rattle.ipld_cid.specs.Cid.{Link}
use Rattle.ipld_cid.specs.LinkOf.{link_of}
use Rattle.unixfs.specs.Files.{Child, HasSize, Range, at_most, slice, past, IsOutside, IsPart}
use Rattle.unixfs_files.specs.declared.error.PartError.{PartError}
use Rattle.unixfs_files.specs.declared.error.PartError.TheVariants.{PartSize, TooLarge, TooManyBlocks, TooDeep, TooManyParts}
use Rattle.unixfs_files.specs.declared.state.FileWalk.{FileWalk}
use Rattle.unixfs_files.specs.declared.state.WaitingPart.{WaitingPart}
use Rattle.unixfs_files.specs.Parts.{Part, agrees}
use Rattle.unixfs_files.specs.Walking.{range_of, at_most_number, count_in, parts_left, excess, HaveLevel, Skips, skips_none, skips_one}

-- ---- what comes next

-- the next part, and those behind it
abbrev pub behind : FileWalk → List WaitingPart
behind walk = reverse walk.waiting.items

pub is_next : (walk : FileWalk) (next : WaitingPart) → walk.next ≡ Some next → parts_left walk ≡ next ∷ behind walk
is_next walk next is = ap (λ (o : Option WaitingPart). option_to_list o ++ behind walk) is

first_of : (p : WaitingPart) (ps : List WaitingPart) → WaitingPart
first_of p [] = p
first_of p (q ∷ qs) = q

pub same_next : (walk : FileWalk) (next other : WaitingPart) (others : List WaitingPart) → walk.next ≡ Some next → parts_left walk ≡ other ∷ others → other ≡ next
unfolding first_of
same_next walk next other others is left = ap (λ (ps : List WaitingPart). first_of other ps) (sym left ∙ is_next walk next is)

-- ---- sizes and limits

-- the conditions of the first three limits, if none is broken
none_broken : (a b c : Bool) (rest : Option PartError) → (if not a then Some PartSize else if b then Some TooManyBlocks else if c then Some TooLarge else rest) ≡ None → (a ≡ true) × (b ≡ false) × (c ≡ false)
none_broken true false false rest e = (refl, refl, refl)
none_broken true false true rest e = absurd (none-some TooLarge (sym e))
none_broken true true c rest e = absurd (none-some TooManyBlocks (sym e))
none_broken false b c rest e = absurd (none-some PartSize (sym e))

agreed : (o : Option ℕ) (size : ℕ) → agrees o size ≡ true → HasSize o size
agreed None size is = tt
agreed (Some stated) size is = eqb-true stated size is

-- there is nothing, if there is no value
pub nothing : {A : Type 0} (o : Option A) → ((x : A) → o ≡ Some x → ⊥) → o ≡ None
nothing None none = refl
nothing (Some x) none = absurd (none x refl)

-- a part of this size is within the limits
pub record Fits (walk : FileWalk) (next : WaitingPart) (size : ℕ) : Type 0 where
  pub has_size : HasSize next.size size
  pub blocks : 1 ≤ walk.blocks_left
  pub bytes : count_in (range_of walk.range) size ≤ walk.bytes_left

not_zero : (n : ℕ) → (n == 0) ≡ false → 1 ≤ n
not_zero zero is = absurd (let no : true ≡ false = is in cc)
not_zero (suc n) is = omega arith

pub fits : (walk : FileWalk) (next : WaitingPart) (size count : ℕ) → excess walk next size count ≡ None → Fits walk next size
unfolding excess
fits walk next size count e =
    let kept = none_broken (agrees next.size size) (walk.blocks_left == 0) (nat_lt walk.bytes_left (count_in (range_of walk.range) size)) _ e in
    record { has_size = agreed next.size size kept.0; blocks = not_zero walk.blocks_left kept.1; bytes = ltb-false walk.bytes_left (count_in (range_of walk.range) size) kept.2 }

-- the limits were asked for, and nothing came
pub none_over : (walk : FileWalk) (next : WaitingPart) (size count : ℕ) (o : Option PartError) → o ≡ excess walk next size count → ((x : PartError) → o ≡ Some x → ⊥) → excess walk next size count ≡ None
none_over walk next size count o is none = sym is ∙ nothing o none

-- a part has at least its own bytes
pub long_enough : (link : Link) (head : List ℕ) (children : List Child) (size : ℕ) → IsPart digest_by link head children size → length head ≤ size
long_enough link head children size (inl raw) = omega (arith, raw.is_size)
long_enough link head children size (inr file) = omega (arith, file.is_file.is_size)

pub clash : (b : Bool) → b ≡ true → b ≡ false → ⊥
clash b is isnt = let both : true ≡ false = sym is ∙ isnt in cc

pub count_some : (o : Option ℕ) (n count r : ℕ) → o ≡ Some count → r ≡ min n count → r ≡ at_most_number o n
count_some o n count r is same = same ∙ ap (λ (p : Option ℕ). at_most_number p n) (sym is)

pub count_none : (o : Option ℕ) (n r : ℕ) → o ≡ None → r ≡ n → r ≡ at_most_number o n
count_none o n r is same = same ∙ ap (λ (p : Option ℕ). at_most_number p n) (sym is)

-- the range in bytes is no longer than that in a part which has them
counted : (o : Option ℕ) (bytes : List ℕ) (n : ℕ) → length bytes ≤ n → length (at_most o bytes) ≤ at_most_number o n
counted None bytes n fits = fits
counted (Some count) bytes n fits = omega (arith, length-take count bytes, fits)

pub slice_fits : (range : Range) (bytes : List ℕ) (size : ℕ) → length bytes ≤ size → length (slice range bytes) ≤ count_in range size
slice_fits range bytes size fits = counted range.count (drop range.start bytes) (size - range.start) (omega (arith, length-drop range.start bytes, fits))

no_longer : (o : Option ℕ) (bytes : List ℕ) → length (at_most o bytes) ≤ length bytes
no_longer None bytes = omega arith
no_longer (Some count) bytes = omega (arith, length-take count bytes)

-- the range in bytes is no longer than the bytes
pub slice_within : (range : Range) (bytes : List ℕ) → length (slice range bytes) ≤ length bytes
slice_within range bytes = omega (arith, no_longer range.count (drop range.start bytes), length-drop range.start bytes)

-- ---- what remains

-- the parts that wait, in the order of the file
pub in_order : (waiting less : List WaitingPart) (part : WaitingPart) → waiting ≡ less ++ part ∷ [] → reverse waiting ≡ part ∷ reverse less
in_order waiting less part is = ap (λ (ps : List WaitingPart). reverse ps) is ∙ reverse-append less (part ∷ [])

-- the first of them has bytes in the range
pub stops_at : (waiting less : List WaitingPart) (range : Range) (part : WaitingPart) → waiting ≡ less ++ part ∷ [] → ((size : ℕ) → part.size ≡ Some size → IsOutside size range → ⊥)
    → Skips (reverse waiting) range (part ∷ reverse less) range
stops_at waiting less range part is meets = subst (λ (ps : List WaitingPart). Skips ps range (part ∷ reverse less) range) (sym (in_order waiting less part is)) (skips_none meets refl refl)

-- the first of them is outside of the range
pub steps_over : (waiting less : List WaitingPart) (range next : Range) (part : WaitingPart) (size : ℕ) (left : List WaitingPart) (rest : Range) → waiting ≡ less ++ part ∷ [] → part.size ≡ Some size
    → IsOutside size range → next ≡ past size range → Skips (reverse less) next left rest → Skips (reverse waiting) range left rest
steps_over waiting less range next part size left rest is sized outside is_next more =
    skips_one part (reverse less) size (in_order waiting less part is) sized outside (subst (λ (r : Range). Skips (reverse less) r left rest) is_next more)

no_parts : (ps : List WaitingPart) → (1 ≤ length ps → ⊥) → ps ≡ []
no_parts [] none = refl
no_parts (p ∷ ps) none = absurd (none (omega arith))

no_some : (o : Option WaitingPart) → o ≡ None → IsSome o → ⊥
no_some None is some = let no : IsSome {T = WaitingPart} None = some in cc
no_some (Some p) is some = none-some p (sym is)

-- none of them is left
pub ends_at : (waiting less : List WaitingPart) (o : Option WaitingPart) (range : Range) → waiting ≡ less ++ option_to_list o → o ≡ None → (1 ≤ length waiting → IsSome o) → Skips (reverse waiting) range (reverse less) range
ends_at waiting less o range joined none has =
    let empty : waiting ≡ [] = no_parts waiting (λ some. no_some o none (has some)) in
    let less_empty : less ≡ [] = sym (append-nil less) ∙ ap (λ (p : Option WaitingPart). less ++ option_to_list p) (sym none) ∙ sym joined ∙ empty in
    subst (λ (ps : List WaitingPart). Skips (reverse ps) range (reverse less) range) (sym empty) (skips_none tt (ap (λ (ps : List WaitingPart). reverse ps) less_empty) refl)

-- the children come before the parts that waited
pub waits : (waited found all : List WaitingPart) (was next : Range) (left : List WaitingPart) (rest : Range) → all ≡ waited ++ found → next ≡ was → Skips (reverse all) next left rest
    → Skips (reverse found ++ reverse waited) was left rest
waits waited found all was next left rest joined same skips =
    subst (λ (ps : List WaitingPart). Skips ps was left rest) (ap (λ (ps : List WaitingPart). reverse ps) joined ∙ reverse-append waited found) (subst (λ (r : Range). Skips (reverse all) r left rest) same skips)

-- parts have another level, if it is the same wherever there is a part
pub levelled : (level other : ℕ) (ps : List WaitingPart) → HaveLevel level ps → (1 ≤ length ps → level ≡ other) → HaveLevel other ps
levelled level other [] are same = All-nil (λ (p : WaitingPart). p.level ≡ other)
levelled level other (p ∷ ps) are same = subst (λ (n : ℕ). HaveLevel n (p ∷ ps)) (same (omega arith)) are
