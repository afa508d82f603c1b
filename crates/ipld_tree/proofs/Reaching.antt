-- What one step does to the levels of a walk whose stack grows.
use Rattle.std.proofs.Common.{◌≡◌, ◌+◌, max, Option, Some, None, List, [], ◌∷◌, ◌++◌, length, ◌∙◌, refl, sym, subst, arith}
use Rattle.ipld_tree.specs.TreeOf.{tree_of}
use Rattle.ipld_tree.specs.IsWhole.{IsWhole}
use Rattle.ipld_tree.specs.Levels.{trees_left, slots}
use Rattle.ipld_tree.specs.Cursors.{left_of, levels_of, cursors_in, values_in, AllWhole, Opens}
use Rattle.ipld_tree.specs.Growing.{LeftWhole, Keeps, Reached}
use Rattle.ipld_tree.specs.declared.ipld.Ipld.{Ipld}
use Rattle.ipld_tree.specs.declared.iter.Cursor.{Cursor}
use Rattle.ipld_tree.proofs.Walking.{iterated, level_dropped, held_within, levels-append}

abbrev Levels : Type 0
Levels = List (List Ipld)

pub at_start : (levels : Levels) → slots levels ≡ max (length levels) (slots levels)
at_start levels = omega (arith, held_within levels)

whole_front : (a b : Levels) → LeftWhole (a ++ b) → LeftWhole a
whole_front [] b h = tt
whole_front (xs ∷ a) b h = (h.0, whole_front a b h.1)

whole_back : (a b : Levels) → LeftWhole (a ++ b) → LeftWhole b
whole_back [] b h = h
whole_back (xs ∷ a) b h = whole_back a b h.1

whole_both : (a b : Levels) → LeftWhole a → LeftWhole b → LeftWhole (a ++ b)
whole_both [] b h k = k
whole_both (xs ∷ a) b h k = (h.0, whole_both a b h.1 k)

whole_taken : (front : Levels) (x : Ipld) (xs : List Ipld) (inner : Levels) → (LeftWhole inner → IsWhole (tree_of x)) → LeftWhole ((front ++ xs ∷ []) ++ inner) → LeftWhole (front ++ (x ∷ xs) ∷ [])
whole_taken front x xs inner w h =
    let outer = whole_front (front ++ xs ∷ []) inner h in
    whole_both front ((x ∷ xs) ∷ []) (whole_front front (xs ∷ []) outer) ((w (whole_back (front ++ xs ∷ []) inner h), (whole_back front (xs ∷ []) outer).0), tt)

-- the walk yields a value, and what opens in it has a level
pub taken : (before now mid inner after : Levels) (x : Ipld) → Reached before now → ((front : Levels) × (xs : List Ipld) × (now ≡ front ++ (x ∷ xs) ∷ []) × (mid ≡ front ++ xs ∷ []))
    → Opens (tree_of x) inner → (LeftWhole inner → IsWhole (tree_of x)) → after ≡ mid ++ inner → (trees_left before ≡ tree_of x ∷ trees_left after) × Keeps before after
taken before now mid inner after x r (front, xs, split, rest) o w is =
    let step = iterated now x mid inner (front, xs, split, rest) o in
    rw is (
      r.left ∙ step.0,
      record {
        slots = omega (arith, r.nested, step.2);
        whole = λ h. r.whole (subst LeftWhole (sym split) (whole_taken front x xs inner w (subst (λ m. LeftWhole (m ++ inner)) rest h)));
      },
    )

-- a level that has ended is dropped
pub popped : (before now after : Levels) → Reached before now → now ≡ after ++ [] ∷ [] → Reached before after
popped before now after r is =
    let step = level_dropped after in
    let fewer : length now ≡ length after + 1 = subst (λ ls. length ls ≡ length after + 1) (sym is) step.1 in
    let deep : slots now ≡ max (length after + 1) (slots after) = subst (λ ls. slots ls ≡ max (length after + 1) (slots after)) (sym is) step.2 in
    record {
      left = r.left ∙ subst (λ ls. trees_left ls ≡ trees_left after) (sym is) step.0;
      shorter = omega (arith, r.shorter, fewer);
      nested = omega (arith, r.shorter, r.nested, fewer, deep);
      whole = λ h. r.whole (subst LeftWhole (sym is) (whole_both after ([] ∷ []) h (tt, tt)));
    }

-- the levels of cursors, when the innermost has ended and the one around it takes its place
pub popped_cursor : (outer rest : List Cursor) (c around : Cursor) → outer ≡ rest ++ around ∷ [] → left_of c ≡ [] → levels_of outer ++ left_of c ∷ [] ≡ (levels_of rest ++ left_of around ∷ []) ++ [] ∷ []
popped_cursor outer rest c around split ended = rw (split, ended, levels-append rest (around ∷ [])) refl

-- what opened is whole, if anything did
pub opened_whole : (opened : Option Cursor) → LeftWhole (levels_of (cursors_in opened)) → AllWhole (values_in opened)
opened_whole None h = tt
opened_whole (Some c) h = h.0
