-- What one iteration of a walk does to its levels.
use Rattle.std.proofs.Common.{◌≡◌, ◌<◌, ◌≤◌, ℕ, suc, ◌+◌, ◌-◌, max, get_or, List, [], ◌∷◌, ◌++◌, length, Global, String, Vec, BTreeMap, refl, sym, ap, ◌∙◌, append_assoc, append-nil, length-append, arith}
use Rattle.std.proofs.Math.ListN.{set}
use Rattle.std.proofs.Math.Seq.{set-append_seam}
use Rattle.std.specs.Map.{values_of}
use Rattle.ipld_tree.specs.Tree.{Tree, null, boolean, integer, text, bytes, list, entries, link}
use Rattle.ipld_tree.specs.TreeOf.{tree_of, items_of, members_of}
use Rattle.ipld_tree.specs.Walk.{preorder, items_preorder, members_preorder, nest, items_nest, members_nest, container}
use Rattle.ipld_tree.specs.Levels.{walks, trees_left, deepest, slots}
use Rattle.ipld_tree.specs.Cursors.{left_of, levels_of, Opens}
use Rattle.ipld_tree.specs.declared.ipld.Ipld.{Ipld}
use Rattle.ipld_tree.specs.declared.ipld.Ipld.TheVariants as variant
use Rattle.ipld_tree.specs.declared.iter.Cursor.{Cursor}
use Rattle.ipld_tree.proofs.Trees.{tree_of-List, tree_of-Map}

-- ---- what opens in a list and in a map

pub items_walked : (xs : List Ipld) → items_preorder (items_of xs) ≡ walks xs
items_walked [] = refl
items_walked (x ∷ xs) = ap (λ ts. preorder (tree_of x) ++ ts) (items_walked xs)

items_deep : (xs : List Ipld) → items_nest (items_of xs) ≡ deepest xs
items_deep [] = refl
items_deep (x ∷ xs) = ap (max (nest (tree_of x))) (items_deep xs)

pub members_walked : (es : List (String Global × Ipld)) → members_preorder (members_of es) ≡ walks (values_of es)
members_walked [] = refl
members_walked (e ∷ es) = ap (λ ts. preorder (tree_of e.1) ++ ts) (members_walked es)

members_deep : (es : List (String Global × Ipld)) → members_nest (members_of es) ≡ deepest (values_of es)
members_deep [] = refl
members_deep (e ∷ es) = ap (max (nest (tree_of e.1))) (members_deep es)

-- how deep a list nests, and a map
pub nest_list : (x : Ipld) (v : Vec Ipld Global) (xs : List Ipld) → x ≡ variant.List v → xs ≡ v.items → suc (deepest xs) ≡ nest (tree_of x)
nest_list x v xs is all = ap (λ ys. suc (deepest ys)) all ∙ ap suc (sym (items_deep v.items)) ∙ sym (ap nest (ap tree_of is ∙ tree_of-List v))

pub nest_map : (x : Ipld) (m : BTreeMap (String Global) Ipld) → x ≡ variant.Map m → suc (deepest (values_of m.entries)) ≡ nest (tree_of x)
nest_map x m is = ap suc (sym (members_deep m.entries)) ∙ sym (ap nest (ap tree_of is ∙ tree_of-Map m))

one_level : (n : ℕ) → suc n ≡ suc (max n 0)
one_level n = omega arith

pub list_opens : (x : Ipld) (xs : List Ipld) → tree_of x ≡ list (items_of xs) → Opens (tree_of x) (xs ∷ [])
list_opens x xs e = rw e (record {
  walked = ap (λ ts. list (items_of xs) ∷ ts) (items_walked xs);
  nested = ap suc (items_deep xs) ∙ one_level (deepest xs);
  counted = refl;
})

pub map_opens : (x : Ipld) (es : List (String Global × Ipld)) (xs : List Ipld) → tree_of x ≡ entries (members_of es) → xs ≡ values_of es → Opens (tree_of x) (xs ∷ [])
map_opens x es xs e same = rw (e, same) (record {
  walked = ap (λ ts. entries (members_of es) ∷ ts) (members_walked es);
  nested = ap suc (members_deep es) ∙ one_level (deepest (values_of es));
  counted = refl;
})

-- ---- levels

trees_left-append : (a b : List (List Ipld)) → trees_left (a ++ b) ≡ trees_left b ++ trees_left a
trees_left-append [] b = sym (append-nil (trees_left b))
trees_left-append (xs ∷ a) b = ap (λ ts. ts ++ walks xs) (trees_left-append a b) ∙ append_assoc (trees_left b) (trees_left a) (walks xs)

slots-append : (front a b : List (List Ipld)) → slots a ≤ slots b → slots (front ++ a) ≤ slots (front ++ b)
slots-append [] a b h = h
slots-append (xs ∷ front) a b h = let more = slots-append front a b h in omega arith

pub held_within : (levels : List (List Ipld)) → length levels ≤ slots levels
held_within [] = omega arith
held_within (xs ∷ levels) = let more = held_within levels in omega arith

pub levels-append : (a b : List Cursor) → levels_of (a ++ b) ≡ levels_of a ++ levels_of b
levels-append [] b = refl
levels-append (c ∷ a) b = ap (λ ls. left_of c ∷ ls) (levels-append a b)

slots-ended : (front : List (List Ipld)) → slots (front ++ [] ∷ []) ≡ max (length front + 1) (slots front)
slots-ended [] = refl
slots-ended (xs ∷ front) = let more = slots-ended front in omega arith

slots-same : (front a b : List (List Ipld)) → slots a ≡ slots b → slots (front ++ a) ≡ slots (front ++ b)
slots-same [] a b h = h
slots-same (xs ∷ front) a b h = ap (λ n. suc (max (deepest xs) n)) (slots-same front a b h)

-- ---- iterations

abbrev Yields : List (List Ipld) → Ipld → List (List Ipld) → Type 0
Yields before x after = (trees_left before ≡ tree_of x ∷ trees_left after) × (length after ≡ length before + container (tree_of x)) × (slots before ≡ slots after)

pub level_yielded : (front : List (List Ipld)) (x : Ipld) (xs : List Ipld) (inner : List (List Ipld)) → Opens (tree_of x) inner → Yields (front ++ (x ∷ xs) ∷ []) x (front ++ xs ∷ inner)
level_yielded front x xs inner o = (
  rw (trees_left-append front ((x ∷ xs) ∷ []), trees_left-append front (xs ∷ inner), o.walked) (
      ap (λ ts. tree_of x ∷ (ts ++ trees_left front)) refl),
  omega (arith, length-append front ((x ∷ xs) ∷ []), length-append front (xs ∷ inner), o.counted),
  slots-same front ((x ∷ xs) ∷ []) (xs ∷ inner) (omega (arith, o.nested)),
)

pub level_dropped : (front : List (List Ipld)) → (trees_left (front ++ [] ∷ []) ≡ trees_left front) × (length (front ++ [] ∷ []) ≡ length front + 1) × (slots (front ++ [] ∷ []) ≡ max (length front + 1) (slots front))
level_dropped front = (trees_left-append front ([] ∷ []), length-append front ([] ∷ []), slots-ended front)

-- what one iteration does to the levels, once what opens in the value that it yields has a level
pub iterated : (before : List (List Ipld)) (x : Ipld) (mid inner : List (List Ipld)) → ((front : List (List Ipld)) × (xs : List Ipld) × (before ≡ front ++ (x ∷ xs) ∷ []) × (mid ≡ front ++ xs ∷ []))
    → Opens (tree_of x) inner → Yields before x (mid ++ inner)
iterated before x mid inner (front, xs, split, left) o = rw (split, left, append_assoc front (xs ∷ []) inner) (level_yielded front x xs inner o)

-- ---- the innermost cursor is changed in place

longer : (a : Cursor) (items : List Cursor) → ((front : List Cursor) × (last : Cursor) × (items ≡ front ++ last ∷ []) × (length items ≡ suc (length front)))
    → (front : List Cursor) × (last : Cursor) × (a ∷ items ≡ front ++ last ∷ []) × (suc (length items) ≡ suc (length front))
longer a items (front, last, split, long) = (a ∷ front, last, ap (λ cs. a ∷ cs) split, ap suc long)

split_last : (items : List Cursor) → 0 < length items → (front : List Cursor) × (last : Cursor) × (items ≡ front ++ last ∷ []) × (length items ≡ suc (length front))
split_last [] h = absurd (omega arith)
split_last (a ∷ []) h = ([], a, refl, refl)
split_last (a ∷ b ∷ more) h = longer a (b ∷ more) (split_last (b ∷ more) (omega arith))

last_of : (front : List Cursor) (last other : Cursor) → get_or (front ++ last ∷ []) (length front) other ≡ last
last_of [] last other = refl
last_of (a ∷ front) last other = last_of front last other

at_last : (items : List Cursor) (k : ℕ) (c d : Cursor) (x : Ipld) → ((front : List Cursor) × (last : Cursor) × (items ≡ front ++ last ∷ []) × (length items ≡ suc (length front)))
    → suc k ≡ length items → c ≡ get_or items k c → left_of c ≡ x ∷ left_of d
    → (front : List (List Ipld)) × (xs : List Ipld) × (levels_of items ≡ front ++ (x ∷ xs) ∷ []) × (levels_of (set items k d) ≡ front ++ xs ∷ [])
at_last items k c d x (front, last, split, long) at is opens =
    let place : k ≡ length front = omega arith in
    let same : c ≡ last = is ∙ rw (split, place) (last_of front last c) in (
      levels_of front,
      left_of d,
      rw split (levels-append front (last ∷ []) ∙ ap (λ xs. levels_of front ++ xs ∷ []) (sym (ap left_of same) ∙ opens)),
      rw (split, place) (ap levels_of (set-append_seam front last [] d) ∙ levels-append front (d ∷ [])),
    )

-- the innermost cursor yields a value
pub last_taken : (items : List Cursor) (n : ℕ) (c d : Cursor) (x : Ipld) → n ≡ length items → 0 < n → c ≡ get_or items (n - 1) c → left_of c ≡ x ∷ left_of d
    → (front : List (List Ipld)) × (xs : List Ipld) × (levels_of items ≡ front ++ (x ∷ xs) ∷ []) × (levels_of (set items (n - 1) d) ≡ front ++ xs ∷ [])
last_taken items n c d x len some is opens = at_last items (n - 1) c d x (split_last items (omega arith)) (omega arith) is opens

slots_above : (front : List (List Ipld)) (xs : List Ipld) → length front + suc (deepest xs) ≤ slots (front ++ xs ∷ [])
slots_above [] xs = omega arith
slots_above (ys ∷ front) xs = let more = slots_above front xs in omega arith

container_nests : (t : Tree) → container t ≤ nest t
container_nests null = omega arith
container_nests (boolean b) = omega arith
container_nests (integer n) = omega arith
container_nests (text s) = omega arith
container_nests (bytes b) = omega arith
container_nests (list ts) = omega arith
container_nests (entries ms) = omega arith
container_nests (link l) = omega arith

-- what opens in the value that is yielded fits
pub fits : (before : List (List Ipld)) (x : Ipld) (mid : List (List Ipld)) (capacity : ℕ) → ((front : List (List Ipld)) × (xs : List Ipld) × (before ≡ front ++ (x ∷ xs) ∷ []) × (mid ≡ front ++ xs ∷ []))
    → slots before ≤ capacity → length mid + container (tree_of x) ≤ capacity
fits before x mid capacity (front, xs, split, left) h =
    omega (arith, ap slots split, ap length left, slots_above front (x ∷ xs), container_nests (tree_of x), length-append front (xs ∷ []))

pub dropped : (before after : List (List Ipld)) → before ≡ after ++ [] ∷ [] → (trees_left before ≡ trees_left after) × (length before ≡ length after + 1) × (slots before ≡ max (length after + 1) (slots after))
dropped before after e = rw e (level_dropped after)
