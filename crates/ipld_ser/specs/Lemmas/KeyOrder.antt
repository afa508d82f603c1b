-- Lemmas for ghost members: keys compare as their strings do. A ghost member can cite only the
-- `specs/` of its own crate, so the lemmas are here.
use Rattle.std.proofs.Common.{◌≡◌, ◌⊎◌, inl, inr, ℕ, ◌+◌, ◌/◌, ◌%◌, ◌<◌, ◌≤◌, List, [], ◌∷◌, ◌++◌, length, Ordering, Less, Equal, Greater, nat_cmp, refl, ap, ap₂, sym, subst, ◌∙◌, arith}
use Rattle.std.specs.Char.{encode_utf8}
use Rattle.std.specs.Cmp.Lexicographic.{slice_cmp}
use Rattle.std.specs.Ordering.{ordering_reverse, ordering_then}
use Rattle.std.proofs.lemmas.Bool.{cases_lt}
use Rattle.std.proofs.lemmas.Cmp.{nat_list_cmp_total, nat_cmp_total}

-- A type that compares by its strings has the order of its strings.
pub same_order : {K : Type 0} (text_of : K → List ℕ) (a b : K) → slice_cmp nat_cmp (text_of a) (text_of b) ≡ slice_cmp nat_cmp (text_of a) (text_of b)
same_order text_of a b = refl

-- ---- characters: UTF-8 keeps their order

below : (x y : ℕ) (xs ys : List ℕ) → x < y → slice_cmp nat_cmp (x ∷ xs) (y ∷ ys) ≡ Less
below x y xs ys less = grind arith

first_below : {s t xs ys : List ℕ} {x y : ℕ} → s ≡ x ∷ xs → t ≡ y ∷ ys → x < y → slice_cmp nat_cmp s t ≡ Less
first_below {xs = xs} {ys = ys} {x = x} {y = y} is are less = ap₂ (slice_cmp nat_cmp) is are ∙ below x y xs ys less

level : (x y : ℕ) (xs ys : List ℕ) → x ≡ y → slice_cmp nat_cmp xs ys ≡ Less → slice_cmp nat_cmp (x ∷ xs) (y ∷ ys) ≡ Less
level x y xs ys same less = grind arith

-- If `a` is below `b`, either `a / 64` is below `b / 64`, or these are equal and `a % 64` is below
-- `b % 64`.
digits : (a b : ℕ) → a < b → (a / 64 < b / 64) ⊎ ((a / 64 ≡ b / 64) × (a % 64 < b % 64))
digits a b less = by_front (cases_lt (a / 64) (b / 64))
  where
    by_front : (a / 64 < b / 64) ⊎ (b / 64 ≤ a / 64) → (a / 64 < b / 64) ⊎ ((a / 64 ≡ b / 64) × (a % 64 < b % 64))
    by_front (inl front) = inl front
    by_front (inr front) = inr (omega arith, omega arith)

one : (c : ℕ) → c < 128 → encode_utf8 c ≡ c ∷ []
unfolding encode_utf8
one c few = grind arith

two : (c : ℕ) → 128 ≤ c → c < 2048 → encode_utf8 c ≡ (192 + c / 64) ∷ (128 + c % 64) ∷ []
unfolding encode_utf8
two c many few = grind arith

three : (c : ℕ) → 2048 ≤ c → c < 65536 → encode_utf8 c ≡ (224 + c / 64 / 64) ∷ (128 + c / 64 % 64) ∷ (128 + c % 64) ∷ []
unfolding encode_utf8
three c many few = grind arith

four : (c : ℕ) → 65536 ≤ c → encode_utf8 c ≡ (240 + c / 64 / 64 / 64) ∷ (128 + c / 64 / 64 % 64) ∷ (128 + c / 64 % 64) ∷ (128 + c % 64) ∷ []
unfolding encode_utf8
four c many = grind arith

two_less : (h a b : ℕ) → a < b → slice_cmp nat_cmp ((h + a / 64) ∷ (128 + a % 64) ∷ []) ((h + b / 64) ∷ (128 + b % 64) ∷ []) ≡ Less
two_less h a b less = by_digits (digits a b less)
  where
    by_digits : (a / 64 < b / 64) ⊎ ((a / 64 ≡ b / 64) × (a % 64 < b % 64)) → slice_cmp nat_cmp ((h + a / 64) ∷ (128 + a % 64) ∷ []) ((h + b / 64) ∷ (128 + b % 64) ∷ []) ≡ Less
    by_digits (inl front) = below (h + a / 64) (h + b / 64) ((128 + a % 64) ∷ []) ((128 + b % 64) ∷ []) (omega arith)
    by_digits (inr last) = level (h + a / 64) (h + b / 64) ((128 + a % 64) ∷ []) ((128 + b % 64) ∷ []) (omega arith) (below (128 + a % 64) (128 + b % 64) [] [] (omega arith))

longer_by : (o : Ordering) (x y : ℕ) (xs ys more others : List ℕ) → nat_cmp x y ≡ o → slice_cmp nat_cmp (x ∷ xs) (y ∷ ys) ≡ Less
    → (slice_cmp nat_cmp xs ys ≡ Less → slice_cmp nat_cmp (xs ++ more) (ys ++ others) ≡ Less) → slice_cmp nat_cmp (x ∷ xs ++ more) (y ∷ ys ++ others) ≡ Less
longer_by Less x y xs ys more others is less rest = rw is refl
longer_by Equal x y xs ys more others is less rest = let tail : slice_cmp nat_cmp xs ys ≡ Less = subst (λ o. ordering_then o (slice_cmp nat_cmp xs ys) ≡ Less) is less in rw is (rest tail)
longer_by Greater x y xs ys more others is less rest = let never : Greater ≡ Less = subst (λ o. ordering_then o (slice_cmp nat_cmp xs ys) ≡ Less) is less in absurd cc

longer : (xs ys more others : List ℕ) → length xs ≡ length ys → slice_cmp nat_cmp xs ys ≡ Less → slice_cmp nat_cmp (xs ++ more) (ys ++ others) ≡ Less
longer [] [] more others same less = absurd cc
longer [] (y ∷ ys) more others same less = absurd cc
longer (x ∷ xs) [] more others same less = absurd cc
longer (x ∷ xs) (y ∷ ys) more others same less = longer_by (nat_cmp x y) x y xs ys more others refl less (longer xs ys more others (omega arith))

three_less : (h a b : ℕ) → a < b → slice_cmp nat_cmp ((h + a / 64 / 64) ∷ (128 + a / 64 % 64) ∷ (128 + a % 64) ∷ []) ((h + b / 64 / 64) ∷ (128 + b / 64 % 64) ∷ (128 + b % 64) ∷ []) ≡ Less
three_less h a b less = by_digits (digits a b less)
  where
    by_digits : (a / 64 < b / 64) ⊎ ((a / 64 ≡ b / 64) × (a % 64 < b % 64)) → slice_cmp nat_cmp ((h + a / 64 / 64) ∷ (128 + a / 64 % 64) ∷ (128 + a % 64) ∷ []) ((h + b / 64 / 64) ∷ (128 + b / 64 % 64) ∷ (128 + b % 64) ∷ []) ≡ Less
    by_digits (inl front) = longer ((h + a / 64 / 64) ∷ (128 + a / 64 % 64) ∷ []) ((h + b / 64 / 64) ∷ (128 + b / 64 % 64) ∷ []) ((128 + a % 64) ∷ []) ((128 + b % 64) ∷ []) refl (two_less h (a / 64) (b / 64) front)
    by_digits (inr last) = level (h + a / 64 / 64) (h + b / 64 / 64) ((128 + a / 64 % 64) ∷ (128 + a % 64) ∷ []) ((128 + b / 64 % 64) ∷ (128 + b % 64) ∷ []) (ap (λ q. h + q / 64) last.0)
        (level (128 + a / 64 % 64) (128 + b / 64 % 64) ((128 + a % 64) ∷ []) ((128 + b % 64) ∷ []) (ap (λ q. 128 + q % 64) last.0) (below (128 + a % 64) (128 + b % 64) [] [] (omega arith)))

four_less : (h a b : ℕ) → a < b → slice_cmp nat_cmp ((h + a / 64 / 64 / 64) ∷ (128 + a / 64 / 64 % 64) ∷ (128 + a / 64 % 64) ∷ (128 + a % 64) ∷ []) ((h + b / 64 / 64 / 64) ∷ (128 + b / 64 / 64 % 64) ∷ (128 + b / 64 % 64) ∷ (128 + b % 64) ∷ []) ≡ Less
four_less h a b less = by_digits (digits a b less)
  where
    by_digits : (a / 64 < b / 64) ⊎ ((a / 64 ≡ b / 64) × (a % 64 < b % 64)) → slice_cmp nat_cmp ((h + a / 64 / 64 / 64) ∷ (128 + a / 64 / 64 % 64) ∷ (128 + a / 64 % 64) ∷ (128 + a % 64) ∷ []) ((h + b / 64 / 64 / 64) ∷ (128 + b / 64 / 64 % 64) ∷ (128 + b / 64 % 64) ∷ (128 + b % 64) ∷ []) ≡ Less
    by_digits (inl front) = longer ((h + a / 64 / 64 / 64) ∷ (128 + a / 64 / 64 % 64) ∷ (128 + a / 64 % 64) ∷ []) ((h + b / 64 / 64 / 64) ∷ (128 + b / 64 / 64 % 64) ∷ (128 + b / 64 % 64) ∷ []) ((128 + a % 64) ∷ []) ((128 + b % 64) ∷ []) refl
        (three_less h (a / 64) (b / 64) front)
    by_digits (inr last) = level (h + a / 64 / 64 / 64) (h + b / 64 / 64 / 64) ((128 + a / 64 / 64 % 64) ∷ (128 + a / 64 % 64) ∷ (128 + a % 64) ∷ []) ((128 + b / 64 / 64 % 64) ∷ (128 + b / 64 % 64) ∷ (128 + b % 64) ∷ []) (ap (λ q. h + q / 64 / 64) last.0)
        (level (128 + a / 64 / 64 % 64) (128 + b / 64 / 64 % 64) ((128 + a / 64 % 64) ∷ (128 + a % 64) ∷ []) ((128 + b / 64 % 64) ∷ (128 + b % 64) ∷ []) (ap (λ q. 128 + q / 64 % 64) last.0)
        (level (128 + a / 64 % 64) (128 + b / 64 % 64) ((128 + a % 64) ∷ []) ((128 + b % 64) ∷ []) (ap (λ q. 128 + q % 64) last.0) (below (128 + a % 64) (128 + b % 64) [] [] (omega arith))))

-- The ranges of characters that have one, two, three and four bytes in UTF-8
abbrev Width : ℕ → Type 0
Width c = (c < 128) ⊎ (((128 ≤ c) × (c < 2048)) ⊎ (((2048 ≤ c) × (c < 65536)) ⊎ (65536 ≤ c)))

width : (c : ℕ) → Width c
width c = by_one (cases_lt c 128)
  where
    by_three : 2048 ≤ c → (c < 65536) ⊎ (65536 ≤ c) → Width c
    by_three many (inl few) = inr (inr (inl (many, few)))
    by_three many (inr all) = inr (inr (inr all))

    by_two : 128 ≤ c → (c < 2048) ⊎ (2048 ≤ c) → Width c
    by_two many (inl few) = inr (inl (many, few))
    by_two many (inr more) = by_three more (cases_lt c 65536)

    by_one : (c < 128) ⊎ (128 ≤ c) → Width c
    by_one (inl few) = inl few
    by_one (inr many) = by_two many (cases_lt c 2048)

by_width : (a b : ℕ) → a < b → Width a → Width b → slice_cmp nat_cmp (encode_utf8 a) (encode_utf8 b) ≡ Less
by_width a b less (inl x) (inl y) = ap₂ (slice_cmp nat_cmp) (one a x) (one b y) ∙ below a b [] [] less
by_width a b less (inl x) (inr (inl y)) = first_below (one a x) (two b y.0 y.1) (omega arith)
by_width a b less (inl x) (inr (inr (inl y))) = first_below (one a x) (three b y.0 y.1) (omega arith)
by_width a b less (inl x) (inr (inr (inr y))) = first_below (one a x) (four b y) (omega arith)
by_width a b less (inr (inl x)) (inl y) = absurd (omega arith)
by_width a b less (inr (inl x)) (inr (inl y)) = ap₂ (slice_cmp nat_cmp) (two a x.0 x.1) (two b y.0 y.1) ∙ two_less 192 a b less
by_width a b less (inr (inl x)) (inr (inr (inl y))) = first_below (two a x.0 x.1) (three b y.0 y.1) (omega arith)
by_width a b less (inr (inl x)) (inr (inr (inr y))) = first_below (two a x.0 x.1) (four b y) (omega arith)
by_width a b less (inr (inr (inl x))) (inl y) = absurd (omega arith)
by_width a b less (inr (inr (inl x))) (inr (inl y)) = absurd (omega arith)
by_width a b less (inr (inr (inl x))) (inr (inr (inl y))) = ap₂ (slice_cmp nat_cmp) (three a x.0 x.1) (three b y.0 y.1) ∙ three_less 224 a b less
by_width a b less (inr (inr (inl x))) (inr (inr (inr y))) = first_below (three a x.0 x.1) (four b y) (omega arith)
by_width a b less (inr (inr (inr x))) (inl y) = absurd (omega arith)
by_width a b less (inr (inr (inr x))) (inr (inl y)) = absurd (omega arith)
by_width a b less (inr (inr (inr x))) (inr (inr (inl y))) = absurd (omega arith)
by_width a b less (inr (inr (inr x))) (inr (inr (inr y))) = ap₂ (slice_cmp nat_cmp) (four a x) (four b y) ∙ four_less 240 a b less

less_char : (a b : ℕ) → a < b → slice_cmp nat_cmp (encode_utf8 a) (encode_utf8 b) ≡ Less
less_char a b less = by_width a b less (width a) (width b)

in_turn : (a b : ℕ) → a < b → nat_cmp a b ≡ Less
in_turn a b less = grind arith

level_with_itself : (o : Ordering) → o ≡ ordering_reverse o → o ≡ Equal
level_with_itself Less is = absurd cc
level_with_itself Equal is = refl
level_with_itself Greater is = absurd cc

-- Characters compare as their UTF-8 bytes do.
pub char_order : (a b : ℕ) → nat_cmp a b ≡ slice_cmp nat_cmp (encode_utf8 a) (encode_utf8 b)
char_order a b = first (cases_lt a b)
  where
    second : b ≤ a → (b < a) ⊎ (a ≤ b) → nat_cmp a b ≡ slice_cmp nat_cmp (encode_utf8 a) (encode_utf8 b)
    second ge (inl greater) =
        nat_cmp_total.antisymm a b ∙ ap ordering_reverse (in_turn b a greater ∙ sym (less_char b a greater)) ∙ sym (nat_list_cmp_total.antisymm (encode_utf8 a) (encode_utf8 b))
    second ge (inr le) = let same : a ≡ b = omega arith in ap (λ c. nat_cmp a c) (sym same) ∙ level_with_itself (nat_cmp a a) (nat_cmp_total.antisymm a a) ∙ sym (level_with_itself (slice_cmp nat_cmp (encode_utf8 a) (encode_utf8 a)) (nat_list_cmp_total.antisymm (encode_utf8 a) (encode_utf8 a))) ∙ ap (λ c. slice_cmp nat_cmp (encode_utf8 a) (encode_utf8 c)) same

    first : (a < b) ⊎ (b ≤ a) → nat_cmp a b ≡ slice_cmp nat_cmp (encode_utf8 a) (encode_utf8 b)
    first (inl less) = in_turn a b less ∙ sym (less_char a b less)
    first (inr ge) = second ge (cases_lt b a)
