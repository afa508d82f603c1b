-- Lists in one another, counted.
use Rattle.std.proofs.Common.{◌≡◌, ◌+◌, ℕ, zero, suc, length, refl, ap, ◌∙◌, append-nil, arith}
use Rattle.ipld_tree.specs.Walk.{preorder, nest, containers}
use Rattle.test_calls.specs.Counts.{Counts, around}

walked : (n : ℕ) → length (preorder (around n)) ≡ n + 1
walked zero = refl
walked (suc n) = ap (λ ts. suc (length ts)) (append-nil (preorder (around n))) ∙ omega (arith, walked n)

held_inside : (n : ℕ) → containers (preorder (around n)) ≡ n + 1
held_inside zero = refl
held_inside (suc n) = ap (λ ts. 1 + containers ts) (append-nil (preorder (around n))) ∙ omega (arith, held_inside n)

nested : (n : ℕ) → nest (around n) ≡ n + 1
nested zero = refl
nested (suc n) = let inner = nested n in omega arith

pub counted : (n : ℕ) → Counts (around n) (n + 1) (n + 1) (n + 2) (n + n + 4)
counted n = (walked n, held_inside n, omega (arith, nested n), omega (arith, walked n, held_inside n))
