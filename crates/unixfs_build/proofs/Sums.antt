-- The sums of the parts of a node.
use Rattle.std.proofs.Common.{◌≡◌, ℕ, ◌+◌, ◌<◌, List, [], ◌∷◌, ◌++◌, length, map, take, inl, inr, refl, ap, arith}
use Rattle.std.specs.Prelude.{sum, ◌^◌}
use Rattle.std.specs.List.{sum_by}
use Rattle.std.proofs.Math.ListN.{get_or}
use Rattle.std.proofs.lemmas.List.Sums.{sum_by_more_le, sum_by-cons}
use Rattle.unixfs_build.specs.Blocks.{Built, sizes_of, totals_of}
use Rattle.unixfs_build.specs.Faults.{AreTooLarge}
use Rattle.unixfs_build.specs.Views.{built}
use Rattle.unixfs_build.specs.declared.block.BuiltPart.{BuiltPart}

abbrev size_of : BuiltPart → ℕ
size_of part = part.size

abbrev total_of : BuiltPart → ℕ
total_of part = part.total

size_sum : (parts : List BuiltPart) → sum (sizes_of (map built parts)) ≡ sum_by size_of parts
size_sum [] = refl
size_sum (part ∷ parts) =
    omega (arith, size_sum parts, sum_by-cons (λ (n : ℕ). n) part.size (sizes_of (map built parts)), sum_by-cons size_of part parts)

total_sum : (parts : List BuiltPart) → sum (totals_of (map built parts)) ≡ sum_by total_of parts
total_sum [] = refl
total_sum (part ∷ parts) =
    omega (arith, total_sum parts, sum_by-cons (λ (n : ℕ). n) part.total (totals_of (map built parts)), sum_by-cons total_of part parts)

size_with : (parts : List BuiltPart) (last : Built) → sum (sizes_of (map built parts ++ last ∷ [])) ≡ sum_by size_of parts + last.size
size_with [] last = refl
size_with (part ∷ parts) last =
    omega (arith, size_with parts last, sum_by-cons (λ (n : ℕ). n) part.size (sizes_of (map built parts ++ last ∷ [])), sum_by-cons size_of part parts)

total_with : (parts : List BuiltPart) (last : Built) → sum (totals_of (map built parts ++ last ∷ [])) ≡ sum_by total_of parts + last.total
total_with [] last = refl
total_with (part ∷ parts) last =
    omega (arith, total_with parts last, sum_by-cons (λ (n : ℕ). n) part.total (totals_of (map built parts ++ last ∷ [])), sum_by-cons total_of part parts)

pub over_size : (parts : List BuiltPart) (last item other : BuiltPart) (i size : ℕ) → i < length parts → item ≡ get_or parts i other → size ≡ last.size + sum (sizes_of (map built (take i parts)))
    → (size + item.size < 2 ^ 64 → ⊥) → AreTooLarge 0 (map built parts ++ built last ∷ [])
over_size parts last item other i size inside is so_far large =
    inl (omega (arith, so_far, size_sum (take i parts), sum_by_more_le size_of parts i other inside, size_with parts (built last), ap size_of is, large))

pub over_total : (parts : List BuiltPart) (last item other : BuiltPart) (i total : ℕ) → i < length parts → item ≡ get_or parts i other → total ≡ last.total + sum (totals_of (map built (take i parts)))
    → (total + item.total < 2 ^ 64 → ⊥) → AreTooLarge 0 (map built parts ++ built last ∷ [])
over_total parts last item other i total inside is so_far large =
    inr (omega (arith, so_far, total_sum (take i parts), sum_by_more_le total_of parts i other inside, total_with parts (built last), ap total_of is, large))
