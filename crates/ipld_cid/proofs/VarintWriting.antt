-- The loop that writes a varint.
use Rattle.std.proofs.Common.{◌≡◌, ℕ, zero, suc, ◌+◌, ◌*◌, ◌/◌, ◌%◌, ◌^◌, ◌<◌, ◌≤◌, true, false, ltb, List, [], ◌∷◌, ◌++◌, length, refl, sym, ap, ◌∙◌, arith, append_assoc, bit_or, bit_and}
use Rattle.std.proofs.lemmas.Bool.{lt-ltb, le-ltb}
use Rattle.std.proofs.lemmas.List.{length_push}
use Rattle.std.proofs.lemmas.Nat.{or_shifted, or_comm, and_mask, pow-add}
use Rattle.ipld_cid.specs.Varint.{groups_of, varint_of}

-- the groups written so far, and those of the rest
pub record Continues (old now : List ℕ) (number rest : ℕ) : Type 0 where
  pub more : ℕ
  pub below : rest < 2 ^ (7 * more + 1)
  pub written : now ++ groups_of more rest ≡ old ++ varint_of number
  pub capacity : length now + more ≤ length old + 9

pub starts : (old : List ℕ) (number : ℕ) → number < 2 ^ 64 → Continues old old number number
unfolding varint_of
starts old number fits = record { more = 9; below = fits; written = refl; capacity = omega arith }

-- a group with others above it
pub group_written : (rest : ℕ) → bit_or (bit_and rest 127) 128 ≡ 128 + rest % 128
group_written rest =
    let low : bit_and rest 127 ≡ rest % 128 = and_mask rest 7 in
    let small : rest % 128 < 2 ^ 7 = omega arith in
    rw low (or_comm (rest % 128) 128 ∙ or_shifted 1 7 (rest % 128) small)

more_groups : (more rest : ℕ) → 128 ≤ rest → rest < 2 ^ (7 * more + 1) → (fewer : ℕ) × (more ≡ suc fewer) × (rest / 128 < 2 ^ (7 * fewer + 1)) × (groups_of more rest ≡ (128 + rest % 128) ∷ groups_of fewer (rest / 128))
more_groups zero rest high below = absurd (omega arith)
more_groups (suc fewer) rest high below =
    let wider : 2 ^ (7 * suc fewer + 1) ≡ 2 ^ (7 * fewer + 1) * 128 = ap (λ (k : ℕ). 2 ^ k) (omega arith) ∙ pow-add 2 (7 * fewer + 1) 7 in
    let others : ltb rest 128 ≡ false = le-ltb rest 128 high in
    let fits : rest < 2 ^ (7 * fewer + 1) * 128 = rw wider at below in
    (fewer, refl, omega arith, rw others refl)

pub goes_on : (old now next : List ℕ) (number rest byte : ℕ) → Continues old now number rest → 128 ≤ rest → next ≡ now ++ byte ∷ [] → byte ≡ 128 + rest % 128 → Continues old next number (rest / 128)
goes_on old now next number rest byte so_far high pushed is =
    let groups = more_groups so_far.more rest high so_far.below in
    let longer : length next ≡ length now + 1 = ap length pushed ∙ length_push now byte in
    record {
      more = groups.0;
      below = groups.2;
      written = rw (pushed, is) (append_assoc now ((128 + rest % 128) ∷ []) (groups_of groups.0 (rest / 128)) ∙ ap (λ (bytes : List ℕ). now ++ bytes) (sym groups.3) ∙ so_far.written);
      capacity = let capacity = so_far.capacity in let fewer = groups.1 in omega arith;
    }

-- the last group
last_group : (more rest : ℕ) → rest < 128 → groups_of more rest ≡ rest ∷ []
last_group zero rest low = refl
last_group (suc more) rest low = let last : ltb rest 128 ≡ true = lt-ltb rest 128 low in rw last refl

pub ends : (old now next : List ℕ) (number rest : ℕ) → Continues old now number rest → rest < 128 → next ≡ now ++ rest ∷ [] → next ≡ old ++ varint_of number
ends old now next number rest so_far low pushed =
    pushed ∙ ap (λ (bytes : List ℕ). now ++ bytes) (sym (last_group so_far.more rest low)) ∙ so_far.written

-- a number of one group is one byte more
pub one_byte : (old now : List ℕ) (number : ℕ) → now ≡ old ++ varint_of number → number < 128 → length now ≡ length old + 1
unfolding varint_of
one_byte old now number written low = ap length (written ∙ ap (λ (bytes : List ℕ). old ++ bytes) (last_group 9 number low)) ∙ length_push old number
