-- Bits in groups of another width.
use Rattle.std.proofs.Common.{◌≡◌, ℕ, zero, suc, ◌+◌, ◌-◌, ◌*◌, ◌/◌, ◌%◌, ◌^◌, ◌<◌, ◌≤◌, List, [], ◌∷◌, ◌++◌, length, get_or, take, drop, refl, sym, ap, subst, ◌∙◌, append_assoc, arith}
use Rattle.std.specs.Prelude.{replicate}
use Rattle.std.specs.List.{flat_map}
use Rattle.std.proofs.lemmas.List.{take_more, length-append, append-nil, length_push, length-replicate, take_at, drop_at}
use Rattle.std.proofs.lemmas.List.Concat.{flat_map-append}
use Rattle.std.proofs.lemmas.Nat.{div_below, mod_below, shl_below, shr_high, shr_below, shl-shr, pow-add, mul-le, pow_pos, shr_split}
use Rattle.std.proofs.Math.Nat.{pow-le-pow_right, pow-suc, mod-eq_of_lt, zero-div}
use Rattle.ipld_cid.specs.Base32.{bits, byte_bits}
use Rattle.ipld_cid.specs.Multihash.{IsBytes}
use Rattle.ipld_cid.proofs.Quintets.{bits-append, bits-low}
use Rattle.ipld_cid_text.specs.Digits.{IsBelow, IsGrouped, LeavesBits}
use Rattle.ipld_cid_text.specs.Encodes.{HasGroupLeft, HasBitLeft}
use Rattle.ipld_cid_text.proofs.Places.{below-append, below-cons}

-- what holds while i items are regrouped
pub record Regroups (from to : ℕ) (items : List ℕ) (i : ℕ) (groups : List ℕ) (rest count : ℕ) : Type 0 where
  pub size : to * length groups + count ≡ from * i
  pub small : rest < 2 ^ count
  pub below : IsBelow (2 ^ to) groups
  pub joined : flat_map (bits from) (take i items) ≡ flat_map (bits to) groups ++ bits count rest

-- an item more
pub regroups_item : (from to : ℕ) (items : List ℕ) (i : ℕ) (groups : List ℕ) (rest count : ℕ) → Regroups from to items i groups rest count → i < length items → IsBelow (2 ^ from) items
    → Regroups from to items (i + 1) groups (rest * 2 ^ from + get_or items i 0) (count + from)
regroups_item from to items i groups rest count so_far within below =
    let item = get_or items i 0 in
    let wide : suc rest * 2 ^ from ≤ 2 ^ count * 2 ^ from = mul-le (suc rest) (2 ^ from) (2 ^ count) (2 ^ from) so_far.small (omega arith) in
    let e : suc rest * 2 ^ from ≡ rest * 2 ^ from + 2 ^ from = omega arith in
    let here : bits (count + from) (rest * 2 ^ from + item) ≡ bits count rest ++ bits from item =
    bits-append count from (rest * 2 ^ from + item)
    ∙ ap (λ (k : ℕ). bits count k ++ bits from (rest * 2 ^ from + item)) (shr_high rest from item (below i))
    ∙ ap (λ (bs : List ℕ). bits count rest ++ bs) (bits-low from rest item) in
    record {
      size = let f : from * (i + 1) ≡ from * i + from = omega arith in omega (arith, so_far.size, f);
      small = omega (arith, wide, e, below i, pow-add 2 count from);
      below = so_far.below;
      joined =
          ap (flat_map (bits from)) (take_more items i 0 within)
          ∙ flat_map-append (bits from) (take i items) (item ∷ [])
          ∙ ap (λ (bs : List ℕ). bs ++ flat_map (bits from) (item ∷ [])) so_far.joined
          ∙ ap (λ (bs : List ℕ). (flat_map (bits to) groups ++ bits count rest) ++ bs) (append-nil (bits from item))
          ∙ append_assoc (flat_map (bits to) groups) (bits count rest) (bits from item)
          ∙ ap (λ (bs : List ℕ). flat_map (bits to) groups ++ bs) (sym here);
    }

-- a group more
pub regroups_group : (from to : ℕ) (items : List ℕ) (i : ℕ) (groups news : List ℕ) (rest count group low : ℕ) → Regroups from to items i groups rest count → to ≤ count
    → group * 2 ^ (count - to) + low ≡ rest → low < 2 ^ (count - to) → news ≡ groups ++ group ∷ []
    → Regroups from to items i news low (count - to)
regroups_group from to items i groups news rest count group low so_far enough whole small is =
    let left = count - to in
    let parts : to + left ≡ count = omega arith in
    let high : rest / 2 ^ left ≡ group = ap (λ (k : ℕ). k / 2 ^ left) (sym whole) ∙ shr_high group left low small in
    let here : bits count rest ≡ bits to group ++ bits left low =
    ap (λ (k : ℕ). bits k rest) (sym parts) ∙ bits-append to left rest
    ∙ ap (λ (k : ℕ). bits to k ++ bits left rest) high
    ∙ ap (λ (k : ℕ). bits to group ++ bits left k) (sym whole)
    ∙ ap (λ (bs : List ℕ). bits to group ++ bs) (bits-low left group low) in
    let fits : group < 2 ^ to = subst (λ (k : ℕ). k < 2 ^ to) high (shr_below rest to left (subst (λ (k : ℕ). rest < 2 ^ k) (sym parts) so_far.small)) in
    record {
      size = let e : to * (length groups + 1) ≡ to * length groups + to = omega arith in rw (is, length_push groups group) (omega (arith, e, so_far.size));
      small = small;
      below = rw is (below-append (2 ^ to) groups (group ∷ []) so_far.below (below-cons (2 ^ to) group [] fits (λ k. pow_pos to)));
      joined =
          so_far.joined ∙ ap (λ (bs : List ℕ). flat_map (bits to) groups ++ bs) here
          ∙ sym (append_assoc (flat_map (bits to) groups) (bits to group) (bits left low))
          ∙ ap (λ (bs : List ℕ). (flat_map (bits to) groups ++ bs) ++ bits left low) (sym (append-nil (bits to group)))
          ∙ ap (λ (bs : List ℕ). bs ++ bits left low) (sym (flat_map-append (bits to) groups (group ∷ [])) ∙ ap (flat_map (bits to)) (sym is));
    }

-- a group fits a byte
pub group_fits : (to count rest group low : ℕ) → to ≤ 8 → to ≤ count → rest < 2 ^ count → group * 2 ^ (count - to) + low ≡ rest → low < 2 ^ (count - to) → group < 256
group_fits to count rest group low narrow enough small whole few =
    let left = count - to in
    let high : rest / 2 ^ left ≡ group = ap (λ (k : ℕ). k / 2 ^ left) (sym whole) ∙ shr_high group left low few in
    let parts : to + left ≡ count = omega arith in
    let fits : group < 2 ^ to = subst (λ (k : ℕ). k < 2 ^ to) high (shr_below rest to left (subst (λ (k : ℕ). rest < 2 ^ k) (sym parts) small)) in
    let up : 2 ^ to ≤ 2 ^ 8 = pow-le-pow_right {n = 2} (omega arith) {i = to} {j = 8} narrow in
    omega (arith, fits, up)

-- groups are few
pub groups_few : (from to n groups count i : ℕ) → from ≤ 8 → 4 ≤ to → to * groups + count ≡ from * i → i ≤ 190 → groups ≤ 380
groups_few from to n groups count i narrow wide e few =
    let a : 4 * groups ≤ to * groups = mul-le 4 groups to groups wide (omega arith) in
    let b : from * i ≤ 8 * 190 = mul-le from i 8 190 narrow few in
    omega (arith, a, b, e)

-- ---- zeros

pub bits-zero : (w : ℕ) → bits w 0 ≡ replicate w 0
bits-zero zero = refl
bits-zero (suc w) = let here : 0 / 2 ^ w % 2 ≡ 0 = rw (zero-div (2 ^ w)) refl in rw here (ap (λ (bs : List ℕ). 0 ∷ bs) (bits-zero w))

pub length-bits : (w n : ℕ) → length (bits w n) ≡ w
length-bits zero n = refl
length-bits (suc w) n = ap suc (length-bits w n)

-- a number whose bits are all zero
pub zero-bits : (w n : ℕ) → n < 2 ^ w → bits w n ≡ replicate w 0 → n ≡ 0
zero-bits zero n small e = omega arith
zero-bits (suc w) n small e =
    let parts : (n / 2 ^ w % 2 ≡ 0) × (bits w n ≡ replicate w 0) = (cc, cc) in
    let twice : 2 ^ suc w ≡ 2 ^ w * 2 = pow-suc 2 w in
    let high : n / 2 ^ w < 2 = div_below n (2 ^ w) 2 (pow_pos w) (omega (arith, twice)) in
    let none : n / 2 ^ w ≡ 0 = omega (arith, parts.0) in
    let whole : n / 2 ^ w * 2 ^ w + n % 2 ^ w ≡ n = shr_split n w in
    let low : n % 2 ^ w < 2 ^ w = mod_below n (2 ^ w) (pow_pos w) in
    let few : n < 2 ^ w = let e : 0 * 2 ^ w + n % 2 ^ w ≡ n = ap (λ (k : ℕ). k * 2 ^ w + n % 2 ^ w) (sym none) ∙ whole in omega (arith, e, low) in
    zero-bits w n few parts.1

-- ---- bytes in groups

-- what is left over, filled with zeros
filled : (w count rest : ℕ) → count ≤ w → bits w (rest * 2 ^ (w - count)) ≡ bits count rest ++ replicate (w - count) 0
filled w count rest within =
    let fill = w - count in
    let parts : count + fill ≡ w = omega arith in
    let none : rest * 2 ^ fill ≡ rest * 2 ^ fill + 0 = omega arith in
    ap (λ (k : ℕ). bits k (rest * 2 ^ fill)) (sym parts)
    ∙ bits-append count fill (rest * 2 ^ fill)
    ∙ ap (λ (k : ℕ). bits count k ++ bits fill (rest * 2 ^ fill)) (shl-shr rest fill)
    ∙ ap (λ (k : ℕ). bits count rest ++ bits fill k) none
    ∙ ap (λ (bs : List ℕ). bits count rest ++ bs) (bits-low fill rest 0 ∙ bits-zero fill)

-- the last group's number
pub last_group : (w count rest : ℕ) → count ≤ w → w ≤ 8 → rest < 2 ^ count → rest * 2 ^ (w - count) < 2 ^ w
last_group w count rest within narrow small =
    let parts : count + (w - count) ≡ w = omega arith in
    subst (λ (k : ℕ). rest * 2 ^ (w - count) < 2 ^ k) parts (shl_below rest count (w - count) small)

pub last_fits : (w count rest : ℕ) → count ≤ w → w ≤ 8 → rest < 2 ^ count → rest * 2 ^ (w - count) < 256
last_fits w count rest within narrow small =
    let up : 2 ^ w ≤ 2 ^ 8 = pow-le-pow_right {n = 2} (omega arith) {i = w} {j = 8} narrow in
    omega (arith, up, last_group w count rest within narrow small)

pub grouped_filled : (w : ℕ) (bytes groups news : List ℕ) (rest count : ℕ) → IsBytes bytes → w ≤ 8 → IsBelow (2 ^ w) groups → 0 < count → count < w → rest < 2 ^ count
    → flat_map (bits 8) bytes ≡ flat_map (bits w) groups ++ bits count rest → news ≡ groups ++ (rest * 2 ^ (w - count) % 4294967296) ∷ [] → IsGrouped w bytes news
grouped_filled w bytes groups news rest count are narrow below some few small joined is =
    let last = rest * 2 ^ (w - count) in
    let fits : last < 4294967296 = omega (arith, last_fits w count rest (omega arith) narrow small) in
    let added : news ≡ groups ++ last ∷ [] = is ∙ ap (λ (k : ℕ). groups ++ k ∷ []) (mod-eq_of_lt fits) in
    record {
      digits = are;
      below = rw added (below-append (2 ^ w) groups (last ∷ []) below (below-cons (2 ^ w) last [] (last_group w count rest (omega arith) narrow small) (λ k. pow_pos w)));
      fill = w - count;
      short = omega arith;
      joined =
          ap (flat_map (bits w)) added ∙ flat_map-append (bits w) groups (last ∷ [])
          ∙ ap (λ (bs : List ℕ). flat_map (bits w) groups ++ bs) (append-nil (bits w last) ∙ filled w count rest (omega arith))
          ∙ sym (append_assoc (flat_map (bits w) groups) (bits count rest) (replicate (w - count) 0))
          ∙ ap (λ (bs : List ℕ). bs ++ replicate (w - count) 0) (sym joined);
    }

-- ---- groups in bytes

pub ungrouped_whole : (w : ℕ) (groups bytes : List ℕ) (rest count : ℕ) → IsBelow (2 ^ w) groups → IsBelow (2 ^ 8) bytes → count < w → rest ≡ 0
    → flat_map (bits w) groups ≡ flat_map (bits 8) bytes ++ bits count rest → IsGrouped w bytes groups
ungrouped_whole w groups bytes rest count below are few none joined = record {
  digits = are;
  below = below;
  fill = count;
  short = few;
  joined = joined ∙ ap (λ (k : ℕ). flat_map (bits 8) bytes ++ bits count k) none ∙ ap (λ (bs : List ℕ). flat_map (bits 8) bytes ++ bs) (bits-zero count);
}

leaves : (w : ℕ) (groups bytes : List ℕ) (rest count : ℕ) → count < 8 → flat_map (bits w) groups ≡ flat_map (bits 8) bytes ++ bits count rest → LeavesBits w groups (bits count rest)
leaves w groups bytes rest count few joined = record { bytes = bytes; few = rw (length-bits count rest) few; joined = joined }

pub group_left : (w : ℕ) (groups bytes : List ℕ) (rest count : ℕ) → count < 8 → w ≤ count → flat_map (bits w) groups ≡ flat_map (bits 8) bytes ++ bits count rest → HasGroupLeft w groups
group_left w groups bytes rest count few many joined = record { rest = bits count rest; leaves = leaves w groups bytes rest count few joined; many = rw (length-bits count rest) many }

pub bit_left : (w : ℕ) (groups bytes : List ℕ) (rest count : ℕ) → count < 8 → count < w → rest < 2 ^ count → (rest ≡ 0 → ⊥)
    → flat_map (bits w) groups ≡ flat_map (bits 8) bytes ++ bits count rest → HasBitLeft w groups
bit_left w groups bytes rest count few short small set joined = record {
  rest = bits count rest;
  leaves = leaves w groups bytes rest count few joined;
  few = rw (length-bits count rest) short;
  set = λ e. set (zero-bits count rest small (e ∙ ap (λ (k : ℕ). replicate k 0) (length-bits count rest)));
}

-- ---- the bytes of groups are the only ones

bits-same : (w x y : ℕ) → x < 2 ^ w → y < 2 ^ w → bits w x ≡ bits w y → x ≡ y
bits-same zero x y small few e = omega arith
bits-same (suc w) x y small few e =
    let parts : (x / 2 ^ w % 2 ≡ y / 2 ^ w % 2) × (bits w x ≡ bits w y) = (cc, cc) in
    let twice : 2 ^ suc w ≡ 2 ^ w * 2 = pow-suc 2 w in
    let high_x : x / 2 ^ w < 2 = div_below x (2 ^ w) 2 (pow_pos w) (omega (arith, twice)) in
    let high_y : y / 2 ^ w < 2 = div_below y (2 ^ w) 2 (pow_pos w) (omega (arith, twice)) in
    let high : x / 2 ^ w ≡ y / 2 ^ w = omega (arith, parts.0) in
    let low_bits : (n : ℕ) → bits w (n % 2 ^ w) ≡ bits w n = λ n. sym (bits-low w (n / 2 ^ w) (n % 2 ^ w)) ∙ ap (bits w) (shr_split n w) in
    let low : x % 2 ^ w ≡ y % 2 ^ w = bits-same w (x % 2 ^ w) (y % 2 ^ w) (mod_below x (2 ^ w) (pow_pos w)) (mod_below y (2 ^ w) (pow_pos w)) (low_bits x ∙ parts.1 ∙ sym (low_bits y)) in
    sym (shr_split x w) ∙ ap (λ (k : ℕ). k * 2 ^ w + x % 2 ^ w) high ∙ ap (λ (k : ℕ). y / 2 ^ w * 2 ^ w + k) low ∙ shr_split y w

-- bytes with fewer than eight bits after them
pub one_reading : (xs ys r s : List ℕ) → IsBytes xs → IsBytes ys → length r < 8 → length s < 8 → byte_bits xs ++ r ≡ byte_bits ys ++ s → (xs ≡ ys) × (r ≡ s)
one_reading [] [] r s bx by few short e = (refl, e)
one_reading [] (y ∷ ys) r s bx by few short e = absurd (let long : length r ≡ length (byte_bits (y ∷ ys) ++ s) = ap length e in omega (arith, long, length-append (bits 8 y ++ byte_bits ys) s, length-append (bits 8 y) (byte_bits ys), length-bits 8 y))
one_reading (x ∷ xs) [] r s bx by few short e = absurd (let long : length (byte_bits (x ∷ xs) ++ r) ≡ length s = ap length e in omega (arith, long, length-append (bits 8 x ++ byte_bits xs) r, length-append (bits 8 x) (byte_bits xs), length-bits 8 x))
one_reading (x ∷ xs) (y ∷ ys) r s bx by few short e =
    let turned : bits 8 x ++ (byte_bits xs ++ r) ≡ bits 8 y ++ (byte_bits ys ++ s) = sym (append_assoc (bits 8 x) (byte_bits xs) r) ∙ e ∙ append_assoc (bits 8 y) (byte_bits ys) s in
    let first : bits 8 x ≡ bits 8 y = sym (take_at (bits 8 x) (byte_bits xs ++ r) 8 (length-bits 8 x)) ∙ ap (take 8) turned ∙ take_at (bits 8 y) (byte_bits ys ++ s) 8 (length-bits 8 y) in
    let rest : byte_bits xs ++ r ≡ byte_bits ys ++ s = sym (drop_at (bits 8 x) (byte_bits xs ++ r) 8 (length-bits 8 x)) ∙ ap (drop 8) turned ∙ drop_at (bits 8 y) (byte_bits ys ++ s) 8 (length-bits 8 y) in
    let more = one_reading xs ys r s (λ i. bx (suc i)) (λ i. by (suc i)) few short rest in
    let here : x ≡ y = bits-same 8 x y (bx 0) (by 0) first in
    (ap (λ (k : ℕ). k ∷ xs) here ∙ ap (λ (l : List ℕ). y ∷ l) more.0, more.1)

-- two bytes of the same groups
pub one_grouped : (w : ℕ) (xs ys groups : List ℕ) → w ≤ 8 → IsGrouped w xs groups → IsGrouped w ys groups → xs ≡ ys
one_grouped w xs ys groups narrow a b =
    (one_reading xs ys (replicate a.fill 0) (replicate b.fill 0) a.digits b.digits
    (rw (length-replicate {A = ℕ} a.fill 0) (omega (arith, a.short))) (rw (length-replicate {A = ℕ} b.fill 0) (omega (arith, b.short))) (sym a.joined ∙ b.joined)).0
