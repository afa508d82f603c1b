-- How the state words follow whole blocks.
use Rattle.std.proofs.Common.{◌≡◌, ◌≤◌, ◌+◌, ◌*◌, ◌/◌, ◌%◌, ◌^◌, ℕ, zero, suc, Bool, false, List, ◌++◌, length, take, drop, refl, sym, ap, ◌∙◌, arith, length-append, length-drop}
use Rattle.std.proofs.lemmas.List.{append-nil, append_assoc, drop_at, drop-append-le, drop-take, length-take-le, take_all, take-append-drop, take-append-le, take-take}
use Rattle.blake2b.specs.Blake2b.{compress, state_after, work_vector, words}
use Rattle.blake2b.specs.Chain.{IsAfter}
use Rattle.blake2b.specs.declared.chain.Chain.{Chain}

-- state_after reads only the blocks that it counts
pub state_after-append : (h bytes more : List ℕ) (n : ℕ) → 128 * n ≤ length bytes
    → state_after h (bytes ++ more) n ≡ state_after h bytes n
unfolding state_after
state_after-append h bytes more zero fits = refl
state_after-append h bytes more (suc n) fits =
    let left : 128 ≤ length (drop (128 * n) bytes) = omega (arith, length-drop (128 * n) bytes) in
    let same : take 128 (drop (128 * n) (bytes ++ more)) ≡ take 128 (drop (128 * n) bytes) =
    rw (drop-append-le (128 * n) bytes more (omega arith)) (take-append-le 128 (drop (128 * n) bytes) more left) in
    rw (same, state_after-append h bytes more n (omega arith)) refl

work_vector-wrapped : (h : List ℕ) (t : ℕ) (is_last : Bool) → work_vector h (t % 2 ^ 128) is_last ≡ work_vector h t is_last
unfolding work_vector
work_vector-wrapped h t is_last =
    let low : t % 2 ^ 128 % 2 ^ 64 ≡ t % 2 ^ 64 = omega arith in
    let high : t % 2 ^ 128 / 2 ^ 64 % 2 ^ 64 ≡ t / 2 ^ 64 % 2 ^ 64 = omega arith in
    rw (low, high) refl

-- the compression function reads the counter modulo 2 ^ 128
pub compress-wrapped : (h m : List ℕ) (t : ℕ) (is_last : Bool) → compress h m (t % 2 ^ 128) is_last ≡ compress h m t is_last
unfolding compress
compress-wrapped h m t is_last = rw (work_vector-wrapped h t is_last) refl

-- one more block
pub IsAfter-block : (initial : List ℕ) (old new : Chain) (bytes x : List ℕ) → IsAfter initial old bytes → length x ≡ 128
    → new.count ≡ (old.count + 128) % 2 ^ 128 → new.state ≡ compress old.state (words x 16) new.count false
    → IsAfter initial new (bytes ++ x)
unfolding state_after
IsAfter-block initial old new bytes x after full counted compressed =
    let n : ℕ = length bytes / 128 in
    let whole : length bytes % 128 ≡ 0 = after.whole in
    let before : old.count ≡ length bytes % 2 ^ 128 = after.counted in
    let len : length (bytes ++ x) ≡ length bytes + 128 = omega (arith, length-append bytes x) in
    let exact : length bytes ≡ 128 * n = omega arith in
    let next : length (bytes ++ x) / 128 ≡ suc n = omega arith in
    let count : new.count ≡ (128 * (n + 1)) % 2 ^ 128 = omega arith in
    let here : take 128 (drop (128 * n) (bytes ++ x)) ≡ x =
    rw (drop_at bytes x (128 * n) exact) (take_all 128 x (omega arith)) in
    let same : state_after initial (bytes ++ x) n ≡ old.state =
    state_after-append initial bytes x n (omega arith) ∙ sym after.state in
    record {
      whole = omega arith;
      state = compressed ∙ rw (count, compress-wrapped old.state (words x 16) (128 * (n + 1)) false, next, here, same) refl;
      counted = omega arith;
    }

-- the first a + 128 bytes
pub take-block : (bytes : List ℕ) (a : ℕ) → take (a + 128) bytes ≡ take a bytes ++ take 128 (drop a bytes)
take-block bytes a =
    let whole : take a (take (a + 128) bytes) ++ drop a (take (a + 128) bytes) ≡ take (a + 128) bytes = take-append-drop a (take (a + 128) bytes) in
    sym (rw (take-take a (a + 128) bytes (omega arith), drop-take a 128 bytes) at whole)

-- before the first block
pub IsAfter-none : (initial : List ℕ) (chain : Chain) (bytes blocks : List ℕ) → IsAfter initial chain bytes → IsAfter initial chain (bytes ++ take 0 blocks)
IsAfter-none initial chain bytes blocks after = rw (append-nil bytes) after

-- the block from a on
pub IsAfter-next : (initial : List ℕ) (old new : Chain) (bytes blocks x : List ℕ) (a : ℕ) → IsAfter initial old (bytes ++ take a blocks)
    → a + 128 ≤ length blocks → x ≡ take 128 (drop a blocks)
    → new.count ≡ (old.count + 128) % 2 ^ 128 → new.state ≡ compress old.state (words x 16) new.count false
    → IsAfter initial new (bytes ++ take (a + 128) blocks)
IsAfter-next initial old new bytes blocks x a after fits same counted compressed =
    let len : length x ≡ 128 = ap length same ∙ length-take-le 128 (drop a blocks) (omega (arith, length-drop a blocks)) in
    let grown : take (a + 128) blocks ≡ take a blocks ++ x = rw same (take-block blocks a) in
    rw (grown, ← append_assoc) (IsAfter-block initial old new (bytes ++ take a blocks) x after len counted compressed)
