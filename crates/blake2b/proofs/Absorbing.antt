-- How a message grows, and how it ends.
use Rattle.std.proofs.Common.{◌≡◌, ◌<◌, ◌≤◌, ◌+◌, ◌-◌, ◌*◌, ◌/◌, ◌%◌, ◌^◌, ℕ, true, List, ◌++◌, length, take, drop, replicate, refl, sym, ap, ◌∙◌, arith, length-append, inl, inr}
use Rattle.std.proofs.lemmas.List.{append_assoc, drop_at, length-replicate, nil_from_length, take_all}
use Rattle.std.proofs.lemmas.Bool.{cases_lt}
use Rattle.blake2b.specs.Blake2b.{block_count, compress, final_state, padded, state_after, words}
use Rattle.blake2b.specs.Chain.{IsAfter}
use Rattle.blake2b.specs.State.{Holds}
use Rattle.blake2b.specs.declared.state.State.{State}
use Rattle.blake2b.proofs.Compressing.{compress-wrapped, state_after-append}

-- bytes that fit in the buffer
pub Holds-short : (initial : List ℕ) (old new : State) (message bytes : List ℕ) → Holds initial old message
    → new.chain ≡ old.chain → new.last ≡ old.last ++ bytes → Holds initial new (message ++ bytes)
Holds-short initial old new message bytes held chain last = record {
  before = held.before;
  compressed = rw chain held.compressed;
  parts = ap (λ (m : List ℕ). m ++ bytes) held.parts ∙ append_assoc held.before old.last bytes
      ∙ sym (ap (λ (m : List ℕ). held.before ++ m) last);
  some = λ none.
      let len : length (old.last ++ bytes) ≡ 0 = ap length (sym last ∙ none) in
      held.some (nil_from_length old.last (omega (arith, length-append old.last bytes)));
}

-- bytes that fill the buffer, whole blocks, and the last block
pub Holds-long : (initial : List ℕ) (old new : State) (message bytes front blocks last full : List ℕ) (held : Holds initial old message)
    → bytes ≡ front ++ (blocks ++ last) → full ≡ old.last ++ front → IsAfter initial new.chain ((held.before ++ full) ++ blocks)
    → new.last ≡ last → 0 < length last → Holds initial new (message ++ bytes)
Holds-long initial old new message bytes front blocks last full held parts filled after same some =
    let b : List ℕ = held.before in
    let left : message ++ bytes ≡ (b ++ old.last) ++ (front ++ (blocks ++ last)) =
    ap (λ (m : List ℕ). m ++ bytes) held.parts ∙ ap (λ (m : List ℕ). (b ++ old.last) ++ m) parts in
    let middle : (b ++ old.last) ++ (front ++ (blocks ++ last)) ≡ ((b ++ (old.last ++ front)) ++ blocks) ++ last = simp append_assoc in
    let right : ((b ++ full) ++ blocks) ++ new.last ≡ ((b ++ (old.last ++ front)) ++ blocks) ++ last = rw (same, filled) refl in
    record {
      before = (b ++ full) ++ blocks;
      compressed = after;
      parts = left ∙ middle ∙ sym right;
      some = λ none.
          let len : length last ≡ 0 = ap length (sym same ∙ none) in
          absurd (omega arith);
    }

-- the state after the last block, which is padded with zeros
pub Holds-final : (initial : List ℕ) (state : State) (message full : List ℕ) (count : ℕ) → Holds initial state message
    → length state.last ≤ 128 → full ≡ state.last ++ replicate (128 - length state.last) 0
    → count ≡ (state.chain.count + length state.last) % 2 ^ 128
    → compress state.chain.state (words full 16) count true ≡ final_state initial message
Holds-final initial state message full count held fits filled counted =
    let b : List ℕ = held.before in
    let kept : List ℕ = state.last in
    let n : ℕ = length b / 128 in
    let whole : length b % 128 ≡ 0 = held.compressed.whole in
    let before : state.chain.count ≡ length b % 2 ^ 128 = held.compressed.counted in
    let none : length kept ≡ 0 → length b ≡ 0 = λ e. ap length (held.some (nil_from_length kept e)) in
    let len : length message ≡ length b + length kept = ap length held.parts ∙ length-append b kept in
    let exact : length b ≡ 128 * n = omega arith in
    let count_is : block_count (length message) ≡ n + 1 = elim (cases_lt 0 (length kept)) [
      | inl some ↦ omega arith
      | inr empty ↦ let nothing : length b ≡ 0 = none (omega arith) in omega arith
    ] in
    let last : block_count (length message) - 1 ≡ n = omega arith in
    let zeros : 128 * block_count (length message) - length message ≡ 128 - length kept = omega arith in
    let all : padded message ≡ b ++ full =
    rw (zeros, filled) (ap (λ (m : List ℕ). m ++ replicate (128 - length kept) 0) held.parts ∙ append_assoc b kept (replicate (128 - length kept) 0)) in
    let full_len : length full ≡ 128 =
    ap length filled ∙ length-append kept (replicate (128 - length kept) 0) ∙ omega (arith, length-replicate {A = ℕ} (128 - length kept) 0) in
    let here : take 128 (drop (128 * n) (b ++ full)) ≡ full = rw (drop_at b full (128 * n) exact) (take_all 128 full (omega arith)) in
    let same : state_after initial (b ++ full) n ≡ state.chain.state =
    state_after-append initial b full n (omega arith) ∙ sym held.compressed.state in
    let total : count ≡ length message % 2 ^ 128 = omega arith in
    rw (last, all, here, same, total) (compress-wrapped state.chain.state (words full 16) (length message) true)
