use Rattle.std.proofs.Common.{arith, ◌≡◌, ◌<◌, ◌≤◌, ◌^◌, ◌-◌, ◌++◌, length, take, drop, replicate, ℕ, List, refl, ap}
use Rattle.std.proofs.lemmas.List.{take_at, drop-replicate, length-append}
use Rattle.ipld_cid.specs.Multihash.{IsBytes, IsMultihash}
use Rattle.ipld_cid.proofs.multihash.Multihash.wrap.Goals as goal

-- a digest and the unused slots behind it
kept : (S code : ℕ) (digest : List ℕ) → code < 2 ^ 64 → length digest ≤ S → IsBytes digest
    → (length digest ≤ length (digest ++ drop (length digest) (replicate S 0)))
    × (digest ++ drop (length digest) (replicate S 0) ≡ take (length digest) (digest ++ drop (length digest) (replicate S 0)) ++ replicate (S - length digest) 0)
    × IsMultihash S (record { code = code; digest = take (length digest) (digest ++ drop (length digest) (replicate S 0)) })
kept S code digest below fits bytes =
    rw (take_at digest (drop (length digest) (replicate S 0)) (length digest) refl) (
      omega (arith, length-append digest (drop (length digest) (replicate S 0))),
      ap (λ (unused : List ℕ). digest ++ unused) (drop-replicate (length digest) S 0),
      (below, fits, bytes),
    )

pub invariant_of-result : goal.invariant_of-result
invariant_of-result g c =
    rw c.copy_from_slice.ensures.after
    (kept g.row.S c.args.code c.args.digest.now (omega arith) (omega arith) (λ i. omega (arith, c.type_inv.digest i)))
