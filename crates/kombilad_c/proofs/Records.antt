-- The record of a CID's bytes.
use Rattle.std.proofs.Common.{◌≡◌, ℕ, ◌-◌, List, ◌++◌, length, drop, replicate, ap, ◌∙◌}
use Rattle.std.proofs.lemmas.List.{drop-replicate}
use Rattle.kombilad_c.specs.declared.cid_record.CidBytes.{CidBytes}
use Rattle.kombilad_c.specs.CidRecord.{record_with}

abbrev made : ℕ → List ℕ → CidBytes
made len bytes = record { len = len; bytes = bytes }

-- bytes that are written over zeros
pub record_made : (bytes written : List ℕ) (len : ℕ) → len ≡ length bytes → written ≡ bytes ++ drop len (replicate 87 0) → made len written ≡ record_with bytes
record_made bytes written len e w =
    ap (made len) (w ∙ ap (λ zeros. bytes ++ zeros) (drop-replicate len 87 0))
    ∙ ap (λ (n : ℕ). made n (bytes ++ replicate (87 - n) 0)) e
