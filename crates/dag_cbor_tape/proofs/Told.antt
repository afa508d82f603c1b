-- What callers are told of the block of a tape.
use Rattle.std.proofs.Common.{◌≡◌, ◌∙◌, sym, ap, subst, ℕ, List, length, Result, Ok, Err, inl, inr}
use Rattle.std.proofs.Math.Nat.{sub-le}
use Rattle.std.specs.Prelude.{◌⊎◌, ◌≤◌, IfOk, IfErr, MatchResult, Vec}
use Rattle.std.specs.declared.alloc.Global.{Global}
use Rattle.ipld_cid.specs.Multihash.{IsBytes}
use Rattle.ipld_tokens.specs.Item.{Item}
use Rattle.dag_cbor_blocks.specs.declared.tape.TapeEntry.{TapeEntry}
use Rattle.dag_cbor_tape.specs.declared.error.EncodeError.{EncodeError}
use Rattle.dag_cbor_tape.specs.declared.error.Fault.{Fault}
use Rattle.dag_cbor_tape.specs.Canonical.{Orders}
use Rattle.dag_cbor_tape.specs.Describes.{Describes}
use Rattle.dag_cbor_tape.specs.Encoding.{block_of}
use Rattle.dag_cbor_tape.specs.Errors.{error_of}
use Rattle.dag_cbor_tape.specs.Memory.{IsMemoryFault, IsOutOfMemory}
use Rattle.dag_cbor_tape.proofs.Sound.{block_sound}
use Rattle.dag_cbor_tape.proofs.Complete.{block_complete}

-- the entry at which an allocation failed is one of the tape, or the end of it
pub placed : (len : ℕ) (f : Fault) (e : EncodeError) → e ≡ error_of len f → IsMemoryFault f → IsOutOfMemory len e
placed len f e is memory = (ap (λ (e : EncodeError). e.kind) is ∙ memory, subst (λ n. n ≤ len) (sym (ap (λ (e : EncodeError). e.entry) is)) (sub-le len f.left))

-- the canonical block is that of each item that the entries describe
abbrev Ordered : List ℕ → List TapeEntry → Result (Vec ℕ Global) EncodeError → Type 0
Ordered over es result = (i : Item 64) (written : List ℕ) → Describes over i es written → IfOk result (λ block. Orders i written block.items)

pub told : (over : List ℕ) (es : List TapeEntry) (result : Result (Vec ℕ Global) EncodeError) → IsBytes over → IfOk result (λ block. (written : List ℕ) × (block_of over es ≡ Ok written)) → Ordered over es result
    → IfOk result (λ block. (i : Item 64) × (written : List ℕ) × Describes over i es written × Orders i written block.items)
told over es (Ok block) whole found ordered = let d = block_sound over es found.0 whole found.1 in (d.0, found.0, d.1, ordered d.0 found.0 d.1)
told over es (Err error) whole found ordered = tt

pub told_only : (over : List ℕ) (es : List TapeEntry) (i : Item 64) (written : List ℕ) (result : Result (Vec ℕ Global) EncodeError) → Describes over i es written → Ordered over es result
    → IfErr result (λ error. IsOutOfMemory (length es) error ⊎ (block_of over es ≡ Err error))
    → MatchResult result (λ block. Orders i written block.items) (IsOutOfMemory (length es))
told_only over es i written (Ok block) d ordered exact = ordered i written d
told_only over es i written (Err error) d ordered (inl memory) = memory
told_only over es i written (Err error) d ordered (inr is) = let done = block_complete over i es written d in absurd cc
