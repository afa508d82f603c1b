-- The varint at the front of bytes, and what it says of a header or a section.
use Rattle.std.proofs.Common.{◌≡◌, ℕ, ◌+◌, ◌-◌, ◌<◌, ◌≤◌, min, List, ◌++◌, length, drop, Ok, inl, inr, refl, sym, ap, ◌∙◌, arith, length-append}
use Rattle.ipld_cid.specs.Multihash.{IsBytes}
use Rattle.ipld_cid.specs.Varint.{IsVarint, varint_of, read_varint}
use Rattle.ipld_cid.specs.declared.error.CidError.TheVariants.{End}
use Rattle.ipld_cid.proofs.Varints.{varint_alone, varint_encodes, read_varint-sound}
use Rattle.ipld_car.specs.Framing.{IsCut}
use Rattle.ipld_car.proofs.FramesInMemory.{drop_len}
use Rattle.ipld_car.proofs.OnlyFramed.{not_both, number_in, varint_read}
use Rattle.kombilad_c.specs.CarLength.{HasLength, HasNoLength, IsWithin, IsOver}
use Rattle.kombilad_c.specs.CarPart.{NeedsMore}

-- a varint that was read
pub length_found : (bytes : List ℕ) (number count : ℕ) → IsBytes bytes → count ≤ length bytes → read_varint bytes ≡ Ok (number, drop count bytes) → HasLength bytes number count
length_found bytes number count whole few read =
    let sound = read_varint-sound number bytes (drop count bytes) whole read in
    record {
      size = varint_of number;
      rest = drop count bytes;
      size_encoded = varint_encodes number sound.0;
      parts = sound.1;
      counted = let l = ap length sound.1 ∙ length-append (varint_of number) (drop count bytes) in let d = drop_len bytes count in omega arith;
    }

-- bytes have one varint
pub one_number : (bytes : List ℕ) (number count : ℕ) → (h : HasLength bytes number count) → (n : ℕ) (size rest : List ℕ) → IsVarint n size → bytes ≡ size ++ rest
    → (n ≡ number) × (length size ≡ count)
one_number bytes number count h n size rest v e =
    let same : n ≡ number = ap number_in (sym (varint_read n size rest bytes v e) ∙ varint_read number h.size h.rest bytes h.size_encoded h.parts) in
    (same, ap length (varint_alone n size v) ∙ ap (λ (k : ℕ). length (varint_of k)) same ∙ sym (ap length (varint_alone number h.size h.size_encoded)) ∙ h.counted)

-- or none
pub no_number : (bytes : List ℕ) → HasNoLength bytes → (n : ℕ) (size rest : List ℕ) → IsVarint n size → bytes ≡ size ++ rest → ⊥
no_number bytes none n size rest v e = not_both n rest none.0 (read_varint bytes) (varint_read n size rest bytes v e) none.1

pub within_found : (limit : ℕ) (bytes : List ℕ) (number count : ℕ) → HasLength bytes number count → number ≤ limit → IsWithin limit bytes
within_found limit bytes number count h few = λ n size rest v e. let same = (one_number bytes number count h n size rest v e).0 in omega arith

pub within_none : (limit : ℕ) (bytes : List ℕ) → HasNoLength bytes → IsWithin limit bytes
within_none limit bytes none = λ n size rest v e. absurd (no_number bytes none n size rest v e)

pub over_found : (limit : ℕ) (bytes : List ℕ) (number count : ℕ) → HasLength bytes number count → limit < number → IsOver limit bytes number
over_found limit bytes number count h many = (h.size, h.rest, h.parts, h.size_encoded, many)

-- ---- how many bytes are missing

pub missing_found : (limit room : ℕ) (bytes : List ℕ) (number count n : ℕ) → HasLength bytes number count → IsCut limit bytes → length bytes < room
    → n ≡ min (number + count) room - length bytes → NeedsMore limit room bytes n
missing_found limit room bytes number count n h (inl begins) short is = absurd (no_number bytes (End, begins) number h.size h.rest h.size_encoded h.parts)
missing_found limit room bytes number count n h (inr c) short is =
    let same = one_number bytes number count h c.total c.size c.content c.size_encoded c.encoded in
    let l = ap length c.encoded ∙ length-append c.size c.content in
    let few = c.short in (
      short,
      omega (arith, min),
      inr (record {
        size = c.size;
        content = c.content;
        total = c.total;
        size_encoded = c.size_encoded;
        within_limit = c.within_limit;
        short = c.short;
        encoded = c.encoded;
        missing = omega (arith, min);
      }),
    )

pub missing_none : (limit room : ℕ) (bytes : List ℕ) → HasNoLength bytes → IsCut limit bytes → length bytes < room → NeedsMore limit room bytes 1
missing_none limit room bytes none (inl begins) short = (short, omega arith, inl (begins, refl))
missing_none limit room bytes none (inr c) short = absurd (no_number bytes none c.total c.size c.content c.size_encoded c.encoded)
