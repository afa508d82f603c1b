use Rattle.std.proofs.Common.{◌≡◌, ◌≤◌, ℕ, List, length, Result, Ok, Err, inl, inr, sym, ◌∙◌}
use Rattle.std.specs.Prelude.{◌⊎◌, MatchResult, IfOk, IfErr}
use Rattle.ipld_cid.specs.declared.cid.CidGeneric.{CidGeneric}
use Rattle.ipld_cid.specs.declared.error.CidError.{CidError}
use Rattle.ipld_cid.specs.declared.error.CidError.TheVariants.{Memory}
use Rattle.ipld_cid.specs.Cid.{Link}
use Rattle.ipld_cid.specs.LinkOf.{link_of}
use Rattle.ipld_cid.specs.TextReading.{IsText, read_text}
use Rattle.ipld_cid.proofs.TextReadings.{text_is_encoded, text_is_read}
use Rattle.ipld_cid.proofs.cid.CidGeneric.from_text.Goals as goal

-- the exact outcome
abbrev Exact : (S : ℕ) → List ℕ → Result (CidGeneric S) CidError → Type 0
Exact S text result = MatchResult result (λ c. read_text S text ≡ Ok (link_of c)) (λ error. (error ≡ Memory) ⊎ (read_text S text ≡ Err error))

-- results that are one have one CID
same_link : (a b : Link) → ◌≡◌ {A = Result Link CidError} (Ok a) (Ok b) → a ≡ b
same_link a b e = cc

-- what is returned is encoded by the text
found : (S : ℕ) (text : List ℕ) (result : Result (CidGeneric S) CidError) → Exact S text result → IfOk result (λ c. IsText S (link_of c) text)
found S text (Ok c) exact = text_is_encoded S text (link_of c) exact
found S text (Err error) exact = tt

-- what the text encodes is returned, unless an allocation failed
only : (S : ℕ) (text : List ℕ) (result : Result (CidGeneric S) CidError) → Exact S text result → (link : Link) → IsText S link text
    → MatchResult result (λ c. link_of c ≡ link) (λ error. error ≡ Memory)
only S text (Ok c) exact link encoded = same_link (link_of c) link (sym exact ∙ text_is_read S text link encoded)
only S text (Err error) (inl memory) link encoded = memory
only S text (Err error) (inr exact) link encoded = absurd (let given = sym exact ∙ text_is_read S text link encoded in cc)

pub returns : goal.returns
returns g c =
    let text = c.args.text.now in
    let exact : Exact g.row.S text c.read_text.result = rw c.as_bytes.ensures.value at c.read_text.ensures.exact in
    let short : length text ≤ 155 → IfErr c.read_text.result (λ error. read_text g.row.S text ≡ Err error) = rw c.as_bytes.ensures.value at c.read_text.ensures.short in
    record { found = found g.row.S text c.read_text.result exact; only = only g.row.S text c.read_text.result exact; exact = exact; short = short }
