use Rattle.std.proofs.Common.{◌≡◌, List, ℕ, [], ◌∷◌, ◌++◌, refl, sym, ap, ◌∙◌, lit<}
use Rattle.std.proofs.lemmas.Str.Ascii.{IsAscii-cons}
use Rattle.std.proofs.Output.{has_written_append, has_written_of_eq}
use Rattle.ipld_cid.specs.Base32.{base32}
use Rattle.ipld_cid.specs.LinkOf.{link_of}
use Rattle.ipld_cid.specs.Text.{text_of}
use Rattle.ipld_cid.proofs.Quintets.{base32-append, base32-ascii}
use Rattle.ipld_cid.proofs.Texts.{text_of_v1}
use Rattle.ipld_cid.proofs.text.write_v1_text.Goals as goal

-- the prefix, and letters after it
begun : (none start text front letters : List ℕ) → none ≡ [] → start ≡ none ++ 98 ∷ [] → letters ≡ front → text ≡ start ++ base32 letters → text ≡ 98 ∷ base32 front
begun none start text front letters empty prefix same added =
    added ∙ ap (λ (xs : List ℕ). xs ++ base32 letters) (prefix ∙ ap (λ (xs : List ℕ). xs ++ 98 ∷ []) empty) ∙ ap (λ (xs : List ℕ). 98 ∷ base32 xs) same

pub as_text-requires : goal.as_text-requires
as_text-requires g c =
    rw (c.as_slice-2.ensures ∙ begun c.new-text.result c.extend.new.self c.push_base32.new.self c.split_in_blocks-front.result.0 c.as_slice.result.now c.new-text.ensures c.extend.ensures c.as_slice.ensures c.push_base32.ensures.written)
    (IsAscii-cons 98 (base32 c.split_in_blocks-front.result.0) (lit< tt) (base32-ascii c.split_in_blocks-front.result.0))

pub returns : goal.returns
returns g c =
    let link = link_of c.args.cid.now in
    let front = c.split_in_blocks-front.result.0 in
    let rest = c.split_in_blocks-front.result.1.now in
    let first : c.as_text.result.now ≡ 98 ∷ base32 front =
    c.as_text.ensures ∙ c.as_slice-2.ensures ∙ begun c.new-text.result c.extend.new.self c.push_base32.new.self front c.as_slice.result.now c.new-text.ensures c.extend.ensures c.as_slice.ensures c.push_base32.ensures.written in
    let letters : c.as_text.result.now ++ base32 rest ≡ text_of link =
    ap (λ (xs : List ℕ). xs ++ base32 rest) first
    ∙ ap (λ (ls : List ℕ). 98 ∷ ls) (sym (base32-append front rest c.split_in_blocks-front.ensures.even) ∙ ap base32 c.split_in_blocks-front.ensures.whole)
    ∙ sym (text_of_v1 link c.requires) in
    λ plain ok.
    let begins = c.in_ok-write_str.ensures.writes plain refl in
    has_written_of_eq _ _ _ _ _ letters (has_written_append _ _ _ _ _ _ begins (c.write_base32.ensures begins.plain ok))
