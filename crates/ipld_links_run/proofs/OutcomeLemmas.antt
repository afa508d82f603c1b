-- What extracting links returns is the outcome of `links`.
use Rattle.std.proofs.Common.{◌≡◌, ℕ, List, [], ◌∷◌, ◌++◌, length, codes, Some, Result, Ok, Err, IfOk, refl, sym, ap, subst, ◌∙◌, arith}
use Rattle.std.proofs.lemmas.List.{append_cancel_right, append_assoc, length-append}
use Rattle.std.proofs.lemmas.Option.{same_Some, none-some}
use Rattle.ipld_cid.specs.declared.error.CidError.{CidError}
use Rattle.ipld_cid.specs.Cid.{Link}
use Rattle.ipld_tokens.specs.Token as tok
use Rattle.ipld_tokens.specs.Token.{TokenModel}
use Rattle.ipld_tokens.specs.Item.{Item, tokens_of, links_in}
use Rattle.ipld_tokens.specs.Fronts.{IsOpen}
use Rattle.ipld_tokens.specs.ExtractContract.{IsRejected, IsLinkBytes, RejectsToken, RejectsCid, links_at}
use Rattle.ipld_tokens.specs.Outcome.{IfToken, IfCid, IfEnd, IfDuplicateKey, FindsUnless, RejectsUnless, EndsUnless}
use Rattle.ipld_tokens.specs.declared.error.TokenError.{TokenError}
use Rattle.ipld_tokens.specs.declared.error.TokenError.TheVariants as error
use Rattle.ipld_tokens.specs.declared.extract_links.ExtractLinks.{ExtractLinks}
use Rattle.ipld_links_run.specs.Outcome.{ItemCase, item, token, cid, end, outcome_in, LinksOutcome}
use Rattle.ipld_links_run.specs.Said.{error_name}

-- ---- lists that are cut at one token

same_seam : (xs ys : List TokenModel) (a b : TokenModel) → xs ++ a ∷ [] ≡ ys ++ b ∷ [] → (xs ≡ ys) × (a ≡ b)
same_seam [] [] a b h = (refl, cc)
same_seam [] (y ∷ ys) a b h = absurd (omega (arith, ap length h, length-append ys (b ∷ [])))
same_seam (x ∷ xs) [] a b h = absurd (omega (arith, ap length h, length-append xs (a ∷ [])))
same_seam (x ∷ xs) (y ∷ ys) a b h =
    let rest : xs ++ a ∷ [] ≡ ys ++ b ∷ [] = cc in
    let same = same_seam xs ys a b rest in
    let first : x ≡ y = cc in
    (rw (first, same.0) refl, same.1)

same_cut : (tokens front front' rest : List TokenModel) (t t' : TokenModel) → tokens ≡ front ++ t ∷ rest → tokens ≡ front' ++ t' ∷ rest → (front ≡ front') × (t ≡ t')
same_cut tokens front front' rest t t' is is' =
    same_seam front front' t t'
    (append_cancel_right _ _ rest (append_assoc front (t ∷ []) rest ∙ sym is ∙ is' ∙ sym (append_assoc front' (t' ∷ []) rest)))

-- ---- the outcomes

abbrev NoItem : List TokenModel → Type 0
NoItem tokens = (i : Item 64) (rest : List TokenModel) → tokens ≡ tokens_of i ++ rest → ⊥

abbrev NotOpen : List TokenModel → Type 0
NotOpen tokens = IsOpen 64 tokens → ⊥

item_first : (tokens after : List TokenModel) (found : List Link) → (i : Item 64) × (tokens ≡ tokens_of i ++ after) × (found ≡ links_in i)
    → ((i : Item 64) (rest : List TokenModel) → tokens ≡ tokens_of i ++ rest → (found ≡ links_in i) × (after ≡ rest))
    → ((front rest : List TokenModel) (t : TokenModel) → tokens ≡ front ++ t ∷ rest → IsRejected 64 front t → ⊥)
    → NotOpen tokens → LinksOutcome tokens (Ok found)
item_first tokens after found first only never closed = record { case = item first.0 after first.1; exact = each }
  where
    each : (c : ItemCase tokens) → Ok found ≡ outcome_in c
    each (item i rest is) = ap Ok (only i rest is).0
    each (token front rest t is fails other) = absurd (never front rest t is fails)
    each (cid front rest t is fails bytes) = absurd (never front rest t is fails)
    each (end begins) = absurd (closed begins)

token_rejected : (tokens after : List TokenModel) → RejectsToken 64 tokens after → NoItem tokens
    → ((front rest : List TokenModel) (t : TokenModel) → tokens ≡ front ++ t ∷ rest → IsRejected 64 front t → after ≡ rest)
    → NotOpen tokens → LinksOutcome tokens (Err (codes "Token"))
token_rejected tokens after (front', t', is', fails', other') none left closed =
    record { case = token front' after t' is' fails' other'; exact = each }
  where
    each : (c : ItemCase tokens) → Err (codes "Token") ≡ outcome_in c
    each (item i rest is) = absurd (none i rest is)
    each (token front rest t is fails other) = refl
    each (cid front rest t is fails bytes) =
        let same = same_cut tokens front front' after t t' (is ∙ ap (λ r. front ++ t ∷ r) (sym (left front rest t is fails))) is' in
        absurd (other' (subst (IsLinkBytes front') same.1 (subst (λ f. IsLinkBytes f t) same.0 bytes)))
    each (end begins) = absurd (closed begins)

cid_rejected : (tokens after : List TokenModel) (cid_error : CidError) → RejectsCid 64 cid_error tokens after → NoItem tokens
    → ((front rest : List TokenModel) (t : TokenModel) → tokens ≡ front ++ t ∷ rest → IsRejected 64 front t → after ≡ rest)
    → NotOpen tokens → LinksOutcome tokens (Err (codes "Cid"))
cid_rejected tokens after cid_error (fore, b, is', fails', why) none left closed =
    record { case = cid (fore ++ tok.link ∷ []) after (tok.bytes b) is' fails' bytes'; exact = each }
  where
    bytes' : IsLinkBytes (fore ++ tok.link ∷ []) (tok.bytes b)
    bytes' = (fore, b, refl, refl)

    each : (c : ItemCase tokens) → Err (codes "Cid") ≡ outcome_in c
    each (item i rest is) = absurd (none i rest is)
    each (token front rest t is fails other) =
        let same = same_cut tokens front (fore ++ tok.link ∷ []) after t (tok.bytes b) (is ∙ ap (λ r. front ++ t ∷ r) (sym (left front rest t is fails))) is' in
        absurd (other (fore, b, same.0, same.1))
    each (cid front rest t is fails bytes) = refl
    each (end begins) = absurd (closed begins)

end_rejected : (tokens : List TokenModel) → IsOpen 64 tokens → NoItem tokens
    → ((front rest : List TokenModel) (t : TokenModel) → tokens ≡ front ++ t ∷ rest → IsRejected 64 front t → ⊥)
    → LinksOutcome tokens (Err (codes "End"))
end_rejected tokens opened none never = record { case = end opened; exact = each }
  where
    each : (c : ItemCase tokens) → Err (codes "End") ≡ outcome_in c
    each (item i rest is) = absurd (none i rest is)
    each (token front rest t is fails other) = absurd (never front rest t is fails)
    each (cid front rest t is fails bytes) = absurd (never front rest t is fails)
    each (end begins) = refl

-- ---- the same, of a result

abbrev failing : {F : Type 0} → TokenError F → Result (ExtractLinks 64) (TokenError F)
failing e = Err e

abbrev Only : {F : Type 0} → List TokenModel → List TokenModel → Result (ExtractLinks 64) (TokenError F) → Type 0
Only tokens after r =
    (i : Item 64) (rest : List TokenModel) → tokens ≡ tokens_of i ++ rest → FindsUnless r (λ x. (links_at x ≡ links_in i) × (after ≡ rest))

abbrev Left : {F : Type 0} → List TokenModel → List TokenModel → Result (ExtractLinks 64) (TokenError F) → Type 0
Left tokens after r =
    (front rest : List TokenModel) (t : TokenModel) → tokens ≡ front ++ t ∷ rest → IsRejected 64 front t → RejectsUnless r (after ≡ rest)

abbrev Opened : {F : Type 0} → List TokenModel → Result (ExtractLinks 64) (TokenError F) → Type 0
Opened tokens r = IsOpen 64 tokens → EndsUnless r

pub found_outcome : {F : Type 0} (tokens after all : List TokenModel) (r : Result (ExtractLinks 64) (TokenError F)) (x : ExtractLinks 64) (found : List Link)
    → tokens ≡ all → found ≡ links_at x → r ≡ Ok x
    → IfOk r (λ x. (i : Item 64) × (tokens ≡ tokens_of i ++ after) × (links_at x ≡ links_in i))
    → Only tokens after r → Left tokens after r → Opened tokens r → LinksOutcome all (Ok found)
found_outcome {F} tokens after all r x found same same_links is first only left opened =
    subst (λ ts. LinksOutcome ts (Ok found)) same
    (subst (λ l. LinksOutcome tokens (Ok l)) (sym same_links)
    (subst (λ (r : Result (ExtractLinks 64) (TokenError F)). IfOk r (λ x. (i : Item 64) × (tokens ≡ tokens_of i ++ after) × (links_at x ≡ links_in i))
    → Only tokens after r → Left tokens after r → Opened tokens r → LinksOutcome tokens (Ok (links_at x))) (sym is)
    (item_first tokens after (links_at x)) first only left opened))

-- an error of the tokens, by its name
rejected : {F : Type 0} (tokens after : List TokenModel) (e : TokenError F) (name : List ℕ) → error_name e ≡ Some name
    → IfToken (failing e) (RejectsToken 64 tokens after) → IfCid (failing e) (λ cid_error. RejectsCid 64 cid_error tokens after)
    → IfEnd (failing e) (IsOpen 64 tokens × (after ≡ [])) → IfDuplicateKey (failing e) ⊥
    → Only tokens after (failing e) → Left tokens after (failing e) → Opened tokens (failing e) → LinksOutcome tokens (Err name)
rejected tokens after error.Token name is at_token at_cid at_end again only left opened =
    subst (λ n. LinksOutcome tokens (Err n)) (same_Some _ _ is) (token_rejected tokens after at_token only left opened)
rejected tokens after (error.Cid cid_error) name is at_token at_cid at_end again only left opened =
    subst (λ n. LinksOutcome tokens (Err n)) (same_Some _ _ is) (cid_rejected tokens after cid_error at_cid only left opened)
rejected tokens after error.End name is at_token at_cid at_end again only left opened =
    subst (λ n. LinksOutcome tokens (Err n)) (same_Some _ _ is) (end_rejected tokens at_end.0 only left)
rejected tokens after error.DuplicateKey name is at_token at_cid at_end again only left opened = absurd again
rejected tokens after error.Memory name is at_token at_cid at_end again only left opened = absurd (none-some _ is)
rejected tokens after (error.Source fault) name is at_token at_cid at_end again only left opened = absurd (none-some _ is)

pub error_outcome : {F : Type 0} (tokens after all : List TokenModel) (r : Result (ExtractLinks 64) (TokenError F)) (e : TokenError F) (name : List ℕ)
    → tokens ≡ all → r ≡ Err e → error_name e ≡ Some name
    → IfToken r (RejectsToken 64 tokens after) → IfCid r (λ cid_error. RejectsCid 64 cid_error tokens after)
    → IfEnd r (IsOpen 64 tokens × (after ≡ [])) → IfDuplicateKey r ⊥
    → Only tokens after r → Left tokens after r → Opened tokens r → LinksOutcome all (Err name)
error_outcome {F} tokens after all r e name same fails is at_token at_cid at_end again only left opened =
    subst (λ ts. LinksOutcome ts (Err name)) same
    (subst (λ (r : Result (ExtractLinks 64) (TokenError F)). IfToken r (RejectsToken 64 tokens after) → IfCid r (λ cid_error. RejectsCid 64 cid_error tokens after)
    → IfEnd r (IsOpen 64 tokens × (after ≡ [])) → IfDuplicateKey r ⊥
    → Only tokens after r → Left tokens after r → Opened tokens r → LinksOutcome tokens (Err name)) (sym fails)
    (rejected tokens after e name is) at_token at_cid at_end again only left opened)
