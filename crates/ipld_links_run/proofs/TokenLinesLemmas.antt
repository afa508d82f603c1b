-- The tokens of the lines so far, and those of the lines to come.
use Rattle.std.proofs.Common.{◌≡◌, ℕ, ◌+◌, List, [], ◌∷◌, ◌++◌, Bool, true, false, Option, None, Some, Result, Ok, Err, IfSome, map, refl, sym, ap, subst, ◌∙◌, append_assoc, append-nil}
use Rattle.ipld_tokens.specs.Token.{TokenModel}
use Rattle.std.proofs.lemmas.List.{map-append}
use Rattle.ipld_links_run.specs.declared.owned_token.OwnedToken.{OwnedToken}
use Rattle.ipld_links_run.specs.declared.token_line.ParseError.{ParseError}
use Rattle.ipld_links_run.specs.declared.token_line.ParseError.TheVariants.{NotUnderstood}
use Rattle.ipld_links_run.specs.OwnedToken.{token_of}
use Rattle.ipld_links_run.specs.Said.{Parses}
use Rattle.ipld_links_run.specs.Lines.{lines_of, TakesLine}
use Rattle.ipld_links_run.specs.TokenLine.{token_of_line}
use Rattle.ipld_links_run.specs.TokenLines.{and_tokens, tokens_of_lines, tokens_in}

abbrev pub after_tokens : List TokenModel → Result (List TokenModel) ℕ → Result (List TokenModel) ℕ
after_tokens ts (Ok us) = Ok (ts ++ us)
after_tokens ts (Err k) = Err k

-- so many tokens were read, and the next line has the number k
pub record Continues (input : List ℕ) (left : Option (List ℕ)) (ts : List TokenModel) (k : ℕ) : Type 0 where
  pub rest : List ℕ
  pub left_is : left ≡ Some rest
  pub so_far : tokens_in input ≡ after_tokens ts (tokens_of_lines k (lines_of rest))

abbrev pub Progress : Option (List ℕ) → Option (List ℕ) → List TokenModel → ℕ → Type 0
Progress old left ts k = IfSome old (λ input. Continues input left ts k)

same_tokens : (r : Result (List TokenModel) ℕ) → r ≡ after_tokens [] r
same_tokens (Ok us) = refl
same_tokens (Err k) = refl

pub progress_start : (left : Option (List ℕ)) → Progress left left [] 1
progress_start None = tt
progress_start (Some input) = record { rest = input; left_is = refl; so_far = same_tokens (tokens_in input) }

one_more : (ts : List TokenModel) (t : TokenModel) (k : ℕ) (o : Option TokenModel) (r : Result (List TokenModel) ℕ) → o ≡ Some t
    → after_tokens ts (and_tokens k o r) ≡ after_tokens (ts ++ t ∷ []) r
one_more ts t k o (Ok us) is = rw is (ap Ok (sym (append_assoc ts (t ∷ []) us)))
one_more ts t k o (Err bad) is = rw is refl

one_bad : (ts : List TokenModel) (k : ℕ) (o : Option TokenModel) (r : Result (List TokenModel) ℕ) → o ≡ None → after_tokens ts (and_tokens k o r) ≡ Err k
one_bad ts k o r is = rw is refl

first_token : (k : ℕ) (line : List ℕ) (rest lines : List (List ℕ)) → lines ≡ line ∷ rest
    → tokens_of_lines k lines ≡ and_tokens k (token_of_line line) (tokens_of_lines (k + 1) rest)
unfolding tokens_of_lines
first_token k line rest lines is = ap (tokens_of_lines k) is

progress_token : (a b c : Option (List ℕ)) (ts : List TokenModel) (k : ℕ) (found : Bool) (line : List ℕ) (t : TokenModel) → Progress a b ts k
    → IfSome b (λ input. TakesLine input found line c) → found ≡ true → token_of_line line ≡ Some t → Progress a c (ts ++ t ∷ []) (k + 1)
progress_token None b c ts k found line t p taken is says = tt
progress_token (Some input) b c ts k found line t p taken is says =
    let (next, left, lines) = rw is at (rw p.left_is at taken) in
    record {
      rest = next;
      left_is = left;
      so_far = p.so_far ∙ ap (after_tokens ts) (first_token k line _ _ lines) ∙ one_more ts t k (token_of_line line) _ says;
    }

-- the token is added to those that were read
pub progress_pushed : (a b c : Option (List ℕ)) (tokens more : List OwnedToken) (token : OwnedToken) (k : ℕ) (found : Bool) (line : List ℕ)
    → Progress a b (map token_of tokens) k → IfSome b (λ input. TakesLine input found line c) → found ≡ true → token_of_line line ≡ Some (token_of token)
    → more ≡ tokens ++ token ∷ [] → Progress a c (map token_of more) (k + 1)
progress_pushed a b c tokens more token k found line p taken is says grown =
    subst (λ ts. Progress a c ts (k + 1)) (sym (ap (map token_of) grown ∙ map-append token_of tokens (token ∷ [])))
    (progress_token a b c (map token_of tokens) k found line (token_of token) p taken is says)

-- what is not understood means no token
pub means_none : (line : List ℕ) (r : Result OwnedToken ParseError) → r ≡ Err NotUnderstood → Parses token_of (token_of_line line) r → token_of_line line ≡ None
means_none line r is says = subst (Parses token_of (token_of_line line)) is says

pub progress_bad : (a b c : Option (List ℕ)) (ts : List TokenModel) (k : ℕ) (found : Bool) (line : List ℕ) → Progress a b ts k
    → IfSome b (λ input. TakesLine input found line c) → found ≡ true → token_of_line line ≡ None → IfSome a (λ input. tokens_in input ≡ Err k)
progress_bad None b c ts k found line p taken is says = tt
progress_bad (Some input) b c ts k found line p taken is says =
    let (next, left, lines) = rw is at (rw p.left_is at taken) in
    p.so_far ∙ ap (after_tokens ts) (first_token k line _ _ lines) ∙ one_bad ts k (token_of_line line) _ says

pub progress_end : (a b c : Option (List ℕ)) (ts : List TokenModel) (k : ℕ) (found : Bool) (line : List ℕ) → Progress a b ts k
    → IfSome b (λ input. TakesLine input found line c) → found ≡ false → IfSome a (λ input. tokens_in input ≡ Ok ts)
unfolding tokens_of_lines lines_of
progress_end None b c ts k found line p taken is = tt
progress_end (Some input) b c ts k found line p taken is =
    let (none, left) = rw is at (rw p.left_is at taken) in
    p.so_far ∙ ap (λ rest. after_tokens ts (tokens_of_lines k (lines_of rest))) none ∙ ap Ok (append-nil ts)
