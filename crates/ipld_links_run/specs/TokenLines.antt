-- The tokens of an input, one a line.
use Rattle.std.specs.Prelude.{ℕ, ◌+◌, List, [], ◌∷◌, Option, Some, None, Result, Ok, Err}
use Rattle.ipld_tokens.specs.Token.{TokenModel}
use Rattle.ipld_links_run.specs.Lines.{lines_of}
use Rattle.ipld_links_run.specs.TokenLine.{token_of_line}

-- the token of line `k` before the tokens of the lines after it, or the number of the first line
-- without a token
abbrev pub and_tokens : ℕ → Option TokenModel → Result (List TokenModel) ℕ → Result (List TokenModel) ℕ
and_tokens k None rest = Err k
and_tokens k (Some t) (Ok ts) = Ok (t ∷ ts)
and_tokens k (Some t) (Err bad) = Err bad

-- the tokens that the lines mean, or the number of the first line that means no token, if the first
-- line has the number `k`
unfoldable pub tokens_of_lines : ℕ → List (List ℕ) → Result (List TokenModel) ℕ
tokens_of_lines k [] = Ok []
tokens_of_lines k (line ∷ rest) = and_tokens k (token_of_line line) (tokens_of_lines (k + 1) rest)

-- The tokens of all lines, or the number of the first line that means no token, counted from 1.
abbrev pub tokens_in : List ℕ → Result (List TokenModel) ℕ
tokens_in input = tokens_of_lines 1 (lines_of input)
