-- The output of the program for an input, and the status of the run.
use Rattle.std.specs.Prelude.{◌≡◌, ◌⊎◌, ◌+◌, ℕ, List, [], ◌∷◌, ◌++◌, length, map, codes, Option, Result, Ok, Err}
use Rattle.std.specs.List.{flat_map}
use Rattle.std.specs.Io.KnownBytes.{Appends}
use Rattle.ipld_cid.specs.Cid.{Link}
use Rattle.ipld_cid.specs.Text.{text_of}
use Rattle.ipld_tokens.specs.Token.{TokenModel}
use Rattle.ipld_links_run.specs.declared.status.Status.{Status}
use Rattle.ipld_links_run.specs.declared.status.Status.TheVariants.{NotUnderstood}
use Rattle.ipld_links_run.specs.ByteLines.{LineReading, links, rejected, not_understood, readings, cid_reading, block_reading}
use Rattle.ipld_links_run.specs.Outcome.{Outcome, LinksOutcome, ReferencesOutcome}
use Rattle.ipld_links_run.specs.TokenLines.{tokens_in}
use Rattle.ipld_links_run.specs.Verdict.{Verdict, done, refused, bad_line, last_line, status_of}

-- the bytes of lines, with a line feed at the end of every line
abbrev pub written : List (List ℕ) → List ℕ
written lines = flat_map (λ line. line ++ 10 ∷ []) lines

-- True if the output is the texts of these links and the last line of the verdict, and the status
-- is that of the verdict.
abbrev pub WritesLinks : List Link → Verdict → Status → List ℕ → Type 0
WritesLinks found verdict status output = (output ≡ written (map text_of found ++ last_line verdict ∷ [])) × (status ≡ status_of verdict)

-- ---- lines of bytes

-- the links of several lines
abbrev pub all_links : List (List Link) → List Link
all_links lines = flat_map (λ found. found) lines

-- True if a run ends with this verdict after lines with these links. The first of the other lines
-- decides it, and is rejected or not understood. Without another line, the verdict is the number of
-- links.
abbrev pub EndsWith : List (List Link) → List LineReading → Verdict → Type 0
EndsWith before [] verdict = verdict ≡ done (length (all_links before))
EndsWith before (links found ∷ rest) verdict = ⊥
EndsWith before (rejected name ∷ rest) verdict = verdict ≡ refused name
EndsWith before (not_understood ∷ rest) verdict = verdict ≡ bad_line (length before + 1)

-- True if the output is the texts of the links of the lines before the first that is rejected or
-- not understood, and then the verdict on that line. Without such a line, the number of texts
-- follows.
pub record LinesOutput (reading : List ℕ → LineReading) (input : List ℕ) (status : Status) (output : List ℕ) : Type 0 where
  pub before : List (List Link)
  pub rest : List LineReading
  pub verdict : Verdict
  pub are_lines : readings reading input ≡ map links before ++ rest
  pub ends : EndsWith before rest verdict
  pub writes : WritesLinks (all_links before) verdict status output

-- True if this is the output of a run with the word `cid`, which reads every line as the bytes of a
-- CID. The output is the texts of the CIDs before the first line that is not one, each on a line.
-- Then the verdict on that line follows (`refused NAME`, `bad line K`), or otherwise `ok N`.
abbrev pub CidOutput : List ℕ → Status → List ℕ → Type 0
CidOutput = LinesOutput cid_reading

-- True if this is the output of a run with the word `cbor`, which reads every line as a block of
-- DAG-CBOR. The output is the texts of the links of the blocks before the first line that is not
-- one, each on a line. Then the verdict on that line follows (`refused NAME`, for the first error
-- of its bytes; `bad line K`), or otherwise `ok N` with the number N of texts.
abbrev pub CborOutput : List ℕ → Status → List ℕ → Type 0
CborOutput = LinesOutput block_reading

-- ---- lines of tokens

-- True if the output is the texts of the links of the outcome and their number, or the name of the
-- error.
abbrev pub WritesOutcome : Outcome → Status → List ℕ → Type 0
WritesOutcome (Ok found) = WritesLinks found (done (length found))
WritesOutcome (Err name) = WritesLinks [] (refused name)

-- True if the output is that of the tokens of all lines, or reports the first line that means no
-- token.
abbrev pub WritesTokens : (List TokenModel → Outcome → Type 0) → Result (List TokenModel) ℕ → Status → List ℕ → Type 0
WritesTokens IsOutcome (Ok tokens) status output = (outcome : Outcome) × IsOutcome tokens outcome × WritesOutcome outcome status output
WritesTokens IsOutcome (Err number) status output = WritesLinks [] (bad_line number) status output

-- True if this is the output of `links`: the links of the item that comes first, or the error.
abbrev pub LinksOutput : List ℕ → Status → List ℕ → Type 0
LinksOutput input = WritesTokens LinksOutcome (tokens_in input)

-- True if this is the output of `refs`: the links of the tree that comes first, or the error.
abbrev pub ReferencesOutput : List ℕ → Status → List ℕ → Type 0
ReferencesOutput input = WritesTokens ReferencesOutcome (tokens_in input)

-- ---- words

-- True if this is the output of a run with any other word: the usage line.
pub record UsageOutput (status : Status) (output : List ℕ) : Type 0 where
  pub output_is : output ≡ written (codes "usage: ipld_links [cid|links|refs|cbor]" ∷ [])
  pub status_is : status ≡ NotUnderstood

-- True if the word is one of the program's.
abbrev pub IsWord : List ℕ → Type 0
IsWord word = (word ≡ codes "cid") ⊎ ((word ≡ codes "links") ⊎ ((word ≡ codes "refs") ⊎ (word ≡ codes "cbor")))

-- True if a run with `word` writes this output for the input, and ends with this status.
pub record Output (word input : List ℕ) (status : Status) (output : List ℕ) : Type 0 where
  pub cid : word ≡ codes "cid" → CidOutput input status output
  pub links : word ≡ codes "links" → LinksOutput input status output
  pub refs : word ≡ codes "refs" → ReferencesOutput input status output
  pub cbor : word ≡ codes "cbor" → CborOutput input status output
  pub unknown : (IsWord word → ⊥) → UsageOutput status output

-- True if the bytes that were written are an output, as far as they are known.
abbrev pub Writes : Option (List ℕ) → Option (List ℕ) → (List ℕ → Type 0) → Type 0
Writes old new IsOutput = (output : List ℕ) × IsOutput output × Appends old new output
