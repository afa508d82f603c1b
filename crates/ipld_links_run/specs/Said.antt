-- The models of the results of a run's steps.
use Rattle.std.specs.Prelude.{◌≡◌, ℕ, List, codes, map, Option, Some, None, Result, Ok, Err}
use Rattle.std.specs.declared.alloc.Global.{Global}
use Rattle.std.specs.declared.vec.Vec.{Vec}
use Rattle.ipld_cid.specs.declared.cid.CidGeneric.{CidGeneric}
use Rattle.ipld_cid.specs.Error as cid
use Rattle.ipld_cid.specs.LinkOf.{link_of}
use Rattle.dag_cbor_format.specs.ErrorKinds as cbor
use Rattle.ipld_tokens.specs.Token.{TokenModel}
use Rattle.ipld_tokens.specs.declared.error.TokenError.{TokenError}
use Rattle.ipld_tokens.specs.declared.error.TokenError.TheVariants as error
use Rattle.ipld_links_run.specs.declared.token_line.ParseError.{ParseError}
use Rattle.ipld_links_run.specs.declared.token_line.ParseError.TheVariants.{Memory, NotUnderstood}
use Rattle.ipld_links_run.specs.declared.token_lines.TokenLines.{TokenLines}
use Rattle.ipld_links_run.specs.declared.token_lines.TokenLines.TheVariants.{Tokens, BadLine}
use Rattle.ipld_links_run.specs.declared.byte_lines.Content.{Content}
use Rattle.ipld_links_run.specs.declared.byte_lines.Content.TheVariants as content
use Rattle.ipld_links_run.specs.declared.items.ReadAs.{ReadAs}
use Rattle.ipld_links_run.specs.declared.items.ReadAs.TheVariants as wanted
use Rattle.ipld_links_run.specs.declared.verdict.Rejection.{Rejection}
use Rattle.ipld_links_run.specs.declared.verdict.Rejection.TheVariants.{Token, Cid, End, DuplicateKey, NoCid, NoBlock}
use Rattle.ipld_links_run.specs.declared.verdict.Verdict as code
use Rattle.ipld_links_run.specs.declared.verdict.Verdict.TheVariants as verdict
use Rattle.ipld_links_run.specs.OwnedToken.{token_of}
use Rattle.ipld_links_run.specs.ByteLines.{LineReading, cid_reading, block_reading}
use Rattle.ipld_links_run.specs.Outcome.{Outcome, LinksOutcome, ReferencesOutcome}
use Rattle.ipld_links_run.specs.Verdict.{Verdict, done, refused, bad_line}

-- True if the result is the expected value, or `NotUnderstood` if no value is expected, or if an
-- allocation failed.
abbrev pub Parses : {A B : Type 0} → (A → B) → Option B → Result A ParseError → Type 0
Parses value said (Ok x) = said ≡ Some (value x)
Parses value said (Err Memory) = Unit {0}
Parses value said (Err NotUnderstood) = said ≡ None

abbrev pub tokens_read : TokenLines → Result (List TokenModel) ℕ
tokens_read (Tokens tokens) = Ok (map token_of tokens.items)
tokens_read (BadLine k) = Err k

-- the name of a rejection
abbrev pub name_of : Rejection → List ℕ
name_of Token = codes "Token"
name_of Cid = codes "Cid"
name_of End = codes "End"
name_of DuplicateKey = codes "DuplicateKey"
name_of (NoCid error) = cid.name_of error
name_of (NoBlock error) = cbor.name_of error

abbrev pub verdict_of : code.Verdict → Verdict
verdict_of (verdict.Done texts) = done texts
verdict_of (verdict.Refused rejection) = refused (name_of rejection)
verdict_of (verdict.BadLine number) = bad_line number

abbrev pub outcome_of : Result (Vec (CidGeneric 64) Global) Rejection → Outcome
outcome_of (Ok found) = Ok (map link_of found.items)
outcome_of (Err rejection) = Err (name_of rejection)

-- True if the outcome is that of tokens that are read as an item or as a tree.
abbrev pub OutcomeFor : ReadAs → List TokenModel → Outcome → Type 0
OutcomeFor wanted.Item = LinksOutcome
OutcomeFor wanted.Tree = ReferencesOutcome

-- True if the error is not one of the source.
abbrev pub IsOfTokens : {F : Type 0} → TokenError F → Type 0
IsOfTokens (error.Source fault) = ⊥
IsOfTokens _ = Unit {0}

-- the name of an error of the tokens, or nothing for other errors
abbrev pub error_name : {F : Type 0} → TokenError F → Option (List ℕ)
error_name error.Token = Some (codes "Token")
error_name (error.Cid cid_error) = Some (codes "Cid")
error_name error.End = Some (codes "End")
error_name error.DuplicateKey = Some (codes "DuplicateKey")
error_name error.Memory = None
error_name (error.Source fault) = None

-- the reading of bytes with this content
abbrev pub reading_of : Content → List ℕ → LineReading
reading_of content.Cid = cid_reading
reading_of content.Block = block_reading
