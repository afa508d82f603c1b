-- A source of the tokens of a block.
use Rattle.std.specs.Prelude.{ℕ, Bool, List, Option, Result, is_some}
use Rattle.ipld_tokens.specs.Token.{TokenModel}
use Rattle.ipld_tokens.specs.declared.token.Token.{Token}
use Rattle.dag_cbor_format.specs.declared.error.CborError.{CborError}
use Rattle.dag_cbor_format.specs.Reading.{Out}
use Rattle.dag_cbor_blocks.specs.declared.tokens.CborTokens.{CborTokens}
use Rattle.dag_cbor_blocks.specs.Reader.{next_of, Steps}
use Rattle.dag_cbor_blocks.specs.Tokens.{ran_of}

-- the tokens that the source has not yielded yet
abbrev pub tokens_left : CborTokens → List TokenModel
tokens_left source = (ran_of source.error source.reader).tokens

-- whether a call has failed
abbrev pub has_stopped : CborTokens → Bool
has_stopped source = is_some source.error

-- the bytes of the block
abbrev pub block_of : CborTokens → List ℕ
block_of source = source.block.now

-- The number of bytes of the block that no hint counts on. Each hint subtracts itself.
abbrev pub uncounted_of : CborTokens → ℕ
uncounted_of source = source.reader.position.uncounted

-- the next step of the machine that reads the block
abbrev pub step_ahead : CborTokens → Out
step_ahead source = next_of source.reader

-- True if the result is that of the machine's step, or a failed allocation.
abbrev pub TakesStep : CborTokens → CborTokens → Result (Option Token) CborError → Type 0
TakesStep before after result = Steps before.reader after.reader result
