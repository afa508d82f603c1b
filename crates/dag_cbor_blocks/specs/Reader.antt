-- The frames that are open in a running reader, and the steps of the reader.
use Rattle.std.specs.Prelude.{◌≡◌, ◌⊎◌, List, ◌∷◌, Option, Some, None, Result, Ok, Err}
use Rattle.ipld_tokens.specs.Token.{erase}
use Rattle.ipld_tokens.specs.declared.token.Token.{Token}
use Rattle.dag_cbor_format.specs.declared.error.CborError.{CborError}
use Rattle.dag_cbor_format.specs.declared.error.CborError.TheVariants.{Memory}
use Rattle.dag_cbor_format.specs.Reading.{Frame, one, mark, Out, ended, rejected, yields, step}
use Rattle.dag_cbor_blocks.specs.Position as position
use Rattle.dag_cbor_blocks.specs.declared.reader.TokenStage.{TokenStage}
use Rattle.dag_cbor_blocks.specs.declared.reader.TokenStage.TheVariants.{Item, LinkBytes, Inside}
use Rattle.dag_cbor_blocks.specs.declared.reader.Reader.{Reader}

abbrev pub in_stage : TokenStage → List Frame → List Frame
in_stage Item fs = one ∷ fs
in_stage LinkBytes fs = mark ∷ fs
in_stage Inside fs = fs

abbrev pub frames_of : Reader → List Frame
frames_of reader = in_stage reader.stage (position.frames_of reader.position)

-- the machine's next step from the state of a reader
abbrev pub next_of : Reader → Out
next_of reader = step (frames_of reader) reader.position.rest.now

-- True if a token that the machine yields is returned, or the end is reached. On an error the
-- machine rejects with it, or an allocation failed and the next step stays the same.
abbrev pub StepsTo : Out → Reader → Result (Option Token) CborError → Type 0
StepsTo o after (Ok (Some t)) = (fs : List Frame) × (o ≡ yields (erase t) fs after.position.rest.now) × (step fs after.position.rest.now ≡ next_of after)
StepsTo o after (Ok None) = (o ≡ ended) × (o ≡ next_of after)
StepsTo o after (Err e) = ((e ≡ Memory) × (o ≡ next_of after)) ⊎ (o ≡ rejected e)

abbrev pub Steps : Reader → Reader → Result (Option Token) CborError → Type 0
Steps before after result = StepsTo (next_of before) after result
