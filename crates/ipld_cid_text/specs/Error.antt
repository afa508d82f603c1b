-- The sentences of the errors.
use Rattle.std.specs.Prelude.{ℕ, List, ◌++◌, codes}
use Rattle.std.specs.Fmt.{decimal}
use Rattle.ipld_cid.specs.Error as cid
use Rattle.ipld_cid_text.specs.declared.error.TextError.{TextError}
use Rattle.ipld_cid_text.specs.declared.error.TextError.TheVariants.{UnknownBase, InvalidLength, InvalidLetter, UnusedBits, WrongVersion, Cid}
use Rattle.ipld_cid_text.specs.declared.error.ToStringError.{ToStringError}
use Rattle.ipld_cid_text.specs.declared.error.ToStringError.TheVariants.{InvalidCidV0Base, Memory}

-- The sentence of an error in reading a text.
abbrev pub sentence_of : TextError → List ℕ
sentence_of UnknownBase = codes "the text is empty, or has an unknown multibase prefix"
sentence_of InvalidLength = codes "no CID has a text of this length"
sentence_of (InvalidLetter place) = codes "invalid character at byte " ++ decimal place
sentence_of UnusedBits = codes "the last character has unused bits that are set"
sentence_of WrongVersion = codes "wrong form for its version (Qm.. is version 0, and a multibase text version 1)"
sentence_of (Cid error) = codes "the decoded bytes are invalid: " ++ cid.sentence_of error

-- The sentence of an error in printing a text.
abbrev pub message_of : ToStringError → List ℕ
message_of InvalidCidV0Base = codes "a CID of version 0 has a text only in base58btc"
message_of Memory = codes "out of memory"
