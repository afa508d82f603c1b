-- This file defines the names and the sentences of the errors of token readers.
use Rattle.std.specs.Prelude.{ℕ, List, ◌++◌, codes}
use Rattle.ipld_cid.specs.Error as cid
use Rattle.ipld_tokens.specs.declared.error.TokenError.{TokenError}
use Rattle.ipld_tokens.specs.declared.error.TokenError.TheVariants.{Memory, Source, Token, Cid, End, DuplicateKey}
use Rattle.ipld_tokens.specs.declared.error.ReadError.{ReadError}
use Rattle.ipld_tokens.specs.declared.error.ReadError.TheVariants as limited

-- the name of an error
abbrev pub name_of : {F : Type 0} → TokenError F → List ℕ
name_of Memory = codes "Memory"
name_of (Source fault) = codes "Source"
name_of Token = codes "Token"
name_of (Cid error) = codes "Cid"
name_of End = codes "End"
name_of DuplicateKey = codes "DuplicateKey"

-- the name of an error of a reader with limits
abbrev pub limit_name_of : {F : Type 0} → ReadError F → List ℕ
limit_name_of limited.TooDeep = codes "TooDeep"
limit_name_of limited.TooMany = codes "TooMany"
limit_name_of (limited.Token error) = name_of error

-- the sentence that describes an error
abbrev pub sentence_of : {F : Type 0} → TokenError F → List ℕ
sentence_of Memory = codes "out of memory"
sentence_of (Source fault) = codes "the source of tokens failed"
sentence_of Token = codes "unexpected token"
sentence_of (Cid error) = codes "invalid link: not a CID: " ++ cid.sentence_of error
sentence_of End = codes "the tokens end before the item does"
sentence_of DuplicateKey = codes "duplicate map key"

-- the sentence that describes an error of a reader with limits
abbrev pub limit_sentence_of : {F : Type 0} → ReadError F → List ℕ
limit_sentence_of limited.TooDeep = codes "lists and maps nest deeper than the limit"
limit_sentence_of limited.TooMany = codes "more values than the limit"
limit_sentence_of (limited.Token error) = sentence_of error
