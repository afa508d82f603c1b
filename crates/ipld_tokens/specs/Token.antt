-- This file defines the content of tokens, which are of the kinds of serde's data model. The
-- content excludes length hints and the ownership of bytes.
use Rattle.std.specs.Prelude.{ℕ, ℤ, Bool, List}
use Rattle.ipld_tokens.specs.declared.token.TokenBytes.{TokenBytes}
use Rattle.ipld_tokens.specs.declared.token.TokenBytes.TheVariants.{Lent, Owned}
use Rattle.ipld_tokens.specs.declared.token.Token.{Token}
use Rattle.ipld_tokens.specs.declared.token.Token.TheVariants as token

-- a scalar other than bytes
pub data Atom : Type 0 where
  none : Atom
  unit : Atom
  unit_struct : Atom
  boolean : Bool → Atom
  integer : ℤ → Atom
  unsigned : ℕ → Atom
  character : ℕ → Atom
  text : List ℕ → Atom
  unit_variant : List ℕ → Atom

-- the model of a token: its content, without its length hint and the ownership of its bytes
pub data TokenModel : Type 0 where
  atom : Atom → TokenModel
  bytes : List ℕ → TokenModel
  some : TokenModel
  variant : List ℕ → TokenModel
  link : TokenModel
  seq : TokenModel
  seq_end : TokenModel
  map : TokenModel
  map_end : TokenModel

-- the bytes that a token borrows or owns
abbrev pub bytes_in : TokenBytes → List ℕ
bytes_in (Lent b) = b.now
bytes_in (Owned b) = b.items

-- the model of a token, without its length hint and the ownership of its bytes
abbrev pub erase : Token → TokenModel
erase token.None = atom none
erase token.Unit = atom unit
erase token.UnitStruct = atom unit_struct
erase (token.Bool b) = atom (boolean b)
erase (token.Int n) = atom (integer n)
erase (token.U128 n) = atom (unsigned n)
erase (token.Char c) = atom (character c)
erase (token.Str s) = atom (text s.now)
erase (token.Bytes b) = bytes (bytes_in b)
erase (token.UnitVariant s) = atom (unit_variant s.now)
erase token.Some = some
erase (token.Variant s) = variant s.now
erase token.Link = link
erase (token.Seq hint) = seq
erase token.SeqEnd = seq_end
erase (token.Map hint) = map
erase token.MapEnd = map_end
