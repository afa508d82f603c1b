-- The model of a token that owns its strings and bytes.
use Rattle.std.specs.Prelude.{string_bytes}
use Rattle.ipld_tokens.specs.Token.{TokenModel, atom}
use Rattle.ipld_tokens.specs.Token as tok
use Rattle.ipld_links_run.specs.declared.owned_token.OwnedToken.{OwnedToken}
use Rattle.ipld_links_run.specs.declared.owned_token.OwnedToken.TheVariants as owned

abbrev pub token_of : OwnedToken → TokenModel
token_of owned.None = atom tok.none
token_of owned.Unit = atom tok.unit
token_of owned.UnitStruct = atom tok.unit_struct
token_of (owned.Bool b) = atom (tok.boolean b)
token_of (owned.Int n) = atom (tok.integer n)
token_of (owned.U128 n) = atom (tok.unsigned n)
token_of (owned.Char c) = atom (tok.character c)
token_of (owned.Str s) = atom (tok.text (string_bytes s))
token_of (owned.Bytes b) = tok.bytes b.items
token_of (owned.UnitVariant s) = atom (tok.unit_variant (string_bytes s))
token_of owned.Some = tok.some
token_of (owned.Variant s) = tok.variant (string_bytes s)
token_of owned.Link = tok.link
token_of (owned.Seq hint) = tok.seq
token_of owned.SeqEnd = tok.seq_end
token_of (owned.Map hint) = tok.map
token_of owned.MapEnd = tok.map_end
