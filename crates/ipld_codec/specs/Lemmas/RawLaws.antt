-- This file proves the laws of the codec of plain bytes.
use Rattle.std.specs.Prelude.{Some, []}
use Rattle.std.proofs.Common.{sym, ap, ◌∙◌}
use Rattle.std.proofs.lemmas.Option.{same_Some, none-some}
use Rattle.ipld_tree.specs.Tree.{null, boolean, integer, text, bytes, list, entries, link}
use Rattle.ipld_tree.specs.LinkTimes.{times}
use Rattle.ipld_tree.specs.TreeOf.{tree_of}
use Rattle.ipld_tree.specs.Walk.{links_of}
use Rattle.ipld_codec.specs.CodecLaws.{EncodedOnce, DecodesEncoded, WritesEncoded}
use Rattle.ipld_codec.specs.RawCodec.{EncodesRaw, raw_decoded, raw_found, raw_written}
use Rattle.ipld_codec.specs.TreeCodec.{SameTrees, LinksWhereDecoded, LinksOfTree}

pub raw_encoded_once : EncodedOnce EncodesRaw
raw_encoded_once v w block p q = p ∙ sym q

pub raw_decodes_encoded : DecodesEncoded EncodesRaw raw_decoded
raw_decodes_encoded v block = (λ e. sym (same_Some _ _ e), λ s. ap Some (sym s))

pub raw_writes_encoded : WritesEncoded EncodesRaw raw_written
raw_writes_encoded null block e = absurd (none-some block e)
raw_writes_encoded (boolean b) block e = absurd (none-some block e)
raw_writes_encoded (integer n) block e = absurd (none-some block e)
raw_writes_encoded (text s) block e = absurd (none-some block e)
raw_writes_encoded (bytes b) block e = ap bytes (same_Some b block e)
raw_writes_encoded (list ts) block e = absurd (none-some block e)
raw_writes_encoded (entries ms) block e = absurd (none-some block e)
raw_writes_encoded (link l) block e = absurd (none-some block e)

pub raw_same_trees : SameTrees tree_of
raw_same_trees v w = (λ e. e, λ e. e)

pub raw_links_where_decoded : LinksWhereDecoded raw_decoded raw_found
raw_links_where_decoded block = (λ e. absurd (none-some (bytes block) (sym e)), λ e. absurd (none-some [] (sym e)))

-- the law on the links of trees, because plain bytes have no links
pub raw_links_of_tree : LinksOfTree tree_of raw_decoded raw_found
raw_links_of_tree v block links decoded found cid =
    ap (times cid) (sym (same_Some [] links found)) ∙ ap (λ t. times cid (links_of t)) (same_Some (bytes block) (tree_of v) decoded)
