-- The laws of DAG-CBOR as a codec.
use Rattle.ipld_tree.specs.TreeOf.{tree_of}
use Rattle.ipld_codec.specs.CodecLaws.{EncodedOnce, DecodesEncoded, WritesEncoded}
use Rattle.ipld_codec.specs.TreeCodec.{SameTrees, LinksWhereDecoded, LinksOfTree}
use Rattle.dag_cbor_format.specs.Encoding.{EncodesTree}
use Rattle.dag_cbor_format.specs.Block.{tree_of_block}
use Rattle.dag_cbor_format.specs.Canonical.{canonical}
use Rattle.dag_cbor_format.specs.Found.{links_found}
use Rattle.dag_cbor_format.proofs.CidLaws.{cid_laws}
use Rattle.dag_cbor_format.proofs.TreeOfBlock.{encoded_once, decodes_encoded}
use Rattle.dag_cbor_format.proofs.FoundLinks.{found_where, found_in_tree}
use Rattle.dag_cbor_format.proofs.CanonicalEncoding.{writes_encoded}

pub block_encoded_once : EncodedOnce EncodesTree
block_encoded_once = encoded_once cid_laws

pub block_decodes_encoded : DecodesEncoded EncodesTree tree_of_block
block_decodes_encoded = decodes_encoded cid_laws

pub block_writes_encoded : WritesEncoded EncodesTree canonical
block_writes_encoded = writes_encoded cid_laws

pub block_same_trees : SameTrees tree_of
block_same_trees v w = (λ e. e, λ e. e)

pub block_links_where_decoded : LinksWhereDecoded tree_of_block links_found
block_links_where_decoded = found_where cid_laws

pub block_links_of_tree : LinksOfTree tree_of tree_of_block links_found
block_links_of_tree v = found_in_tree cid_laws (tree_of v)
