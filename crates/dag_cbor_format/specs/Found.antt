-- The links of a block (DAG-CBOR specification: tag 42), in the order of its bytes.
use Rattle.std.specs.Prelude.{List, [], ◌∷◌, ℕ, Option, Some, None}
use Rattle.ipld_cid.specs.Cid.{Link}
use Rattle.ipld_tokens.specs.Token.{TokenModel, bytes, link}
use Rattle.ipld_tokens.specs.LinkBytes.{read_link}
use Rattle.dag_cbor_format.specs.Reading.{Ran, unless_error, of_block}

abbrev pub link_before : Option Link → List Link → List Link
link_before None ls = ls
link_before (Some cid) ls = cid ∷ ls

-- the CID that the bytes after a link mark encode, if they do
abbrev pub marked_link : List TokenModel → Option Link
marked_link (bytes b ∷ ts) = read_link 64 b
marked_link _ = None

-- the links among tokens
abbrev pub links_among : List TokenModel → List Link
links_among [] = []
links_among (link ∷ ts) = link_before (marked_link ts) (links_among ts)
links_among (t ∷ ts) = links_among ts

abbrev pub links_of_run : Ran → Option (List Link)
links_of_run ran = unless_error ran.error (Some (links_among ran.tokens))

-- The links of a block without floats, in the order of the bytes, or nothing if the bytes have an
-- error.
unfoldable pub links_found : List ℕ → Option (List Link)
links_found block = links_of_run (of_block block)
