-- The error of bytes that do not encode a tree.
--
-- It is the first error that a reader from the left meets. The head of an item comes before its
-- content, and content is read from left to right. In a pair of a map the key comes first, then the
-- error that the map already has this key, and then the value. Bytes after the item come last.
use Rattle.std.specs.Prelude.{ℕ, List, Option}
use Rattle.dag_cbor_format.specs.declared.error.CborError.{CborError}
use Rattle.dag_cbor_format.specs.Reading.{of_block}

-- the first error, or nothing if the bytes encode a tree
unfoldable pub first_error : List ℕ → Option CborError
first_error block = (of_block block).error
