-- The bytes that are written for fields. Each varint is the shortest.
use Rattle.std.specs.Prelude.{ℕ, List, ◌++◌, length}
use Rattle.std.specs.Int.{w32, to_le_bytes}
use Rattle.ipld_cid.specs.Varint.{varint_of}

-- the field of a number, with this key
unfoldable pub number_bytes : (key n : ℕ) → List ℕ
number_bytes key n = varint_of key ++ varint_of n

-- the key and the length of a content of `len` bytes
unfoldable pub content_head : (key len : ℕ) → List ℕ
content_head key len = varint_of key ++ varint_of len

-- the field of a content, with this key
unfoldable pub content_bytes : (key : ℕ) → List ℕ → List ℕ
content_bytes key content = content_head key (length content) ++ content

-- the field of a number below 2^32 in four bytes, the low one first, with this key
unfoldable pub fixed32_bytes : (key n : ℕ) → List ℕ
fixed32_bytes key n = varint_of key ++ to_le_bytes w32 n
