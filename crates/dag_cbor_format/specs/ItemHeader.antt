-- The beginning of an item: a whole scalar, a list or a map with the number of its items or pairs,
-- or the tag of a link.
use Rattle.std.specs.Prelude.{ℕ, pos, negsuc, zero, suc, ◌==◌, nat_lt, if◌then◌else◌, true, false, List, [], ◌∷◌, length, take, drop, Option, Some, None, is_some}
use Rattle.std.specs.Str.{is_utf8}
use Rattle.ipld_tokens.specs.Token.{TokenModel, atom, none, boolean, integer, text}
use Rattle.ipld_tokens.specs.Token as token
use Rattle.ipld_tokens.specs.LinkBytes.{read_link}
use Rattle.dag_cbor_format.specs.declared.major.Major.{Major}
use Rattle.dag_cbor_format.specs.declared.major.Major.TheVariants.{Unsigned, Negative, Bytes, Text, List as Array, Map, Tag, Simple}
use Rattle.dag_cbor_format.specs.HeadReading.{head_at}

pub data Beginning : Type 0 where
  scalar : TokenModel → Beginning
  list : ℕ → Beginning
  map : ℕ → Beginning
  link : Beginning

-- the first `n` bytes and the bytes that follow them, or nothing if there are fewer
unfoldable pub front : ℕ → List ℕ → Option (List ℕ × List ℕ)
front n bytes = if nat_lt (length bytes) n then None else Some (take n bytes, drop n bytes)

-- these bytes and the bytes that follow them, if these are UTF-8
abbrev pub if_text : Option (List ℕ × List ℕ) → Option (List ℕ × List ℕ)
if_text None = None
if_text (Some (s, rest)) = if is_utf8 s then Some (s, rest) else None

abbrev pub bytes_scalar : Option (List ℕ × List ℕ) → Option (Beginning × List ℕ)
bytes_scalar None = None
bytes_scalar (Some (b, rest)) = Some (scalar (token.bytes b), rest)

abbrev pub text_scalar : Option (List ℕ × List ℕ) → Option (Beginning × List ℕ)
text_scalar None = None
text_scalar (Some (s, rest)) = Some (scalar (atom (text s)), rest)

-- the simple value with this number (false, true or null) and the bytes that follow, or nothing
abbrev pub simple_at : ℕ → List ℕ → Option (Beginning × List ℕ)
simple_at n rest =
    if n == 20 then Some (scalar (atom (boolean false)), rest)
    else if n == 21 then Some (scalar (atom (boolean true)), rest)
    else if n == 22 then Some (scalar (atom none), rest)
    else None

-- the beginning of an item after its head, which has this major type and argument
abbrev pub item_header_after : Major → ℕ → List ℕ → Option (Beginning × List ℕ)
item_header_after Unsigned n rest = Some (scalar (atom (integer (pos n))), rest)
item_header_after Negative n rest = Some (scalar (atom (integer (negsuc n))), rest)
item_header_after Bytes n rest = bytes_scalar (front n rest)
item_header_after Text n rest = text_scalar (if_text (front n rest))
item_header_after Array n rest = Some (list n, rest)
item_header_after Map n rest = Some (map n, rest)
item_header_after Tag n rest = if n == 42 then Some (link, rest) else None
item_header_after Simple n rest = simple_at n rest

abbrev pub item_header_of : Option (Major × ℕ × List ℕ) → Option (Beginning × List ℕ)
item_header_of None = None
item_header_of (Some h) = item_header_after h.0 h.1 h.2

-- the beginning of an item and the bytes that follow it
unfoldable pub item_header_at : List ℕ → Option (Beginning × List ℕ)
item_header_at bytes = item_header_of (head_at bytes)

abbrev pub text_after : Major → ℕ → List ℕ → Option (List ℕ × List ℕ)
text_after Text n rest = if_text (front n rest)
text_after _ n rest = None

abbrev pub key_of : Option (Major × ℕ × List ℕ) → Option (List ℕ × List ℕ)
key_of None = None
key_of (Some h) = text_after h.0 h.1 h.2

-- the string of a key and the bytes that follow it
unfoldable pub key_at : List ℕ → Option (List ℕ × List ℕ)
key_at bytes = key_of (head_at bytes)

abbrev pub if_cid : List ℕ → List ℕ → Option (List ℕ × List ℕ)
if_cid encoded rest = if is_some (read_link 64 encoded) then Some (encoded, rest) else None

-- the bytes of a CID after a zero byte, and the bytes that follow them
abbrev pub if_link : Option (List ℕ × List ℕ) → Option (List ℕ × List ℕ)
if_link None = None
if_link (Some ([], rest)) = None
if_link (Some (zero ∷ encoded, rest)) = if_cid encoded rest
if_link (Some (suc b ∷ encoded, rest)) = None

abbrev pub link_after : Major → ℕ → List ℕ → Option (List ℕ × List ℕ)
link_after Bytes n rest = if_link (front n rest)
link_after _ n rest = None

abbrev pub link_of_head : Option (Major × ℕ × List ℕ) → Option (List ℕ × List ℕ)
link_of_head None = None
link_of_head (Some h) = link_after h.0 h.1 h.2

-- the bytes of the CID of a link, after its tag, and the bytes that follow them
unfoldable pub link_at : List ℕ → Option (List ℕ × List ℕ)
link_at bytes = link_of_head (head_at bytes)
