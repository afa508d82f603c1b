-- The sentence of every status. The statuses of one cause begin at a multiple of 16.
use Rattle.std.specs.Prelude.{ℕ, ◌/◌, ◌%◌, ◌==◌, if◌then◌else◌, List, Option, Some, None, codes, unwrap_or}

-- The sentences of the statuses from 0 on: any call
abbrev pub any_sentence : ℕ → Option (List ℕ)
any_sentence n =
    if n == 0 then Some (codes "the call succeeded")
    else if n == 1 then Some (codes "out of memory")
    else if n == 2 then Some (codes "the buffer is too short: pass one of the length that the call asks for")
    else if n == 3 then Some (codes "the keys of a map are not in canonical order")
    else if n == 4 then Some (codes "the base is unknown")
    else if n == 5 then Some (codes "the text of a CID of version 0 is in base58btc")
    else if n == 6 then Some (codes "lists and maps nest deeper than the limit")
    else if n == 7 then Some (codes "there are more values than the limit")
    else if n == 8 then Some (codes "a string, a byte string, a list or a map is too long for a tape")
    else None

-- The sentences of the statuses from 16 on: bytes that are not a CID
abbrev pub cid_sentence : ℕ → Option (List ℕ)
cid_sentence n =
    if n == 0 then Some (codes "the bytes end before the CID does")
    else if n == 1 then Some (codes "a varint is not in its shortest form")
    else if n == 2 then Some (codes "a varint encodes a number of 2^64 or more")
    else if n == 3 then Some (codes "a CID of version 0 must not state its version")
    else if n == 4 then Some (codes "the version is neither 0 nor 1")
    else if n == 5 then Some (codes "the digest is longer than 64 bytes")
    else if n == 6 then Some (codes "more bytes follow the CID")
    else None

-- The sentences of the statuses from 32 on: a text that is not one of a CID
abbrev pub text_sentence : ℕ → Option (List ℕ)
text_sentence n =
    if n == 0 then Some (codes "the text is empty, or begins with the prefix of an unknown base")
    else if n == 1 then Some (codes "a CID has no text of this length in its base")
    else if n == 2 then Some (codes "a character is not a letter of the base")
    else if n == 3 then Some (codes "bits after the last byte are set")
    else if n == 4 then Some (codes "the text of a CID of version 0 has no prefix")
    else if n == 5 then Some (codes "the text is not UTF-8")
    else None

-- The sentences of the statuses from 48 on: bytes that are not a block
abbrev pub block_sentence : ℕ → Option (List ℕ)
block_sentence n =
    if n == 0 then Some (codes "the bytes end before the item does")
    else if n == 1 then Some (codes "an argument is not in its shortest form")
    else if n == 2 then Some (codes "a float has other than 64 bits, or is NaN or an infinity")
    else if n == 3 then Some (codes "a simple value, a tag or an indefinite length is not allowed in DAG-CBOR")
    else if n == 4 then Some (codes "a text string is not UTF-8")
    else if n == 5 then Some (codes "the key of a map is not a text string")
    else if n == 6 then Some (codes "a map has the same key twice")
    else if n == 7 then Some (codes "after the tag of a link, no byte string begins with a zero byte")
    else if n == 8 then Some (codes "more bytes follow the item")
    else None

-- The sentences of the statuses from 64 on: a path that leads to nothing in a block
abbrev pub path_sentence : ℕ → Option (List ℕ)
path_sentence n =
    if n == 0 then Some (codes "the path leads to no key or index")
    else if n == 1 then Some (codes "the path continues after a value that is not a list, a map or a link")
    else None

-- The sentences of the statuses from 80 on: the bytes of a link that are not a CID
abbrev pub link_sentence : ℕ → Option (List ℕ)
link_sentence n =
    if n == 0 then Some (codes "the bytes of a link end before its CID does")
    else if n == 1 then Some (codes "a varint of a link is not in its shortest form")
    else if n == 2 then Some (codes "a varint of a link encodes a number of 2^64 or more")
    else if n == 3 then Some (codes "a link of version 0 must not state its version")
    else if n == 4 then Some (codes "the version of a link is neither 0 nor 1")
    else if n == 5 then Some (codes "the digest of a link is longer than 64 bytes")
    else if n == 6 then Some (codes "more bytes follow the CID of a link")
    else None

-- The sentences of the statuses from 96 on: a CAR that cannot be read
abbrev pub car_sentence : ℕ → Option (List ℕ)
car_sentence n =
    if n == 0 then Some (codes "the CAR has no more sections")
    else if n == 1 then Some (codes "the bytes end within a header or a section")
    else if n == 2 then Some (codes "the length of a header or a section is not in its shortest form")
    else if n == 3 then Some (codes "the length of a header or a section is 2^64 or more")
    else if n == 4 then Some (codes "the length of a header or a section is zero")
    else if n == 5 then Some (codes "a header or a section is longer than the limit")
    else if n == 6 then Some (codes "the header is not a map of roots and version 1")
    else if n == 7 then Some (codes "the header of version 2 puts the payload where it can not be")
    else if n == 8 then Some (codes "the bytes end before the payload of version 2 does")
    else None

-- The sentences of the statuses from 112 on: a block that is not known to be that of a CID
abbrev pub digest_sentence : ℕ → Option (List ℕ)
digest_sentence n =
    if n == 0 then Some (codes "the hash function of the CID is not SHA2-256, SHA2-512, BLAKE2b-256 or identity")
    else if n == 1 then Some (codes "the digest of the block is not that of the CID")
    else None

-- The sentences of the statuses from 128 on: a tape that has no block
abbrev pub tape_sentence : ℕ → Option (List ℕ)
tape_sentence n =
    if n == 0 then Some (codes "an entry for a value or a key is missing")
    else if n == 1 then Some (codes "more entries follow than the list, the map or the tape has")
    else if n == 2 then Some (codes "the kind of an entry is unknown, or wrong in its place")
    else if n == 3 then Some (codes "a list or a map spans no entry, or more than there are")
    else if n == 4 then Some (codes "the length or the value of an entry does not suit its kind")
    else if n == 5 then Some (codes "the content of an entry is not within the data")
    else if n == 6 then Some (codes "a string or a key is not UTF-8")
    else if n == 7 then Some (codes "a float is NaN or an infinity")
    else if n == 9 then Some (codes "a map has the same key twice")
    else None

-- The sentences of the statuses from 144 on: bytes that are not a DAG-PB node
abbrev pub pb_sentence : ℕ → Option (List ℕ)
pb_sentence n =
    if n == 0 then Some (codes "the bytes end before the field does")
    else if n == 1 then Some (codes "a varint encodes a number of 2^64 or more, or has more than ten bytes")
    else if n == 2 then Some (codes "a field is not allowed in DAG-PB, or not there")
    else if n == 3 then Some (codes "a field comes twice or out of order")
    else if n == 4 then Some (codes "a link does not begin with its hash")
    else if n == 5 then Some (codes "the name of a link is not UTF-8")
    else None

-- The sentences of the statuses from 160 on: a text that is not DAG-JSON, and a map that has no text
abbrev pub json_sentence : ℕ → Option (List ℕ)
json_sentence n =
    if n == 0 then Some (codes "the text is not UTF-8")
    else if n == 1 then Some (codes "the text is not JSON")
    else if n == 2 then Some (codes "the text ends before its value does")
    else if n == 3 then Some (codes "a number is too large for a float of 64 bits")
    else if n == 4 then Some (codes "an integer is below -2^64 or above 2^64 - 1")
    else if n == 5 then Some (codes "an object has the same key twice")
    else if n == 6 then Some (codes "the text of a link is not that of a CID")
    else if n == 7 then Some (codes "the text of bytes is not base64 without padding")
    else if n == 8 then Some (codes "an object is reserved for links and bytes, and is neither")
    else if n == 9 then Some (codes "a map would be read as a link or as bytes in DAG-JSON")
    else None

-- The sentences of the statuses from 176 on: a part of a CAR
abbrev pub part_sentence : ℕ → Option (List ℕ)
part_sentence n = if n == 0 then Some (codes "more bytes of the CAR are needed") else None

-- The sentences of the statuses from 192 on: a block that a walk over a file does not take
abbrev pub file_sentence : ℕ → Option (List ℕ)
file_sentence n =
    if n == 0 then Some (codes "the walk has taken all its blocks")
    else if n == 1 then Some (codes "the walk is not open, or is not over what the call reads")
    else if n == 2 then Some (codes "the codec of the CID is neither raw nor dag-pb")
    else if n == 3 then Some (codes "the node has no data")
    else if n == 4 then Some (codes "the node is a folder, a symbolic link or metadata, not a file")
    else if n == 5 then Some (codes "the number of sizes in the node is not that of its links")
    else if n == 6 then Some (codes "the size in the node is not that of its bytes and its links")
    else if n == 7 then Some (codes "the block has another size than the block above it states")
    else if n == 8 then Some (codes "the file has more bytes than the limit")
    else if n == 9 then Some (codes "the file has more blocks than the limit")
    else if n == 10 then Some (codes "the blocks of the file nest deeper than the limit")
    else if n == 11 then Some (codes "more blocks of the file wait to be read than the limit")
    else None

-- The sentences of the statuses from 208 on: data that are not a message of UnixFS
abbrev pub message_sentence : ℕ → Option (List ℕ)
message_sentence n =
    if n == 0 then Some (codes "the data of the node end within a field")
    else if n == 1 then Some (codes "a varint in the data of the node has more than ten bytes, or is 2^64 or more")
    else if n == 2 then Some (codes "a field in the data of the node is unknown")
    else if n == 3 then Some (codes "a field in the data of the node is repeated or out of order")
    else if n == 4 then Some (codes "the data of the node do not begin with a type")
    else if n == 5 then Some (codes "the type of the node is unknown")
    else if n == 6 then Some (codes "the mode of the node has more than 32 bits")
    else if n == 7 then Some (codes "the time of the node does not begin with its seconds")
    else if n == 8 then Some (codes "the nanoseconds of the node's time are not from 1 to 999999999")
    else None

-- Why a block is not taken for a folder, by the status minus 224
abbrev pub folder_sentence : ℕ → Option (List ℕ)
folder_sentence n =
    if n == 0 then Some (codes "a folder is a DAG-PB block, but the CID has another codec")
    else if n == 1 then Some (codes "the node is not a folder")
    else if n == 2 then Some (codes "the hash function of the shard is not murmur3-x64-64")
    else if n == 3 then Some (codes "the shard does not have 256 slots")
    else if n == 4 then Some (codes "an entry of the folder has an invalid name")
    else if n == 5 then Some (codes "the name of an entry is repeated or out of order")
    else if n == 6 then Some (codes "the name of a link in the shard does not begin with two hexadecimal digits")
    else if n == 7 then Some (codes "a slot of the shard is repeated or out of order")
    else if n == 8 then Some (codes "the bit field of the shard is not that of its slots")
    else if n == 9 then Some (codes "a plain folder is below a shard")
    else if n == 10 then Some (codes "the hash of a name leads to another slot of the shard")
    else if n == 11 then Some (codes "the folder has more than eight levels of shards")
    else if n == 12 then Some (codes "the folder has no entry with this name")
    else if n == 13 then Some (codes "the search needs one more block of the folder")
    else None

-- Why something is not packed, by the status minus 240
abbrev pub pack_sentence : ℕ → Option (List ℕ)
pack_sentence n =
    if n == 0 then Some (codes "a block above others needs room for at least two links")
    else if n == 1 then Some (codes "the file or the folder has 2^64 bytes or more, with all its blocks")
    else if n == 2 then Some (codes "the nanoseconds of the time are more than 999999999")
    else if n == 3 then Some (codes "the name of an entry is empty, . or .., or has a / or a zero byte")
    else if n == 4 then Some (codes "two entries have the same name, or the names do not ascend by their bytes")
    else if n == 5 then Some (codes "two names of a sharded folder have the same hash: rename one of them")
    else if n == 6 then Some (codes "take the blocks that are packed before you pack more")
    else None

-- The sentence of the number `n` in a family, if it has one
abbrev pub sentence_in : ℕ → ℕ → Option (List ℕ)
sentence_in family n =
    if family == 0 then any_sentence n
    else if family == 1 then cid_sentence n
    else if family == 2 then text_sentence n
    else if family == 3 then block_sentence n
    else if family == 4 then path_sentence n
    else if family == 5 then link_sentence n
    else if family == 6 then car_sentence n
    else if family == 7 then digest_sentence n
    else if family == 8 then tape_sentence n
    else if family == 9 then pb_sentence n
    else if family == 10 then json_sentence n
    else if family == 11 then part_sentence n
    else if family == 12 then file_sentence n
    else if family == 13 then message_sentence n
    else if family == 14 then folder_sentence n
    else if family == 15 then pack_sentence n
    else None

-- The sentence of a status, in ASCII and without a full stop.
abbrev pub status_sentence : ℕ → List ℕ
status_sentence n = unwrap_or (sentence_in (n / 16) (n % 16)) (codes "the status is not one of this version")
