-- The name and the sentence of every error, and the one that is printed.
use Rattle.std.specs.Prelude.{ℕ, Bool, List, ◌++◌, codes, if◌then◌else◌}
use Rattle.std.specs.Fmt.{decimal}
use Rattle.ipld_cid.specs.declared.error.CidError.{CidError}
use Rattle.ipld_cid.specs.declared.error.CidError.TheVariants.{End, NotShortest, VarintTooLarge, ExplicitVersion0, UnknownVersion, DigestTooLong, TrailingBytes, InvalidV0Multihash, InvalidText, Memory}

-- The name of an error, without its content.
abbrev pub name_of : CidError → List ℕ
name_of End = codes "End"
name_of NotShortest = codes "NotShortest"
name_of VarintTooLarge = codes "VarintTooLarge"
name_of ExplicitVersion0 = codes "ExplicitVersion0"
name_of (UnknownVersion version) = codes "UnknownVersion"
name_of DigestTooLong = codes "DigestTooLong"
name_of TrailingBytes = codes "TrailingBytes"
name_of InvalidV0Multihash = codes "InvalidV0Multihash"
name_of InvalidText = codes "InvalidText"
name_of Memory = codes "Memory"

-- The sentence of an error.
abbrev pub sentence_of : CidError → List ℕ
sentence_of End = codes "the bytes end before the CID does"
sentence_of NotShortest = codes "a varint is not in its shortest form"
sentence_of VarintTooLarge = codes "a varint encodes a number of 2^64 or more"
sentence_of ExplicitVersion0 = codes "CIDv0 cannot be specified in CIDv1 format"
sentence_of (UnknownVersion version) = codes "unknown CID version " ++ decimal version
sentence_of DigestTooLong = codes "the digest is longer than the type can hold"
sentence_of TrailingBytes = codes "trailing bytes after the CID"
sentence_of InvalidV0Multihash = codes "CIDv0 requires a SHA2-256 multihash with a digest of 32 bytes"
sentence_of InvalidText = codes "not a CIDv1 in base32: expected b, then lower-case letters and digits from 2 to 7"
sentence_of Memory = codes "out of memory"

-- The printed text: the sentence if the option `#` is set (`{error:#}`), and otherwise the name
abbrev pub printed : Bool → CidError → List ℕ
printed alternate error = if alternate then sentence_of error else name_of error
