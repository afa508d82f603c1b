-- The bytes of the CID of a link, before a check that they are a CID.
use Rattle.std.specs.Prelude.{ℕ, zero, suc, List, [], ◌∷◌, Option, Some, None}
use Rattle.dag_cbor_format.specs.declared.major.Major.{Major}
use Rattle.dag_cbor_format.specs.declared.major.Major.TheVariants.{Bytes}
use Rattle.dag_cbor_format.specs.HeadReading.{head_at}
use Rattle.dag_cbor_format.specs.ItemHeader.{front}

-- the content of a byte string after a first zero byte, and the bytes that follow the string
abbrev pub behind_zero : Option (List ℕ × List ℕ) → Option (List ℕ × List ℕ)
behind_zero None = None
behind_zero (Some ([], rest)) = None
behind_zero (Some (zero ∷ encoded, rest)) = Some (encoded, rest)
behind_zero (Some (suc b ∷ encoded, rest)) = None

abbrev pub link_bytes_after : Major → ℕ → List ℕ → Option (List ℕ × List ℕ)
link_bytes_after Bytes n rest = behind_zero (front n rest)
link_bytes_after _ n rest = None

abbrev pub link_bytes_of_head : Option (Major × ℕ × List ℕ) → Option (List ℕ × List ℕ)
link_bytes_of_head None = None
link_bytes_of_head (Some h) = link_bytes_after h.0 h.1 h.2

-- the bytes of the CID of a link, after its tag, and the bytes that follow them
unfoldable pub link_bytes_at : List ℕ → Option (List ℕ × List ℕ)
link_bytes_at bytes = link_bytes_of_head (head_at bytes)
