-- Parts of a block that are read from its front.
use Rattle.std.specs.Prelude.{◌≡◌, ℕ, List, ◌++◌}
use Rattle.dag_cbor_format.specs.Head.{head, IsArgument}
use Rattle.dag_cbor_format.specs.declared.major.Major.{Major}

-- True if the bytes begin with the head of this major type and argument, and `rest` follows.
abbrev pub BeginsWithHead : Major → ℕ → List ℕ → List ℕ → Type 0
BeginsWithHead major n bytes rest = IsArgument major n × (bytes ≡ head major n ++ rest)
