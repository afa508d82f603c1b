-- A custom codec, whose blocks are the version byte 1 followed by the content.
use Rattle.std.specs.Prelude.{◌≡◌, ◌==◌, ℕ, if◌then◌else◌, List, [], ◌∷◌, Option, Some, None}
use Rattle.ipld_cid.specs.Cid.{Link}
use Rattle.ipld_codec.specs.Codec.{Failure, memory, reading, writing}
use Rattle.examples.specs.declared.own_codec.VersionedError.{VersionedError}
use Rattle.examples.specs.declared.own_codec.VersionedError.TheVariants.{Memory, Read, Write, Version}

-- True if `block` is the block of `content`.
abbrev pub EncodesVersioned : List ℕ → List ℕ → Type 0
EncodesVersioned content block = block ≡ 1 ∷ content

-- the content of a block, or nothing if the bytes are not a block
abbrev pub versioned_content : List ℕ → Option (List ℕ)
versioned_content [] = None
versioned_content (version ∷ content) = if version == 1 then Some content else None

-- the block of a content, which always exists
abbrev pub versioned_block : List ℕ → Option (List ℕ)
versioned_block content = Some (1 ∷ content)

abbrev pub no_links : Option (List ℕ) → Option (List Link)
no_links None = None
no_links (Some content) = Some []

-- the links of a block, an empty list, or nothing if the bytes are not a block
abbrev pub versioned_links : List ℕ → Option (List Link)
versioned_links block = no_links (versioned_content block)

-- the failure that an error reports, or nothing if the error is `Version`
abbrev pub versioned_failure : VersionedError → Option Failure
versioned_failure Memory = Some memory
versioned_failure Read = Some reading
versioned_failure Write = Some writing
versioned_failure Version = None
