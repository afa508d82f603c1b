-- The text of each version.
use Rattle.std.proofs.Common.{◌≡◌, ℕ, List, ◌∷◌, ap}
use Rattle.hex.specs.Hex.{encode_lower}
use Rattle.ipld_cid.specs.declared.cid.Version.{Version}
use Rattle.ipld_cid.specs.declared.cid.Version.TheVariants.{V0, V1}
use Rattle.ipld_cid.specs.Cid.{Link}
use Rattle.ipld_cid.specs.Bytes.{bytes_of}
use Rattle.ipld_cid.specs.Base32.{base32}
use Rattle.ipld_cid.specs.Text.{text_of}

abbrev at_version : Version → List ℕ → List ℕ
at_version version bytes = elim version [
  | V0 ↦ encode_lower bytes
  | V1 ↦ 98 ∷ base32 bytes
]

pub text_of_v0 : (link : Link) → link.version ≡ V0 → text_of link ≡ encode_lower (bytes_of link)
unfolding text_of
text_of_v0 link is = ap (λ (v : Version). at_version v (bytes_of link)) is

pub text_of_v1 : (link : Link) → link.version ≡ V1 → text_of link ≡ 98 ∷ base32 (bytes_of link)
unfolding text_of
text_of_v1 link is = ap (λ (v : Version). at_version v (bytes_of link)) is
