use Rattle.std.proofs.Common.{ℕ, ◌<◌, get_or, sym, subst}
use Rattle.ipld_cid_text.specs.declared.base.Base.{Base}
use Rattle.ipld_cid_text.specs.declared.base.Base.TheVariants.{Base16Lower, Base32Lower, Base32Upper, Base36Lower, Base58Btc, Base64Url}
use Rattle.ipld_cid_text.specs.declared.letters.TheConstants.{HEX_VALUES, BASE32_UPPER_VALUES, BASE36_VALUES, BASE58_VALUES, BASE64_VALUES}
use Rattle.ipld_cid.specs.declared.base32.TheConstants.{BASE32_VALUES}
use Rattle.ipld_cid_text.specs.Base.{IsValue}
use Rattle.ipld_cid_text.proofs.Tables.{value-is}
use Rattle.ipld_cid_text.proofs.base.Base.values.Goals as goal

pub returns-in-Base16Lower : goal.returns-in-Base16Lower
returns-in-Base16Lower c = subst (λ (b : Base). (k : ℕ) → k < 256 → IsValue b k (get_or HEX_VALUES k 0)) (sym c.in-Base16Lower.is) (value-is Base16Lower)

pub returns-in-Base32Lower : goal.returns-in-Base32Lower
returns-in-Base32Lower c = subst (λ (b : Base). (k : ℕ) → k < 256 → IsValue b k (get_or BASE32_VALUES k 0)) (sym c.in-Base32Lower.is) (value-is Base32Lower)

pub returns-in-Base32Upper : goal.returns-in-Base32Upper
returns-in-Base32Upper c = subst (λ (b : Base). (k : ℕ) → k < 256 → IsValue b k (get_or BASE32_UPPER_VALUES k 0)) (sym c.in-Base32Upper.is) (value-is Base32Upper)

pub returns-in-Base36Lower : goal.returns-in-Base36Lower
returns-in-Base36Lower c = subst (λ (b : Base). (k : ℕ) → k < 256 → IsValue b k (get_or BASE36_VALUES k 0)) (sym c.in-Base36Lower.is) (value-is Base36Lower)

pub returns-in-Base58Btc : goal.returns-in-Base58Btc
returns-in-Base58Btc c = subst (λ (b : Base). (k : ℕ) → k < 256 → IsValue b k (get_or BASE58_VALUES k 0)) (sym c.in-Base58Btc.is) (value-is Base58Btc)

pub returns-in-Base64Url : goal.returns-in-Base64Url
returns-in-Base64Url c = subst (λ (b : Base). (k : ℕ) → k < 256 → IsValue b k (get_or BASE64_VALUES k 0)) (sym c.in-Base64Url.is) (value-is Base64Url)
