use Rattle.std.proofs.Common.{sym, ap}
use Rattle.ipld_cid_text.specs.Base.{alphabet}
use Rattle.ipld_cid_text.proofs.base.Base.letters.Goals as goal

pub returns-in-Base16Lower-clause-letters : goal.returns-in-Base16Lower-clause-letters
unfolding alphabet
returns-in-Base16Lower-clause-letters c = ap alphabet (sym c.in-Base16Lower.is)

pub returns-in-Base32Lower-clause-letters : goal.returns-in-Base32Lower-clause-letters
unfolding alphabet
returns-in-Base32Lower-clause-letters c = ap alphabet (sym c.in-Base32Lower.is)

pub returns-in-Base32Upper-clause-letters : goal.returns-in-Base32Upper-clause-letters
unfolding alphabet
returns-in-Base32Upper-clause-letters c = ap alphabet (sym c.in-Base32Upper.is)

pub returns-in-Base36Lower-clause-letters : goal.returns-in-Base36Lower-clause-letters
unfolding alphabet
returns-in-Base36Lower-clause-letters c = ap alphabet (sym c.in-Base36Lower.is)

pub returns-in-Base58Btc-clause-letters : goal.returns-in-Base58Btc-clause-letters
unfolding alphabet
returns-in-Base58Btc-clause-letters c = ap alphabet (sym c.in-Base58Btc.is)

pub returns-in-Base64Url-clause-letters : goal.returns-in-Base64Url-clause-letters
unfolding alphabet
returns-in-Base64Url-clause-letters c = ap alphabet (sym c.in-Base64Url.is)
