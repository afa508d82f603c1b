use Rattle.ipld_tokens.proofs.Verdicts.{link_laws}
use Rattle.ipld_tokens.proofs.TreeBeginnings.{not_wrong, no_bad_cid, no_repeated_key}
use Rattle.ipld_tokens.proofs.laws.tree_beginnings_law.Goals as goal

pub returns-clause-not_wrong : goal.returns-clause-not_wrong
returns-clause-not_wrong c =
    let law = c.cid_bytes_law.ensures in
    not_wrong (link_laws 64 law.encoded_is_read law.each_has_an_encoding law.encoded_is_valid law.one_encoding)

pub returns-clause-no_bad_cid : goal.returns-clause-no_bad_cid
returns-clause-no_bad_cid c =
    let law = c.cid_bytes_law.ensures in
    no_bad_cid (link_laws 64 law.encoded_is_read law.each_has_an_encoding law.encoded_is_valid law.one_encoding)

pub returns-clause-no_repeated_key : goal.returns-clause-no_repeated_key
returns-clause-no_repeated_key c =
    let law = c.cid_bytes_law.ensures in
    no_repeated_key (link_laws 64 law.encoded_is_read law.each_has_an_encoding law.encoded_is_valid law.one_encoding)
