use Rattle.ipld_tokens.proofs.Verdicts.{link_laws}
use Rattle.ipld_tokens.proofs.ItemFronts as fronts
use Rattle.ipld_tokens.proofs.laws.item_tokens_law.Goals as goal

pub returns-clause-no_front : goal.returns-clause-no_front
returns-clause-no_front g c =
    let law = c.cid_bytes_law.ensures in
    fronts.no_front g.row.S (link_laws g.row.S law.encoded_is_read law.each_has_an_encoding law.encoded_is_valid law.one_encoding)

pub returns-clause-one_end : goal.returns-clause-one_end
returns-clause-one_end g c =
    let law = c.cid_bytes_law.ensures in
    fronts.one_end g.row.S (link_laws g.row.S law.encoded_is_read law.each_has_an_encoding law.encoded_is_valid law.one_encoding)

pub returns-clause-same_links : goal.returns-clause-same_links
returns-clause-same_links g c =
    let law = c.cid_bytes_law.ensures in
    fronts.same_links g.row.S (link_laws g.row.S law.encoded_is_read law.each_has_an_encoding law.encoded_is_valid law.one_encoding)
