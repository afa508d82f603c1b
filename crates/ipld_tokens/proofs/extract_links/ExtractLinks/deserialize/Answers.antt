use Rattle.ipld_tokens.proofs.Verdicts.{link_laws}
use Rattle.ipld_tokens.proofs.Returning as returning
use Rattle.ipld_tokens.proofs.extract_links.ExtractLinks.deserialize.Goals as goal

pub returns-clause-found : goal.returns-clause-found
returns-clause-found g c =
    let law = c.cid_bytes_law.ensures in
    returning.found g.row.S (link_laws g.row.S law.encoded_is_read law.each_has_an_encoding law.encoded_is_valid law.one_encoding)
    (g.T.TokenSource.remaining c.args.source.now) (g.T.TokenSource.remaining c.consume.new.source) c.consume.result (rw c.new.ensures at c.consume.ensures.consumes)

pub returns-clause-only : goal.returns-clause-only
returns-clause-only g c =
    let law = c.cid_bytes_law.ensures in
    returning.only g.row.S (link_laws g.row.S law.encoded_is_read law.each_has_an_encoding law.encoded_is_valid law.one_encoding)
    (g.T.TokenSource.remaining c.args.source.now) (g.T.TokenSource.remaining c.consume.new.source) c.consume.result (rw c.new.ensures at c.consume.ensures.consumes)

pub returns-clause-tree : goal.returns-clause-tree
returns-clause-tree g c =
    let law = c.cid_bytes_law.ensures in
    returning.tree g.row.S (link_laws g.row.S law.encoded_is_read law.each_has_an_encoding law.encoded_is_valid law.one_encoding)
    (g.T.TokenSource.remaining c.args.source.now) (g.T.TokenSource.remaining c.consume.new.source) c.consume.result (rw c.new.ensures at c.consume.ensures.consumes)

pub returns-clause-token : goal.returns-clause-token
returns-clause-token g c =
    let law = c.cid_bytes_law.ensures in
    returning.token g.row.S (link_laws g.row.S law.encoded_is_read law.each_has_an_encoding law.encoded_is_valid law.one_encoding)
    (g.T.TokenSource.remaining c.args.source.now) (g.T.TokenSource.remaining c.consume.new.source) c.consume.result (rw c.new.ensures at c.consume.ensures.consumes)

pub returns-clause-cid : goal.returns-clause-cid
returns-clause-cid g c =
    let law = c.cid_bytes_law.ensures in
    returning.cid g.row.S (link_laws g.row.S law.encoded_is_read law.each_has_an_encoding law.encoded_is_valid law.one_encoding)
    (g.T.TokenSource.remaining c.args.source.now) (g.T.TokenSource.remaining c.consume.new.source) c.consume.result (rw c.new.ensures at c.consume.ensures.consumes)

pub returns-clause-rejected : goal.returns-clause-rejected
returns-clause-rejected g c =
    let law = c.cid_bytes_law.ensures in
    returning.rejected_at g.row.S (link_laws g.row.S law.encoded_is_read law.each_has_an_encoding law.encoded_is_valid law.one_encoding)
    (g.T.TokenSource.remaining c.args.source.now) (g.T.TokenSource.remaining c.consume.new.source) c.consume.result (rw c.new.ensures at c.consume.ensures.consumes)

pub returns-clause-end : goal.returns-clause-end
returns-clause-end g c =
    let law = c.cid_bytes_law.ensures in
    returning.end g.row.S (link_laws g.row.S law.encoded_is_read law.each_has_an_encoding law.encoded_is_valid law.one_encoding)
    (g.T.TokenSource.remaining c.args.source.now) (g.T.TokenSource.remaining c.consume.new.source) c.consume.result (rw c.new.ensures at c.consume.ensures.consumes)

pub returns-clause-open : goal.returns-clause-open
returns-clause-open g c =
    let law = c.cid_bytes_law.ensures in
    returning.open_ends g.row.S (link_laws g.row.S law.encoded_is_read law.each_has_an_encoding law.encoded_is_valid law.one_encoding)
    (g.T.TokenSource.remaining c.args.source.now) (g.T.TokenSource.remaining c.consume.new.source) c.consume.result (rw c.new.ensures at c.consume.ensures.consumes)

pub returns-clause-memory : goal.returns-clause-memory
returns-clause-memory g c =
    let law = c.cid_bytes_law.ensures in
    returning.memory g.row.S (link_laws g.row.S law.encoded_is_read law.each_has_an_encoding law.encoded_is_valid law.one_encoding)
    (g.T.TokenSource.remaining c.args.source.now) (g.T.TokenSource.remaining c.consume.new.source) c.consume.result (rw c.new.ensures at c.consume.ensures.consumes)

pub returns-clause-stopped : goal.returns-clause-stopped
returns-clause-stopped g c =
    let law = c.cid_bytes_law.ensures in
    returning.stopped g.row.S (link_laws g.row.S law.encoded_is_read law.each_has_an_encoding law.encoded_is_valid law.one_encoding)
    (g.T.TokenSource.remaining c.args.source.now) (g.T.TokenSource.remaining c.consume.new.source) c.consume.result (rw c.new.ensures at c.consume.ensures.consumes)

pub returns-clause-source : goal.returns-clause-source
returns-clause-source g c =
    let law = c.cid_bytes_law.ensures in
    returning.source g.row.S (link_laws g.row.S law.encoded_is_read law.each_has_an_encoding law.encoded_is_valid law.one_encoding)
    (g.T.TokenSource.remaining c.args.source.now) (g.T.TokenSource.remaining c.consume.new.source) c.consume.result (rw c.new.ensures at c.consume.ensures.consumes)
