use Rattle.std.proofs.Common.{[], ◌∷◌, ◌++◌, Err, is_some, ap, sym, ◌∙◌}
use Rattle.std.proofs.lemmas.Result.{err_from_is_err_and}
use Rattle.ipld_cid.specs.LinkOf.{link_of, valid_link}
use Rattle.ipld_tokens.specs.ExtractMachine.{kept, link_read}
use Rattle.ipld_tokens.specs.ExtractorState.{outer_of, links_found}
use Rattle.ipld_tokens.proofs.LinkReading.{read_none, read_from_encoding}
use Rattle.ipld_tokens.proofs.Runs.{closed_same}
use Rattle.ipld_tokens.proofs.LinkKeeping.{unkept}
use Rattle.ipld_tokens.proofs.extractor.Extractor.take_link_bytes.Goals as goal

pub returns-in-Err : goal.returns-in-Err
returns-in-Err g c =
    let self = c.args.self.now in
    let read = rw c.in-Err.is at c.try_from.ensures.exact in
    (ap (λ o. link_read o self.keeps self.frame (outer_of self) (links_found self)) (read_none g.row.S c.args.bytes.now c.in-Err.cid_error read), read)

pub returns-in_ok-keep_link-in-Ok : goal.returns-in_ok-keep_link-in-Ok
returns-in_ok-keep_link-in-Ok g c =
    let self = c.args.self.now in
    let cid = link_of c.in-Ok.cid in
    let encoded = rw c.in-Ok.is at c.try_from.ensures.found in
    let read = rw c.in-Ok.is at c.try_from.ensures.exact in
    let e = read_from_encoding g.row.S c.args.bytes.now cid (valid_link c.in-Ok.cid) (c.cid_bytes_law.ensures.one_encoding _ _ encoded) read in
    let k = c.in_ok-keep_link-in-Ok.ensures in
    c.close.ensures
    ∙ closed_same _ self.keeps _ self.frame _ (outer_of self) _ (links_found self ++ kept self.keeps (cid ∷ [])) k.0 k.1 k.2 k.3
    ∙ sym (ap (λ o. link_read o self.keeps self.frame (outer_of self) (links_found self)) e)

pub returns-in_err-keep_link-in-Ok : goal.returns-in_err-keep_link-in-Ok
returns-in_err-keep_link-in-Ok g c =
    let cid = link_of c.in-Ok.cid in
    let encoded = rw c.in-Ok.is at c.try_from.ensures.found in
    let read = rw c.in-Ok.is at c.try_from.ensures.exact in
    let e = read_from_encoding g.row.S c.args.bytes.now cid (valid_link c.in-Ok.cid) (c.cid_bytes_law.ensures.one_encoding _ _ encoded) read in
    let p = err_from_is_err_and c.from_residual.result c.from_residual.ensures.1 in
    unkept (Unit {0}) (Unit {0}) c.args.self.now c.keep_link.new.self cid c.args.bytes.now _ _ c.from_residual.result c.in_err-keep_link-in-Ok.field-0.0 (p.1 ∙ ap Err p.2) c.in_err-keep_link-in-Ok.ensures (ap is_some e)
