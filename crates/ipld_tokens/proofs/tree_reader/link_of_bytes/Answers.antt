use Rattle.std.proofs.Common.{None, is_some, ap, ◌∙◌}
use Rattle.ipld_cid.specs.LinkOf.{link_of, valid_link}
use Rattle.ipld_cid.specs.Bytes.{read_cid}
use Rattle.ipld_tokens.specs.ReadMachine.{completed, after_link}
use Rattle.ipld_tokens.proofs.LinkReading.{read_none, read_from_encoding}
use Rattle.ipld_tokens.proofs.TreeLevels.{tree_of-Link}
use Rattle.ipld_tokens.proofs.tree_reader.link_of_bytes.Goals as goal

pub returns-in-Ok : goal.returns-in-Ok
returns-in-Ok c =
    let bytes = c.args.bytes.now in
    let cid = link_of c.in-Ok.cid in
    let encoded = rw c.in-Ok.is at c.try_from.ensures.found in
    let read = rw c.in-Ok.is at c.try_from.ensures.exact in
    let found = read_from_encoding 64 bytes cid (valid_link c.in-Ok.cid) (c.cid_bytes_law.ensures.one_encoding _ _ encoded) read in
    (ap is_some found, λ ls. ap (λ o. after_link o (read_cid 64 bytes) ls) found ∙ ap (λ t. completed t ls) (tree_of-Link c.in-Ok.cid))

pub returns-in-Err : goal.returns-in-Err
returns-in-Err c = λ ls.
    let bytes = c.args.bytes.now in
    let read = rw c.in-Err.is at c.try_from.ensures.exact in
    ap (λ o. after_link o (read_cid 64 bytes) ls) (read_none 64 bytes c.in-Err.cid_error read) ∙ ap (λ r. after_link None r ls) read
