use Rattle.std.proofs.Common.{map, sym, ap, ◌∙◌}
use Rattle.ipld_cid.specs.LinkOf.{link_of}
use Rattle.ipld_codec.specs.LinkIter.{cids_left}
use Rattle.ipld_links_run.specs.ByteLines.{links}
use Rattle.ipld_links_run.proofs.ByteLineLemmas.{block_read}
use Rattle.ipld_links_run.proofs.byte_lines.read_block.Goals as goal

pub returns-in_ok-take_links-in-Ok : goal.returns-in_ok-take_links-in-Ok
returns-in_ok-take_links-in-Ok c =
    block_read c.args.bytes.now (map link_of (cids_left c.in-Ok.links)) c.in-Ok.ensures.ok ∙ sym (ap (λ xs. links (map link_of xs)) c.in_ok-take_links-in-Ok.ensures)
