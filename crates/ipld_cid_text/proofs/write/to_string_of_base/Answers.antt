use Rattle.std.specs.String.{string_bytes}
use Rattle.ipld_cid.specs.LinkOf.{link_of, valid_link}
use Rattle.ipld_cid_text.specs.Text.{IsTextIn, IsText}
use Rattle.ipld_cid_text.proofs.Writing.{if_written, written_reads}
use Rattle.ipld_cid_text.proofs.write.to_string_of_base.Goals as goal

pub returns-clause-round_trip : goal.returns-clause-round_trip
returns-clause-round_trip c =
    let link = link_of c.args.cid.now in
    if_written string_bytes c.write_text.result (λ t. IsTextIn c.args.base link t) (λ t. IsText link t) _ (λ t h. written_reads c.args.base link t (valid_link c.args.cid.now) h) c.write_text.ensures
