use Rattle.std.proofs.Common.{◌≡◌, map, length, subst, rules, arith}
use Rattle.std.proofs.lemmas.List.{length-map}
use Rattle.std.specs.Io.KnownBytes.{Appends}
use Rattle.ipld_cid.specs.LinkOf.{link_of}
use Rattle.ipld_cid.specs.Text.{text_of}
use Rattle.ipld_links_run.specs.Output.{written}
use Rattle.ipld_links_run.proofs.ByteLineLemmas.{outcome_written}
use Rattle.ipld_links_run.proofs.items.write_outcome.Goals as goal

pub returns-in_ok-write_texts-in-Ok : goal.returns-in_ok-write_texts-in-Ok
returns-in_ok-write_texts-in-Ok g c =
    let items = c.in-Ok.links.items in
    let long : c.len.result ≡ length items = search rules in
    let texts : Appends (g.W.Write.contents c.args.writer.now) (g.W.Write.contents c.write_texts.new.writer) (written (map text_of (map link_of items))) =
    subst (λ xs. Appends (g.W.Write.contents c.args.writer.now) (g.W.Write.contents c.write_texts.new.writer) (written (map text_of (map link_of xs))))
    c.deref.ensures.value c.in_ok-write_texts-in-Ok.ensures.appends in
    rw c.in-Ok.is (outcome_written _ _ _ (map link_of items) c.len.result _ (omega (arith, long, length-map items link_of)) texts c.write_verdict.ensures)
