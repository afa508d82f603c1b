use Rattle.std.proofs.Common.{◌≡◌, Some, map, sym, ap, ◌∙◌, rules, arith}
use Rattle.std.proofs.lemmas.List.{length-map}
use Rattle.ipld_cid.specs.LinkOf.{link_of}
use Rattle.ipld_links_run.specs.ByteLines.{links, bytes_of_line}
use Rattle.ipld_links_run.specs.Said.{reading_of}
use Rattle.ipld_links_run.proofs.ByteLineLemmas.{progress_line, finish_done, finish_bad, finish_rejected, is_understood, not_understood_line}
use Rattle.ipld_links_run.proofs.byte_lines.write_links_of_lines.Goals as goal

pub returns-then-not-branch-clause-output : goal.returns-then-not-branch-clause-output
returns-then-not-branch-clause-output g c =
    finish_done _ _ _ _ _ _ _ _ _ _ _ _ c.loop-count.invariant c.in_ok-read_line.ensures (search rules) c.write_verdict.ensures

pub returns-then-not-branch-2-clause-output : goal.returns-then-not-branch-2-clause-output
returns-then-not-branch-2-clause-output g c =
    finish_bad _ _ _ _ _ _ _ _ _ _ _ _ c.loop-count.invariant c.in_ok-read_line.ensures (search rules)
    (ap bytes_of_line (sym c.deref.ensures.value) ∙ not_understood_line _ _ _ c.in_ok-decode_line.ensures (search rules)) c.end_output.ensures.written

pub returns-in-Err-clause-output : goal.returns-in-Err-clause-output
returns-in-Err-clause-output g c =
    finish_rejected _ _ _ _ _ _ _ _ _ _ _ _ _ _ c.loop-count.invariant c.in_ok-read_line.ensures (search rules)
    (ap bytes_of_line (sym c.deref.ensures.value) ∙ is_understood _ _ _ c.in_ok-decode_line.ensures (search rules) ∙ ap Some (sym c.deref-in-loop-count.ensures.value))
    (rw c.in-Err.is at c.in_ok-read_links.ensures) c.end_output-in-Err.ensures.written

pub loop-count-preserved : goal.loop-count-preserved
loop-count-preserved g c =
    let cids = c.deref-in-Ok.result.now in
    let says : reading_of c.args.content c.deref-in-loop-count.result.now ≡ links (map link_of c.read_links.new.found.items) = rw c.in-Ok.is at c.in_ok-read_links.ensures in
    let wrote = c.in_ok-texts-in-Ok.ensures in
    progress_line _ _ _ _ _ _ _ _ _ _ _ _ _ (map link_of cids) c.loop-count.invariant c.in_ok-read_line.ensures (search rules)
    (ap bytes_of_line (sym c.deref.ensures.value) ∙ is_understood _ _ _ c.in_ok-decode_line.ensures (search rules) ∙ ap Some (sym c.deref-in-loop-count.ensures.value))
    (says ∙ ap (λ xs. links (map link_of xs)) (sym c.deref-in-Ok.ensures.value))
    (omega (arith, wrote.0, length-map cids link_of)) wrote.1
