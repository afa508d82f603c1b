use Rattle.std.proofs.Common.{◌≡◌, [], ◌++◌, length, reverse, None, option_map, sym, subst, ◌∙◌, rules, arith}
use Rattle.std.proofs.lemmas.List.{length-reverse}
use Rattle.ipld_show.specs.TreeText.{inner_lines, lines_of}
use Rattle.ipld_show.specs.TreeLevels.{Open, Leaves}
use Rattle.ipld_show.proofs.Items.{head_is, no_error}
use Rattle.ipld_show.proofs.Trees.{Going, has_cid, line_written, opened_item, ended_both, ended_all, going_next}
use Rattle.ipld_show.proofs.tree_text.write_tree.Goals as goal

pub returns-in_default : goal.returns-in_default
returns-in_default g c = λ d behind b.
    let r = c.loop-head.invariant d behind b in
    absurd (no_error r.next c.loop-head.rest.now r.more c.in_default.field-0 r.begins c.in_default.ensures.rejected)

pub returns-in-Err : goal.returns-in-Err
returns-in-Err g c = λ d behind b.
    let key = option_map (λ k. k.now) c.loop-head.key in
    let ls = reverse c.loop-head.levels.items in
    let old = g.W.Write.contents c.args.writer.now in
    let new = g.W.Write.contents c.loop-head.writer in
    let rest = c.loop-head.rest.now in
    let head = c.in-Ok.head in
    let after = c.in-Ok.after.now in
    let r = c.loop-head.invariant d behind b in
    let w = head_is r.next rest r.more r.begins head after c.in-Ok.ensures.found in
    let cid = has_cid head r.next after r.more w r.begins.is_item in
    c.in-Err.ensures cid

pub returns-in-Err-leave : goal.returns-in-Err-leave
returns-in-Err-leave g c = λ d behind b.
    let key = option_map (λ k. k.now) c.loop-head.key in
    let ls = reverse c.loop-head.levels.items in
    let old = g.W.Write.contents c.args.writer.now in
    let new = g.W.Write.contents c.loop-head.writer in
    let rest = c.loop-head.rest.now in
    let head = c.in-Ok.head in
    let after = c.in-Ok.after.now in
    let r = c.loop-head.invariant d behind b in
    let w = head_is r.next rest r.more r.begins head after c.in-Ok.ensures.found in
    let cid = has_cid head r.next after r.more w r.begins.is_item in
    let mid = g.W.Write.contents c.write_line.new.writer in
    let line = c.in-Ok-write_line.ensures cid in
    let count : c.len.result ≡ length c.loop-head.levels.items = first_of (omega arith, search rules) in
    let size : c.len.result ≡ length ls = count ∙ sym (length-reverse c.loop-head.levels.items) in
    let lines = inner_lines (length ls) r.next ++ r.left in
    let e = line_written d rest key ls old new r c.len.result head after line.0 mid size w line.1 line.2 in
    let o = subst (λ xs. Open xs after lines) (sym c.in_ok-enter.ensures) (opened_item d rest key ls old new r head after w) in
    c.in-Err-leave.ensures after lines o

pub returns-in-Ok-None : goal.returns-in-Ok-None
returns-in-Ok-None g c = λ d behind b.
    let key = option_map (λ k. k.now) c.loop-head.key in
    let ls = reverse c.loop-head.levels.items in
    let old = g.W.Write.contents c.args.writer.now in
    let new = g.W.Write.contents c.loop-head.writer in
    let rest = c.loop-head.rest.now in
    let head = c.in-Ok.head in
    let after = c.in-Ok.after.now in
    let r = c.loop-head.invariant d behind b in
    let w = head_is r.next rest r.more r.begins head after c.in-Ok.ensures.found in
    let cid = has_cid head r.next after r.more w r.begins.is_item in
    let mid = g.W.Write.contents c.write_line.new.writer in
    let line = c.in-Ok-write_line.ensures cid in
    let count : c.len.result ≡ length c.loop-head.levels.items = first_of (omega arith, search rules) in
    let size : c.len.result ≡ length ls = count ∙ sym (length-reverse c.loop-head.levels.items) in
    let lines = inner_lines (length ls) r.next ++ r.left in
    let e = line_written d rest key ls old new r c.len.result head after line.0 mid size w line.1 line.2 in
    let o = subst (λ xs. Open xs after lines) (sym c.in_ok-enter.ensures) (opened_item d rest key ls old new r head after w) in
    let newer = g.W.Write.contents c.leave.new.writer in
    let v = subst (λ x. Leaves after lines c.leave.new.levels.items x mid newer) c.in-Ok-None.field-0-is (c.in-Ok-None.ensures after lines o) in
    ended_all (lines_of 0 None d) old newer (ended_both (lines_of 0 None d) lines [] old mid newer e v)

pub returns-in-Err-next_line_place : goal.returns-in-Err-next_line_place
returns-in-Err-next_line_place g c = λ d behind b.
    let key = option_map (λ k. k.now) c.loop-head.key in
    let ls = reverse c.loop-head.levels.items in
    let old = g.W.Write.contents c.args.writer.now in
    let new = g.W.Write.contents c.loop-head.writer in
    let rest = c.loop-head.rest.now in
    let head = c.in-Ok.head in
    let after = c.in-Ok.after.now in
    let r = c.loop-head.invariant d behind b in
    let w = head_is r.next rest r.more r.begins head after c.in-Ok.ensures.found in
    let cid = has_cid head r.next after r.more w r.begins.is_item in
    let mid = g.W.Write.contents c.write_line.new.writer in
    let line = c.in-Ok-write_line.ensures cid in
    let count : c.len.result ≡ length c.loop-head.levels.items = first_of (omega arith, search rules) in
    let size : c.len.result ≡ length ls = count ∙ sym (length-reverse c.loop-head.levels.items) in
    let lines = inner_lines (length ls) r.next ++ r.left in
    let e = line_written d rest key ls old new r c.len.result head after line.0 mid size w line.1 line.2 in
    let o = subst (λ xs. Open xs after lines) (sym c.in_ok-enter.ensures) (opened_item d rest key ls old new r head after w) in
    let newer = g.W.Write.contents c.leave.new.writer in
    let v = subst (λ x. Leaves after lines c.leave.new.levels.items x mid newer) c.in-Ok-Some.field-0-is (c.in-Ok-Some.ensures after lines o) in
    absurd (c.in-Err-next_line_place.ensures.exact (length v.0) v.3.0 v.3.2 v.3.3)

pub loop-head-preserved : goal.loop-head-preserved
loop-head-preserved g c = λ d behind b.
    let key = option_map (λ k. k.now) c.loop-head.key in
    let ls = reverse c.loop-head.levels.items in
    let old = g.W.Write.contents c.args.writer.now in
    let new = g.W.Write.contents c.loop-head.writer in
    let rest = c.loop-head.rest.now in
    let head = c.in-Ok.head in
    let after = c.in-Ok.after.now in
    let r = c.loop-head.invariant d behind b in
    let w = head_is r.next rest r.more r.begins head after c.in-Ok.ensures.found in
    let cid = has_cid head r.next after r.more w r.begins.is_item in
    let mid = g.W.Write.contents c.write_line.new.writer in
    let line = c.in-Ok-write_line.ensures cid in
    let count : c.len.result ≡ length c.loop-head.levels.items = first_of (omega arith, search rules) in
    let size : c.len.result ≡ length ls = count ∙ sym (length-reverse c.loop-head.levels.items) in
    let lines = inner_lines (length ls) r.next ++ r.left in
    let e = line_written d rest key ls old new r c.len.result head after line.0 mid size w line.1 line.2 in
    let o = subst (λ xs. Open xs after lines) (sym c.in_ok-enter.ensures) (opened_item d rest key ls old new r head after w) in
    let newer = g.W.Write.contents c.leave.new.writer in
    let v = subst (λ x. Leaves after lines c.leave.new.levels.items x mid newer) c.in-Ok-Some.field-0-is (c.in-Ok-Some.ensures after lines o) in
    let comes = c.in-Ok-next_line_place.ensures.exact (length v.0) v.3.0 v.3.2 v.3.3 in
    subst (λ xs. Going d c.in-Ok-next_line_place.place.now (option_map (λ k. k.now) c.in-Ok-next_line_place.name) xs old newer) (sym v.2)
    (going_next d lines v.1 c.in-Ok-Some.level v.0 after (c.in-Ok-next_line_place.name, c.in-Ok-next_line_place.place) old mid newer e v.4 v.3 comes)
