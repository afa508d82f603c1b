use Rattle.std.proofs.Common.{◌≡◌, ℕ, List, cond, refl, subst, OnErr, ◌<◌, ◌+◌, vec_len, vec_capacity, is_ok, ◌++◌, length, ap, ◌∙◌, append_assoc, arith}
use Rattle.dag_cbor_format.specs.declared.major.Major.TheVariants.{Text}
use Rattle.dag_cbor_format.specs.Head.{head}
use Rattle.dag_cbor_format.specs.Canonical.{written_text}
use Rattle.dag_cbor_format.specs.Writing.{Adds, AddsPart}
use Rattle.dag_cbor_format.proofs.Writing.{on_err, part_none, part_full, headed_long, text_written, ends_with, ends_without}
use Rattle.dag_cbor_format.proofs.write.write_text.Goals as goal

pub returns-clause-ok : goal.returns-clause-ok
returns-clause-ok c =
    let s = c.args.text.now in
    let before = c.args.out.now.items in
    let begun = c.write_head.new.out.items in
    ends_with c.extend_from_slice.result (Adds (written_text s) before) begun s c.extend_from_slice.new.self.items
    (c.extend_from_slice.ensures.items ∙ ap (λ (xs : List ℕ). cond (is_ok c.extend_from_slice.result) (begun ++ xs) begun) c.as_bytes.ensures.value)
    (record {
      bytes = head Text (length s) ++ s;
      is = text_written s c.utf8.text (omega arith);
      appended = ap (λ xs. xs ++ s) c.in_ok-write_head.ensures.ok ∙ append_assoc before (head Text (length s)) s;
    })

pub returns-in_err-write_head-clause-part : goal.returns-in_err-write_head-clause-part
returns-in_err-write_head-clause-part c =
    let s = c.args.text.now in
    on_err c.from_residual.result _
    (part_none (written_text s) (head Text (length s) ++ s) c.args.out.now.items c.write_head.new.out.items (text_written s c.utf8.text (omega arith)) (headed_long Text (length s) s) c.in_err-write_head.ensures.unchanged)

pub returns-clause-part : goal.returns-clause-part
returns-clause-part c =
    let s = c.args.text.now in
    let before = c.args.out.now.items in
    let begun = c.write_head.new.out in
    ends_without c.extend_from_slice.result (AddsPart (written_text s) before) begun.items s c.extend_from_slice.new.self.items
    (c.extend_from_slice.ensures.items ∙ ap (λ (xs : List ℕ). cond (is_ok c.extend_from_slice.result) (begun.items ++ xs) begun.items) c.as_bytes.ensures.value)
    (part_full c.extend_from_slice.result (written_text s) (head Text (length s) ++ s) (head Text (length s)) s before begun.items (vec_capacity begun) (vec_len begun) begun.ok.1
    (subst (λ (xs : List ℕ). OnErr c.extend_from_slice.result (vec_capacity begun < vec_len begun + length xs)) c.as_bytes.ensures.value c.extend_from_slice.ensures.full)
    (text_written s c.utf8.text (omega arith)) refl c.in_ok-write_head.ensures.ok)
