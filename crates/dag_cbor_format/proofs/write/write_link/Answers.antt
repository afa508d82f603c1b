use Rattle.std.proofs.Common.{ℕ, List, [], refl, sym, ap, ◌∙◌, append_assoc, vec_len, vec_capacity, ◌≡◌, suc, ◌<◌, ◌+◌, ◌^◌, ◌∷◌, ◌++◌, length, arith}
use Rattle.ipld_cid.specs.LinkOf.{link_of}
use Rattle.ipld_cid.specs.Bytes.{bytes_of}
use Rattle.dag_cbor_format.specs.declared.major.Major.TheVariants.{Bytes, Tag}
use Rattle.dag_cbor_format.specs.Head.{head}
use Rattle.dag_cbor_format.specs.Canonical.{written_link}
use Rattle.dag_cbor_format.specs.Writing.{Adds, AddsPart}
use Rattle.dag_cbor_format.proofs.Writing.{on_err, part_none, part_some, part_full, headed_long, link_written, link_appended, ends_with, ends_without}
use Rattle.dag_cbor_format.proofs.write.write_link.Goals as goal

pub returns-clause-ok : goal.returns-clause-ok
returns-clause-ok c =
    let cid = link_of c.args.cid.now in
    let b = bytes_of cid in
    let before = c.args.out.now.items in
    let begun = c.extend_from_slice.new.self.items in
    let long : suc (length b) < 2 ^ 64 = omega (arith, c.encoded_len.ensures.len, c.encoded_len.ensures.short) in
    let count : 1 + c.encoded_len.result ≡ suc (length b) = omega (arith, c.encoded_len.ensures.len) in
    ends_with c.write_bytes.result (Adds (written_link cid) before) begun b c.write_bytes.new.bytes.items c.write_bytes.ensures.appended
    (record {
      bytes = head Tag 42 ++ (head Bytes (suc (length b)) ++ 0 ∷ b);
      is = link_written cid c.args.cid.now.valid long;
      appended = link_appended before c.write_head.new.out.items c.write_head-2.new.out.items begun (head Tag 42) b (1 + c.encoded_len.result)
          c.in_ok-write_head.ensures.ok c.in_ok-write_head-2.ensures.ok count c.in_ok-extend_from_slice.ensures.items;
    })

pub returns-in_err-write_head-clause-part : goal.returns-in_err-write_head-clause-part
returns-in_err-write_head-clause-part c =
    let cid = link_of c.args.cid.now in
    let b = bytes_of cid in
    let more = head Bytes (suc (length b)) ++ 0 ∷ b in
    let long : suc (length b) < 2 ^ 64 = omega (arith, c.encoded_len.ensures.len, c.encoded_len.ensures.short) in
    on_err c.from_residual.result _
    (part_none (written_link cid) (head Tag 42 ++ more) c.args.out.now.items c.write_head.new.out.items (link_written cid c.args.cid.now.valid long) (headed_long Tag 42 more) c.in_err-write_head.ensures.unchanged)

pub returns-in_err-write_head-2-clause-part : goal.returns-in_err-write_head-2-clause-part
returns-in_err-write_head-2-clause-part c =
    let cid = link_of c.args.cid.now in
    let b = bytes_of cid in
    let before = c.args.out.now.items in
    let tag = head Tag 42 in
    let sized = head Bytes (suc (length b)) in
    let whole = tag ++ (sized ++ 0 ∷ b) in
    let long : suc (length b) < 2 ^ 64 = omega (arith, c.encoded_len.ensures.len, c.encoded_len.ensures.short) in
    let is = link_written cid c.args.cid.now.valid long in
    on_err c.from_residual-in_err-write_head-2.result _
    (part_some (written_link cid) whole tag (sized ++ 0 ∷ b) before c.write_head-2.new.out.items is refl (headed_long Bytes (suc (length b)) (0 ∷ b)) (c.in_err-write_head-2.ensures.unchanged ∙ c.in_ok-write_head.ensures.ok))

pub returns-in_err-extend_from_slice-clause-part : goal.returns-in_err-extend_from_slice-clause-part
returns-in_err-extend_from_slice-clause-part c =
    let cid = link_of c.args.cid.now in
    let b = bytes_of cid in
    let before = c.args.out.now.items in
    let tag = head Tag 42 in
    let sized = head Bytes (suc (length b)) in
    let whole = tag ++ (sized ++ 0 ∷ b) in
    let long : suc (length b) < 2 ^ 64 = omega (arith, c.encoded_len.ensures.len, c.encoded_len.ensures.short) in
    let is = link_written cid c.args.cid.now.valid long in
    let count : 1 + c.encoded_len.result ≡ suc (length b) = omega (arith, c.encoded_len.ensures.len) in
    let two : c.write_head-2.new.out.items ≡ before ++ (tag ++ sized) =
    c.in_ok-write_head-2.ensures.ok ∙ ap (λ (xs : List ℕ). xs ++ head Bytes (1 + c.encoded_len.result)) c.in_ok-write_head.ensures.ok ∙ ap (λ (n : ℕ). (before ++ tag) ++ head Bytes n) count ∙ append_assoc before tag sized in
    on_err c.from_residual-in_err-extend_from_slice.result _
    (part_some (written_link cid) whole (tag ++ sized) (0 ∷ b) before c.extend_from_slice.new.self.items is (sym (append_assoc tag sized (0 ∷ b))) (omega arith) (c.in_err-extend_from_slice.ensures.items ∙ two))

pub returns-clause-part : goal.returns-clause-part
returns-clause-part c =
    let cid = link_of c.args.cid.now in
    let b = bytes_of cid in
    let before = c.args.out.now.items in
    let tag = head Tag 42 in
    let sized = head Bytes (suc (length b)) in
    let whole = tag ++ (sized ++ 0 ∷ b) in
    let long : suc (length b) < 2 ^ 64 = omega (arith, c.encoded_len.ensures.len, c.encoded_len.ensures.short) in
    let is = link_written cid c.args.cid.now.valid long in
    let count : 1 + c.encoded_len.result ≡ suc (length b) = omega (arith, c.encoded_len.ensures.len) in
    let two : c.write_head-2.new.out.items ≡ before ++ (tag ++ sized) =
    c.in_ok-write_head-2.ensures.ok ∙ ap (λ (xs : List ℕ). xs ++ head Bytes (1 + c.encoded_len.result)) c.in_ok-write_head.ensures.ok ∙ ap (λ (n : ℕ). (before ++ tag) ++ head Bytes n) count ∙ append_assoc before tag sized in
    let begun = c.extend_from_slice.new.self in
    let three : begun.items ≡ before ++ ((tag ++ sized) ++ 0 ∷ []) = c.in_ok-extend_from_slice.ensures.items ∙ ap (λ (xs : List ℕ). xs ++ 0 ∷ []) two ∙ append_assoc before (tag ++ sized) (0 ∷ []) in
    ends_without c.write_bytes.result (AddsPart (written_link cid) before) begun.items b c.write_bytes.new.bytes.items c.write_bytes.ensures.appended
    (part_full c.write_bytes.result (written_link cid) whole ((tag ++ sized) ++ 0 ∷ []) b before begun.items (vec_capacity begun) (vec_len begun) begun.ok.1 c.write_bytes.ensures.full is
    (sym (append_assoc tag sized (0 ∷ b)) ∙ sym (append_assoc (tag ++ sized) (0 ∷ []) b)) three)
