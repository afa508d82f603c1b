use Rattle.std.proofs.Common.{ℕ, suc, ◌-◌, ◌∷◌, ◌++◌, arith, List, length, map, take, drop, rules, sym, ap, ◌∙◌, Bor}
use Rattle.std.proofs.lemmas.List.{take-append-drop, length-take-le, length-drop, take_all}
use Rattle.std.proofs.lemmas.List.Sorted.{IsPermutation-map, answers_always}
use Rattle.dag_cbor_blocks.specs.declared.tape.TapeEntry.{TapeEntry}
use Rattle.dag_cbor_tape.specs.Canonicalizing.{Pair, pairs_now, to_do}
use Rattle.dag_cbor_tape.proofs.Entering.{Now, in_order, to_do_more}
use Rattle.dag_cbor_tape.proofs.Sound.{count_sound}
use Rattle.dag_cbor_tape.proofs.canonical.enter_map.Goals as goal

pub returns-in-Ok-push_pairs-clause-ok : goal.returns-in-Ok-push_pairs-clause-ok
returns-in-Ok-push_pairs-clause-ok c =
    let es : List TapeEntry = c.args.following.now in
    let n : ℕ = c.in-Some.count in
    let counted = count_sound c.args.entry (length es) n (sym c.in-Some.ensures) in
    let ps : List Now = c.in_ok-pairs.pairs.items in
    let qs : List Now = c.sort_unstable_by_key.new.self.items in
    let key : Now → ℕ × Bor (List ℕ) = λ p. (length p.0.now, p.0) in
    record {
      inner = take n es;
      behind = drop n es;
      parts = sym (take-append-drop n es);
      spans = counted.0 ∙ ap (λ (m : ℕ). suc m) (sym (length-take-le n es counted.1));
      pairs = pairs_now ps;
      ordered = pairs_now qs;
      splits = c.in_ok-pairs.ensures.ok;
      same = IsPermutation-map (λ (p : Now). (p.0.now, p.1.now)) ps qs c.sort_unstable_by_key.ensures.permutation;
      in_order = in_order qs (c.sort_unstable_by_key.ensures.sorted key (answers_always _ _ _ (λ f a r next called. search rules)));
      next = c.in-Ok-push_pairs.ensures
          ∙ ap (λ (xs : List (List TapeEntry)). map (λ (p : Pair). p.1) (pairs_now qs) ++ xs) (to_do_more c.args.todo.now.items c.push.new.self.items _ c.in-Ok.ensures.items
          ∙ ap (λ (x : List TapeEntry). x ∷ to_do c.args.todo.now.items) (take_all (length es - n) (drop n es) (omega (arith, length-drop n es))));
    }
