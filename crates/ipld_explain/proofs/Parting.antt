-- Tuples, as they are explained part by part.
use Rattle.std.proofs.Common.{◌≡◌, ◌+◌, inl, inr, ℕ, suc, List, [], ◌∷◌, length, Option, Some, None, Result, Ok, Err, IfOk, IfSome, is_some, IsSome, IsSomeAnd, option_map, refl, ap, sym, subst, ◌∙◌, arith}
use Rattle.ipld_tree.specs.Tree.{Tree, list, Items, no_items, item}
use Rattle.ipld_tree.specs.Index.{item_at}
use Rattle.ipld_tree.specs.Kind.{kind_of}
use Rattle.ipld_ser.specs.Image.{both}
use Rattle.ipld_ser.specs.declared.error.SerdeError.{SerdeError}
use Rattle.ipld_ser.specs.declared.error.SerdeError.TheVariants.{WrongLength, Leftover}
use Rattle.ipld_de.specs.Composites.{read_end, read_part, tuple_reading, PartError, LeftoverError}
use Rattle.ipld_de.specs.Cursors.{ended}
use Rattle.ipld_de.specs.Forms.{count_items}
use Rattle.ipld_explain.specs.Path.{index, at_path}
use Rattle.ipld_explain.specs.Failures.{Failure, length as other_length, under, failure_of, Leads, Explains}
use Rattle.ipld_explain.specs.Tuples.{Part, part, PartsFail, TupleFails, LeadsFrom, ExplainsParts}
use Rattle.ipld_explain.specs.declared.explanation.Expected.TheVariants.{List as AList}
use Rattle.ipld_explain.specs.declared.explanation.Explanation.{Explanation}
use Rattle.ipld_tree.specs.declared.ipld.IpldKind.TheVariants.{List as OfList}
use Rattle.std.specs.declared.alloc.AllocError.{AllocError}
use Rattle.ipld_explain.proofs.Sequences.{both_same, both_none}
use Rattle.ipld_explain.proofs.Steps.{none_of}

-- ---- behind the last part

pub end_read : (ts : Items) → Ok tt ≡ ended (count_items ts) → IsSome (read_end ts)
end_read no_items is = refl
end_read (item t ts) is = absurd cc

module _ (expected found n : ℕ) (f : Failure) (start : f.path ≡ []) (kind : f.found ≡ OfList) (expects : f.expected ≡ AList) (wrong : f.wrong ≡ other_length expected found) where
  -- the list goes on
  pub end_left : (ts : Items) (e : SerdeError) → Err e ≡ ended (count_items ts) → f.error ≡ e → ExplainsParts read_end [] expected found n ts (Some f)
  end_left no_items e is same = absurd cc
  end_left (item t ts) e is same =
      let error : e ≡ Leftover (count_items (item t ts)) = cc in
      (refl, inl (start, kind), (start, expects, same ∙ error, wrong))

-- ---- the next part

module _ {C D : Type 0} (reads : Tree → Option C) (fails : Tree → Failure → Type 0) (others : Items → Option D) (parts : List {1} Part) (expected found n : ℕ) (all ts : Items) (t : Tree) (taken : all ≡ item t ts) where
  -- it doesn't read its item
  pub part_fails : (g f : Failure) → Explains reads fails t (Some g) → f ≡ under (index n) g → ExplainsParts (read_part reads others) (part reads fails ∷ parts) expected found n all (Some f)
  part_fails g f why is =
      let path : f.path ≡ index n ∷ g.path = ap (λ h. h.path) is in
      let plus : n ≡ n + 0 = omega arith in
      let kind : g.found ≡ f.found = sym (ap (λ h. h.found) is) in
      let leads : IsSomeAnd (at_path g.path t) (λ v. kind_of v ≡ f.found) = subst (λ k. IsSomeAnd (at_path g.path t) (λ v. kind_of v ≡ k)) kind why.1 in
      subst (λ us. ExplainsParts (read_part reads others) (part reads fails ∷ parts) expected found n us (Some f)) (sym taken) (
        none_of (both (λ c d. (c, d)) (reads t) (others ts)) (both_none (λ c d. (c, d)) (reads t) (others ts) why.0),
        inr (0, t, g.path, refl, path ∙ ap (λ m. index m ∷ g.path) plus, leads),
        inl (g, why.2, is),
      )

  further : (f : Failure) → LeadsFrom (n + 1) ts f → LeadsFrom n (item t ts) f
  further f (inl here) = inl here
  further f (inr (j, u, path, at, is, leads)) =
      let plus : (n + 1) + j ≡ n + suc j = omega arith in
      inr (suc j, u, path, at, is ∙ ap (λ m. index m ∷ path) plus, leads)

  after : IsSome (reads t) → (o : Option Failure) → ExplainsParts others parts expected found (n + 1) ts o → ExplainsParts (read_part reads others) (part reads fails ∷ parts) expected found n (item t ts) o
  after read None why = both_same (λ c d. (c, d)) (reads t) (others ts) read ∙ why
  after read (Some f) why =
      let next : n + 1 ≡ suc n = omega arith in (
        none_of (both (λ c d. (c, d)) (reads t) (others ts)) (both_same (λ c d. (c, d)) (reads t) (others ts) read ∙ ap is_some why.0),
        further f why.1,
        inr (read, subst (λ m. PartsFail expected found parts m ts f) next why.2),
      )

  -- it reads its item
  pub part_read : IsSome (reads t) → (r : Result (Option Explanation) AllocError) → IfOk r (λ o. ExplainsParts others parts expected found (n + 1) ts (option_map failure_of o))
      → IfOk r (λ o. ExplainsParts (read_part reads others) (part reads fails ∷ parts) expected found n all (option_map failure_of o))
  part_read read (Err e) why = why
  part_read read (Ok o) why =
      subst (λ us. ExplainsParts (read_part reads others) (part reads fails ∷ parts) expected found n us (option_map failure_of o)) (sym taken) (after read (option_map failure_of o) why)

-- ---- the error

module _ {C : Type 0} (reads : Tree → Option C) (error : Tree → SerdeError → Type 0) (others : Items → SerdeError → Type 0) (all ts : Items) where
  pub few_error : all ≡ no_items → (e : SerdeError) → e ≡ WrongLength → PartError reads error others all e
  few_error is e same = subst (λ us. PartError reads error others us e) (sym is) same

  pub later_error : (t : Tree) → all ≡ item t ts → IsSome (reads t) → (r : Result (Option Explanation) AllocError) → IfOk r (λ o. IfSome o (λ x. others ts x.error))
      → IfOk r (λ o. IfSome o (λ x. PartError reads error others all x.error))
  later_error t is read (Err e) why = why
  later_error t is read (Ok None) why = why
  later_error t is read (Ok (Some x)) why = subst (λ us. PartError reads error others us x.error) (sym is) (inr (read, why))

-- ---- the tuple

module _ {C : Type 0} (reads : Items → Option C) (parts : List {1} Part) (t : Tree) (ts : Items) (there : t ≡ list ts) where
  at_index : (f : Failure) → LeadsFrom 0 ts f → Leads (list ts) f
  at_index f (inl (start, kind)) = subst (λ p. IsSomeAnd (at_path p (list ts)) (λ v. kind_of v ≡ f.found)) (sym start) (sym kind)
  at_index f (inr (j, u, path, at, is, leads)) =
      let plus : 0 + j ≡ j = omega arith in
      subst (λ p. IsSomeAnd (at_path p (list ts)) (λ v. kind_of v ≡ f.found)) (sym (is ∙ ap (λ m. index m ∷ path) plus))
      (Rattle.ipld_explain.proofs.Steps.leads_on u (item_at j ts) path (λ v. kind_of v ≡ f.found) at leads)

  whole : (o : Option Failure) → ExplainsParts reads parts (length parts) (count_items ts) 0 ts o → Explains (tuple_reading reads) (TupleFails parts) (list ts) o
  whole None why = why
  whole (Some f) why = (why.0, at_index f why.1, inr (ts, refl, why.2))
