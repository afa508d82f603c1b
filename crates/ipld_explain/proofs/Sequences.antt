-- Lists, as they are explained item by item.
use Rattle.std.proofs.Common.{◌≡◌, ◌+◌, inl, inr, ℕ, suc, true, false, ◌∷◌, Option, Some, None, is_some, IsSome, refl, ap, sym, subst, ◌∙◌, arith}
use Rattle.ipld_tree.specs.Tree.{Tree, list, Items, no_items, item}
use Rattle.ipld_tree.specs.Index.{item_at}
use Rattle.ipld_tree.specs.Kind.{kind_of}
use Rattle.ipld_ser.specs.Image.{both}
use Rattle.ipld_ser.specs.declared.error.SerdeError.{SerdeError}
use Rattle.ipld_de.specs.Composites.{read_all, list_reading, ItemsError}
use Rattle.ipld_de.specs.Forms.{count_items}
use Rattle.ipld_explain.specs.Path.{index}
use Rattle.ipld_explain.specs.Failures.{Failure, under, Explains}
use Rattle.ipld_explain.specs.Composites.{ItemsFail, ListFails}
use Rattle.ipld_explain.proofs.Steps.{none_of, leads_on}

-- the first so many items were read, and these are left
pub record ItemsLeft {C : Type 0} (reads : Tree → Option C) (fails : Tree → Failure → Type 0) (all rest : Items) (n : ℕ) : Type 0 where
  pub counts : n + count_items rest ≡ count_items all
  pub same : is_some (read_all reads all) ≡ is_some (read_all reads rest)
  pub at : (j : ℕ) → item_at (n + j) all ≡ item_at j rest
  pub failing : (f : Failure) → ItemsFail reads fails n rest f → ItemsFail reads fails 0 all f

pub items_new : {C : Type 0} (reads : Tree → Option C) (fails : Tree → Failure → Type 0) (all : Items) → ItemsLeft reads fails all all 0
items_new reads fails all = record {
  counts = omega arith;
  same = refl;
  at = λ j. let plus : 0 + j ≡ j = omega arith in ap (λ m. item_at m all) plus;
  failing = λ f why. why;
}

pub both_same : {A B C : Type 0} (f : A → B → C) (o : Option A) (p : Option B) → is_some o ≡ true → is_some (both f o p) ≡ is_some p
both_same f None p is = absurd cc
both_same f (Some a) None is = refl
both_same f (Some a) (Some b) is = refl

pub both_none : {A B C : Type 0} (f : A → B → C) (o : Option A) (p : Option B) → o ≡ None → is_some (both f o p) ≡ false
both_none f None p is = refl
both_none f (Some a) p is = absurd cc

after : {C : Type 0} (reads : Tree → Option C) (fails : Tree → Failure → Type 0) (all ts : Items) (t : Tree) (n : ℕ)
    → ItemsLeft reads fails all (item t ts) n → IsSome (reads t) → ItemsLeft reads fails all ts (n + 1)
after reads fails all ts t n so_far read = record {
  counts = let before = so_far.counts in omega arith;
  same = so_far.same ∙ both_same ◌∷◌ (reads t) (read_all reads ts) read;
  at = λ j. let plus : (n + 1) + j ≡ n + suc j = omega arith in ap (λ m. item_at m all) plus ∙ so_far.at (suc j);
  failing = λ f why. let next : n + 1 ≡ suc n = omega arith in so_far.failing f (inr (read, subst (λ m. ItemsFail reads fails m ts f) next why));
}

-- an item was read
pub items_next : {C : Type 0} (reads : Tree → Option C) (fails : Tree → Failure → Type 0) (all rest ts : Items) (t : Tree) (n : ℕ)
    → ItemsLeft reads fails all rest n → rest ≡ item t ts → IsSome (reads t) → ItemsLeft reads fails all ts (n + 1)
items_next reads fails all rest ts t n so_far taken read = after reads fails all ts t n (subst (λ r. ItemsLeft reads fails all r n) taken so_far) read

rejected : {C : Type 0} (reads : Tree → Option C) (fails : Tree → Failure → Type 0) (all ts : Items) (t : Tree) (n : ℕ) (g : Failure)
    → ItemsLeft reads fails all (item t ts) n → Explains reads fails t (Some g) → Explains (list_reading reads) (ListFails reads fails) (list all) (Some (under (index n) g))
rejected reads fails all ts t n g so_far why =
    let plus : n ≡ n + 0 = omega arith in
    let there : item_at n all ≡ Some t = ap (λ m. item_at m all) plus ∙ so_far.at 0 in (
      none_of (read_all reads all) (so_far.same ∙ both_none ◌∷◌ (reads t) (read_all reads ts) why.0),
      leads_on t (item_at n all) g.path (λ v. kind_of v ≡ g.found) there why.1,
      inr (all, refl, so_far.failing (under (index n) g) (inl (g, why.2, refl))),
    )

-- an item wasn't read
pub item_fails : {C : Type 0} (reads : Tree → Option C) (fails : Tree → Failure → Type 0) (all rest ts : Items) (t : Tree) (n : ℕ) (g f : Failure)
    → ItemsLeft reads fails all rest n → rest ≡ item t ts → Explains reads fails t (Some g) → f ≡ under (index n) g
    → Explains (list_reading reads) (ListFails reads fails) (list all) (Some f)
item_fails reads fails all rest ts t n g f so_far taken why is =
    subst (λ h. Explains (list_reading reads) (ListFails reads fails) (list all) (Some h)) (sym is)
    (rejected reads fails all ts t n g (subst (λ r. ItemsLeft reads fails all r n) taken so_far) why)

-- all were read
pub items_end : {C : Type 0} (reads : Tree → Option C) (fails : Tree → Failure → Type 0) (all rest : Items) (n : ℕ)
    → ItemsLeft reads fails all rest n → rest ≡ no_items → Explains (list_reading reads) (ListFails reads fails) (list all) None
items_end reads fails all rest n so_far ended = so_far.same ∙ ap (λ r. is_some (read_all reads r)) ended

pub none_left : (ts : Items) → count_items ts ≡ 0 → ts ≡ no_items
none_left no_items is = refl
none_left (item t ts) is = absurd (omega arith)

-- the error of the items that are left is that of all
abbrev pub SameItemsError : {C : Type 0} (reads : Tree → Option C) (error : Tree → SerdeError → Type 0) (all rest : Items) → Type 0
SameItemsError reads error all rest = (e : SerdeError) → ItemsError reads error rest e → ItemsError reads error all e

-- an item was read
pub items_error_next : {C : Type 0} (reads : Tree → Option C) (error : Tree → SerdeError → Type 0) (all rest ts : Items) (t : Tree)
    → SameItemsError reads error all rest → rest ≡ item t ts → IsSome (reads t) → SameItemsError reads error all ts
items_error_next reads error all rest ts t same taken read = λ e why. same e (subst (λ r. ItemsError reads error r e) (sym taken) (inr (read, why)))

-- an item wasn't read
pub item_error : {C : Type 0} (reads : Tree → Option C) (error : Tree → SerdeError → Type 0) (all rest ts : Items) (t : Tree) (e f : SerdeError)
    → SameItemsError reads error all rest → rest ≡ item t ts → reads t ≡ None → error t e → f ≡ e → ItemsError reads error all f
item_error reads error all rest ts t e f same taken none why is =
    subst (ItemsError reads error all) (sym is) (same e (subst (λ r. ItemsError reads error r e) (sym taken) (inl (none, why))))
