-- What a tree builder comes to.
use Rattle.std.proofs.Common.{◌≡◌, ◌+◌, ◌-◌, inl, inr, ℕ, Bool, true, false, not, List, [], ◌∷◌, nat_lt, Option, Some, None, Result, Ok, Err, refl, sym, ap, subst, ◌∙◌, rules}
use Rattle.std.specs.Prelude.{if◌then◌else◌}
use Rattle.ipld_tree.specs.Tree.{Tree, Members, no_items, no_members}
use Rattle.ipld_tree.specs.Tree as tree
use Rattle.ipld_tree.specs.TreeOf.{tree_of, members_of}
use Rattle.ipld_tree.specs.declared.ipld.Ipld.{Ipld, Null, Bool as Ipld-Bool, the_lemmas}
use Rattle.ipld_tree.specs.declared.limits.Limits.{Limits}
use Rattle.ipld_tree.specs.Put.{put}
use Rattle.ipld_tokens.specs.ItemTree.{has_key}
use Rattle.ipld_tokens.specs.ReadMachine as reading
use Rattle.ipld_tokens.specs.ReadMachine.{ReadState, open_at, wanted, marked, rejected, bad_token, bad_cid, repeated_key, never, if_new, is_at_key, key_kept}
use Rattle.ipld_tokens.specs.OpenTree as building
use Rattle.ipld_tokens.specs.OpenTree.{map_level, around, ended, inside, state_from, at_key, in_a_list, has_open_key, key_at as kept_at, Builds}
use Rattle.ipld_tokens.specs.declared.open_tree.BuildError.{BuildError}
use Rattle.ipld_tokens.specs.declared.open_tree.BuildError.TheVariants as build
use Rattle.ipld_tokens.specs.declared.open_tree.Container.{Container}
use Rattle.ipld_tokens.specs.declared.open_tree.Container.TheVariants as container
use Rattle.ipld_tokens.specs.declared.open_tree.OpenTree.{OpenTree}
use Rattle.json.specs.Token as json
use Rattle.dag_json.specs.Objects.{object_tree}
use Rattle.dag_json.specs.Offset.{is_going, Stands}
use Rattle.dag_json.specs.ReadMachine.{Level, in_list, in_key, in_value, State, going, done, failed, completed, completed_if, takes_value, value_step, begin_step, end_list_step, end_map_step, key_step, step}
use Rattle.dag_json.specs.Building.{as_read, levels_of, counted, state_of, added, begun, list_ended, object_ended, key_at, Reaches, Counted, MayBegin}
use Rattle.dag_json.specs.declared.read_error.ReadErrorKind.{ReadErrorKind}
use Rattle.dag_json.specs.declared.read_error.ReadErrorKind.TheVariants.{Syntax, DuplicateKey, TooDeep}
use Rattle.dag_json.specs.declared.tree.TreeBuilder.{TreeBuilder}

-- an equal state is reached
pub reaches : (s r new : State) (result : Result (Unit {0}) ReadErrorKind) → s ≡ r → Reaches r result new → Reaches s result new
reaches s r new (Ok u) e h = (e ∙ h.0, h.1)
reaches s r new (Err x) e (inl memory) = inl memory
reaches s r new (Err x) e (inr f) = inr (e ∙ f)

-- ---- tokens

pub step_null : (floats : Bool) (limits : Limits) (s : State) → step floats limits s json.null ≡ added limits s (Ok tree.null)
step_null floats limits (going ls d n) = refl
step_null floats limits (done v) = refl
step_null floats limits (failed e) = refl

pub tree_of-Null : tree_of Null ≡ tree.null
tree_of-Null = search (rules, the_lemmas)

pub tree_of-Bool : (b : Bool) → tree_of (Ipld-Bool b) ≡ tree.boolean b
tree_of-Bool b = search (rules, the_lemmas)

pub takes_null : (floats : Bool) (limits : Limits) (s new : State) (r : Result (Unit {0}) ReadErrorKind) → Reaches (added limits s (Ok (tree_of Null))) r new → Reaches (step floats limits s json.null) r new
takes_null floats limits s new r h = reaches _ _ new r (step_null floats limits s ∙ ap (λ t. added limits s (Ok t)) (sym tree_of-Null)) h

-- ---- whether it is unfinished

unfinished_from : (d n : ℕ) (c : Container) (x : Option Ipld) (ls : List Level) → building.is_open (state_from c x ls) ≡ is_going (counted d n (state_from c x ls))
unfinished_from d n container.Root x ls = refl
unfinished_from d n (container.List l) x ls = refl
unfinished_from d n (container.Map m) x ls = refl
unfinished_from d n container.Closed None ls = refl
unfinished_from d n container.Closed (Some v) ls = refl

pub unfinished : (b : TreeBuilder) → building.is_open (building.state_of b.tree) ≡ is_going (state_of b)
unfinished b = unfinished_from b.depth b.values b.tree.innermost b.tree.tree (inside b.tree.outer.items [])

-- ---- what was built is no error

stands_from : (d n : ℕ) (c : Container) (x : Option Ipld) (ls : List Level) → (state_from c x ls ≡ rejected never → ⊥) → Stands (counted d n (state_from c x ls))
stands_from d n container.Root x ls h = tt
stands_from d n (container.List l) x ls h = tt
stands_from d n (container.Map m) x ls h = tt
stands_from d n container.Closed None ls h = absurd (h refl)
stands_from d n container.Closed (Some v) ls h = tt

if_new_never : (b : Bool) (s : ReadState) → (s ≡ rejected never → ⊥) → if_new b s ≡ rejected never → ⊥
if_new_never true s h e = absurd cc
if_new_never false s h e = h e

completed_never : (t : Tree) (ls : List Level) → reading.completed t ls ≡ rejected never → ⊥
completed_never t [] e = absurd cc
completed_never t (in_list ts ∷ ls) e = absurd cc
completed_never t (in_key ms ∷ ls) e = absurd cc
completed_never t (in_value ms k ∷ ls) e = if_new_never (has_key k ms) (open_at (in_key (put k t ms) ∷ ls)) (λ same. absurd cc) e

kept_never : (k : List ℕ) (ls : List Level) → key_kept k ls ≡ rejected never → ⊥
kept_never k [] e = absurd cc
kept_never k (in_list ts ∷ ls) e = absurd cc
kept_never k (in_key ms ∷ ls) e = absurd cc
kept_never k (in_value ms q ∷ ls) e = absurd cc

key_never : (k : List ℕ) (s : ReadState) → kept_at k s ≡ rejected never → ⊥
key_never k (open_at ls) e = kept_never k ls e
key_never k (wanted ls) e = absurd cc
key_never k (marked ls) e = absurd cc
key_never k (reading.done t) e = absurd cc
key_never k (rejected f) e = absurd cc

pub put_stands : (d n : ℕ) (b : OpenTree) (t : Tree) (ls : List Level) → building.state_of b ≡ reading.completed t ls → Stands (counted d n (building.state_of b))
put_stands d n b t ls e = stands_from d n b.innermost b.tree (inside b.outer.items []) (λ same. completed_never t ls (sym e ∙ same))

pub key_stands : (d n : ℕ) (b : OpenTree) (k : List ℕ) (s : ReadState) → building.state_of b ≡ kept_at k s → Stands (counted d n (building.state_of b))
key_stands d n b k s e = stands_from d n b.innermost b.tree (inside b.outer.items []) (λ same. key_never k s (sym e ∙ same))

pub open_stands : (d n : ℕ) (s : ReadState) (ls : List Level) → s ≡ open_at ls → Stands (counted d n s)
open_stands d n s ls e = subst (λ r. Stands (counted d n r)) (sym e) tt

-- ---- errors of building

pub reads_so : (A : Type 0) (s new : ReadState) (d n : ℕ) (x : State) (built : Result (Unit {0}) BuildError) (r : Result (Unit {0}) ReadErrorKind)
    → x ≡ counted d n s → (new ≡ s → Stands (counted d n new)) → Builds A s new built → r ≡ as_read built → Reaches x r (counted d n new)
reads_so A s new d n x (Ok u) r e stands h is = subst (λ y. Reaches x y (counted d n new)) (sym is) (e ∙ ap (counted d n) (sym h), stands h)
reads_so A s new d n x (Err build.Memory) r e stands h is = subst (λ y. Reaches x y (counted d n new)) (sym is) (inl refl)
reads_so A s new d n x (Err build.Misplaced) r e stands h is = subst (λ y. Reaches x y (counted d n new)) (sym is) (inr (e ∙ ap (counted d n) h))
reads_so A s new d n x (Err build.DuplicateKey) r e stands h is = subst (λ y. Reaches x y (counted d n new)) (sym is) (inr (e ∙ ap (counted d n) h))

-- ---- a value comes

completed_new : (b : Bool) (ms : Members) (ls : List Level) (d n : ℕ)
    → (if b then failed DuplicateKey else going (in_key ms ∷ ls) d n) ≡ counted d n (if_new b (open_at (in_key ms ∷ ls)))
completed_new true ms ls d n = refl
completed_new false ms ls d n = refl

-- what is complete leads where reading from tokens says
pub completed_so : (t : Tree) (d n : ℕ) (ls : List Level) → completed t d n ls ≡ counted d n (reading.completed t ls)
completed_so t d n [] = refl
completed_so t d n (in_list ts ∷ ls) = refl
completed_so t d n (in_key ms ∷ ls) = refl
completed_so t d n (in_value ms k ∷ ls) = completed_new (has_key k ms) (put k t ms) ls d n

-- where no key comes, a value does
takes_there : (ls : List Level) → not (is_at_key ls) ≡ true → takes_value ls ≡ true
takes_there [] e = refl
takes_there (in_list ts ∷ ls) e = refl
takes_there (in_key ms ∷ ls) e = absurd cc
takes_there (in_value ms k ∷ ls) e = refl

takes_not : (ls : List Level) → not (is_at_key ls) ≡ false → takes_value ls ≡ false
takes_not [] e = absurd cc
takes_not (in_list ts ∷ ls) e = absurd cc
takes_not (in_key ms ∷ ls) e = refl
takes_not (in_value ms k ∷ ls) e = absurd cc

goes_from : (c : Container) (x : Option Ipld) (ls : List Level) → not (is_at_key (around c ls)) ≡ true → state_from c x ls ≡ open_at (around c ls)
goes_from container.Root x ls e = refl
goes_from (container.List l) x ls e = refl
goes_from (container.Map m) x ls e = refl
goes_from container.Closed x ls e = absurd cc

goes : (b : TreeBuilder) → not (is_at_key (levels_of b)) ≡ true → state_of b ≡ going (levels_of b) b.depth b.values
goes b e = ap (counted b.depth b.values) (goes_from b.tree.innermost b.tree.tree (inside b.tree.outer.items []) e)

none_added : (limits : Limits) (d n : ℕ) (r : Result Tree ReadErrorKind) (x : Option Ipld) → added limits (counted d n (ended x)) r ≡ failed Syntax
none_added limits d n r None = refl
none_added limits d n r (Some v) = refl

none_begun : (limits : Limits) (d n : ℕ) (l : Level) (x : Option Ipld) → begun limits (counted d n (ended x)) l ≡ failed Syntax
none_begun limits d n l None = refl
none_begun limits d n l (Some v) = refl

not_added : (limits : Limits) (r : Result Tree ReadErrorKind) (ls : List Level) (d n : ℕ) → takes_value ls ≡ false → value_step limits r ls d n ≡ failed Syntax
not_added limits r ls d n e = rw e refl

not_begun : (limits : Limits) (l : Level) (ls : List Level) (d n : ℕ) → takes_value ls ≡ false → begin_step limits l ls d n ≡ failed Syntax
not_begun limits l ls d n e = rw e refl

adds_not_from : (limits : Limits) (d n : ℕ) (r : Result Tree ReadErrorKind) (c : Container) (x : Option Ipld) (ls : List Level) → not (is_at_key (around c ls)) ≡ false
    → added limits (counted d n (state_from c x ls)) r ≡ failed Syntax
adds_not_from limits d n r container.Root x ls e = absurd cc
adds_not_from limits d n r (container.List l) x ls e = absurd cc
adds_not_from limits d n r (container.Map m) x ls e = not_added limits r (around (container.Map m) ls) d n (takes_not (around (container.Map m) ls) e)
adds_not_from limits d n r container.Closed x ls e = none_added limits d n r x

pub adds_not : (limits : Limits) (r : Result Tree ReadErrorKind) (b : TreeBuilder) → not (is_at_key (levels_of b)) ≡ false → added limits (state_of b) r ≡ failed Syntax
adds_not limits r b e = adds_not_from limits b.depth b.values r b.tree.innermost b.tree.tree (inside b.tree.outer.items []) e

begins_not_from : (limits : Limits) (d n : ℕ) (l : Level) (c : Container) (x : Option Ipld) (ls : List Level) → not (is_at_key (around c ls)) ≡ false
    → begun limits (counted d n (state_from c x ls)) l ≡ failed Syntax
begins_not_from limits d n l container.Root x ls e = absurd cc
begins_not_from limits d n l (container.List v) x ls e = absurd cc
begins_not_from limits d n l (container.Map m) x ls e = not_begun limits l (around (container.Map m) ls) d n (takes_not (around (container.Map m) ls) e)
begins_not_from limits d n l container.Closed x ls e = none_begun limits d n l x

pub begins_not : (limits : Limits) (b : TreeBuilder) → not (is_at_key (levels_of b)) ≡ false → (l : Level) → begun limits (state_of b) l ≡ failed Syntax
begins_not limits b e = λ l. begins_not_from limits b.depth b.values l b.tree.innermost b.tree.tree (inside b.tree.outer.items []) e

-- ---- a value is counted

few_added : (limits : Limits) (t : Tree) (ls : List Level) (d n : ℕ) → takes_value ls ≡ true → nat_lt n limits.values ≡ true → value_step limits (Ok t) ls d n ≡ completed t d (n + 1) ls
few_added limits t ls d n e few = rw (e, few) refl

module _ (limits : Limits) (old : TreeBuilder) (takes : not (is_at_key (levels_of old)) ≡ true) where
  pub adds : (mid : TreeBuilder) (t : Tree) (new : State) (r : Result (Unit {0}) ReadErrorKind) → Counted limits old mid → Reaches (completed t mid.depth mid.values (levels_of mid)) r new
      → Reaches (added limits (state_of old) (Ok t)) r new
  adds mid t new r counts h =
      reaches (added limits (state_of old) (Ok t)) (completed t mid.depth mid.values (levels_of mid)) new r
      (ap (λ s. added limits s (Ok t)) (goes old takes) ∙ few_added limits t (levels_of old) old.depth old.values (takes_there (levels_of old) takes) counts.within
      ∙ ap (λ d. completed t d (old.values + 1) (levels_of old)) (sym counts.depth) ∙ ap (λ n. completed t mid.depth n (levels_of old)) (sym counts.values)
      ∙ ap (λ b. completed t mid.depth mid.values (building.levels_of b)) (sym counts.tree)) h

  begins_at : (l : Level) (ls : List Level) (d n : ℕ) → takes_value ls ≡ true → nat_lt d limits.levels ≡ true → nat_lt n limits.values ≡ true → begin_step limits l ls d n ≡ going (l ∷ ls) (d + 1) (n + 1)
  begins_at l ls d n e flat few = rw (e, flat, few) refl

  deep_at : (l : Level) (ls : List Level) (d n : ℕ) → takes_value ls ≡ true → nat_lt d limits.levels ≡ false → begin_step limits l ls d n ≡ failed TooDeep
  deep_at l ls d n e deep = rw (e, deep) refl

  pub begins : (mid : TreeBuilder) → Counted limits old mid → nat_lt old.depth limits.levels ≡ true → (l : Level) → begun limits (state_of old) l ≡ going (l ∷ levels_of old) (mid.depth + 1) mid.values
  begins mid counts flat = λ l.
      ap (λ s. begun limits s l) (goes old takes) ∙ begins_at l (levels_of old) old.depth old.values (takes_there (levels_of old) takes) flat counts.within
      ∙ ap (λ d. going (l ∷ levels_of old) (d + 1) (old.values + 1)) (sym counts.depth) ∙ ap (λ n. going (l ∷ levels_of old) (mid.depth + 1) n) (sym counts.values)

  pub begins_deep : nat_lt old.depth limits.levels ≡ false → (l : Level) → begun limits (state_of old) l ≡ failed TooDeep
  begins_deep deep = λ l. ap (λ s. begun limits s l) (goes old takes) ∙ deep_at l (levels_of old) old.depth old.values (takes_there (levels_of old) takes) deep

-- it has begun
pub entered : (limits : Limits) (old mid : TreeBuilder) (l : Level) → MayBegin limits old (Ok tt) mid → begun limits (state_of old) l ≡ counted mid.depth mid.values (open_at (l ∷ levels_of mid))
entered limits old mid l may = may.1 l ∙ ap (λ b. going (l ∷ building.levels_of b) mid.depth mid.values) (sym may.0)

-- ---- a container ends

module _ (old mid new : TreeBuilder) (r : Result (Unit {0}) ReadErrorKind) (same : mid.values ≡ old.values) (outer : mid.depth ≡ old.depth - 1) where
  pub list_ends : (us : tree.Items) (t : Tree) → building.state_of old.tree ≡ open_at (in_list us ∷ levels_of mid) → t ≡ tree.list us
      → Reaches (completed t mid.depth mid.values (levels_of mid)) r (state_of new) → Reaches (list_ended (state_of old)) r (state_of new)
  list_ends us t e is h =
      reaches (list_ended (state_of old)) (completed t mid.depth mid.values (levels_of mid)) (state_of new) r
      (ap (λ s. list_ended (counted old.depth old.values s)) e ∙ ap (λ d. completed (tree.list us) d old.values (levels_of mid)) (sym outer)
      ∙ ap (λ n. completed (tree.list us) mid.depth n (levels_of mid)) (sym same) ∙ ap (λ x. completed x mid.depth mid.values (levels_of mid)) (sym is)) h

  pub map_ends : (ms : Members) → building.state_of old.tree ≡ open_at (in_key ms ∷ levels_of mid)
      → Reaches (completed_if (object_tree ms) mid.depth mid.values (levels_of mid)) r (state_of new) → Reaches (object_ended (state_of old)) r (state_of new)
  map_ends ms e h =
      reaches (object_ended (state_of old)) (completed_if (object_tree ms) mid.depth mid.values (levels_of mid)) (state_of new) r
      (ap (λ s. object_ended (counted old.depth old.values s)) e ∙ ap (λ d. completed_if (object_tree ms) d old.values (levels_of mid)) (sym outer)
      ∙ ap (λ n. completed_if (object_tree ms) mid.depth n (levels_of mid)) (sym same)) h

no_list_in : (ls : List Level) (d n : ℕ) → reading.is_in_list ls ≡ false → end_list_step ls d n ≡ failed Syntax
no_list_in [] d n e = refl
no_list_in (in_list ts ∷ ls) d n e = absurd cc
no_list_in (in_key ms ∷ ls) d n e = refl
no_list_in (in_value ms k ∷ ls) d n e = refl

no_map_in : (ls : List Level) (d n : ℕ) → is_at_key ls ≡ false → end_map_step ls d n ≡ failed Syntax
no_map_in [] d n e = refl
no_map_in (in_list ts ∷ ls) d n e = refl
no_map_in (in_key ms ∷ ls) d n e = absurd cc
no_map_in (in_value ms k ∷ ls) d n e = refl

no_list_from : (d n : ℕ) (c : Container) (x : Option Ipld) (ls : List Level) → in_a_list (state_from c x ls) ≡ false → list_ended (counted d n (state_from c x ls)) ≡ failed Syntax
no_list_from d n container.Root x ls e = refl
no_list_from d n (container.List l) x ls e = absurd cc
no_list_from d n (container.Map m) x ls e = no_list_in (map_level (members_of m.members.entries) m.key ∷ ls) d n e
no_list_from d n container.Closed x ls e = elim x as (λ y. list_ended (counted d n (ended y)) ≡ failed Syntax) [ None ↦ refl | Some v ↦ refl ]

pub no_list : (b : TreeBuilder) → in_a_list (building.state_of b.tree) ≡ false → list_ended (state_of b) ≡ failed Syntax
no_list b e = no_list_from b.depth b.values b.tree.innermost b.tree.tree (inside b.tree.outer.items []) e

no_map_from : (d n : ℕ) (c : Container) (x : Option Ipld) (ls : List Level) → at_key (state_from c x ls) ≡ false → object_ended (counted d n (state_from c x ls)) ≡ failed Syntax
no_map_from d n container.Root x ls e = refl
no_map_from d n (container.List l) x ls e = refl
no_map_from d n (container.Map m) x ls e = no_map_in (map_level (members_of m.members.entries) m.key ∷ ls) d n e
no_map_from d n container.Closed x ls e = elim x as (λ y. object_ended (counted d n (ended y)) ≡ failed Syntax) [ None ↦ refl | Some v ↦ refl ]

pub no_map : (b : TreeBuilder) → at_key (building.state_of b.tree) ≡ false → object_ended (state_of b) ≡ failed Syntax
no_map b e = no_map_from b.depth b.values b.tree.innermost b.tree.tree (inside b.tree.outer.items []) e

-- ---- a key comes

no_key_in : (k : List ℕ) (ls : List Level) (d n : ℕ) → is_at_key ls ≡ false → key_step k ls d n ≡ failed Syntax
no_key_in k [] d n e = refl
no_key_in k (in_list ts ∷ ls) d n e = refl
no_key_in k (in_key ms ∷ ls) d n e = absurd cc
no_key_in k (in_value ms q ∷ ls) d n e = refl

no_key_from : (d n : ℕ) (k : List ℕ) (c : Container) (x : Option Ipld) (ls : List Level) → at_key (state_from c x ls) ≡ false → key_at (counted d n (state_from c x ls)) k ≡ failed Syntax
no_key_from d n k container.Root x ls e = refl
no_key_from d n k (container.List l) x ls e = refl
no_key_from d n k (container.Map m) x ls e = no_key_in k (map_level (members_of m.members.entries) m.key ∷ ls) d n e
no_key_from d n k container.Closed x ls e = elim x as (λ y. key_at (counted d n (ended y)) k ≡ failed Syntax) [ None ↦ refl | Some v ↦ refl ]

pub no_key : (b : TreeBuilder) (k : List ℕ) → at_key (building.state_of b.tree) ≡ false → key_at (state_of b) k ≡ failed Syntax
no_key b k e = no_key_from b.depth b.values k b.tree.innermost b.tree.tree (inside b.tree.outer.items []) e

key_there_in : (k : List ℕ) (ls : List Level) (d n : ℕ) → is_at_key ls ≡ true → building.has_key_in k ls ≡ true → key_step k ls d n ≡ failed DuplicateKey
key_there_in k [] d n e there = absurd cc
key_there_in k (in_list ts ∷ ls) d n e there = absurd cc
key_there_in k (in_key ms ∷ ls) d n e there = rw there refl
key_there_in k (in_value ms q ∷ ls) d n e there = absurd cc

key_new_in : (k : List ℕ) (ls : List Level) (d n : ℕ) → is_at_key ls ≡ true → building.has_key_in k ls ≡ false → key_step k ls d n ≡ counted d n (key_kept k ls)
key_new_in k [] d n e there = absurd cc
key_new_in k (in_list ts ∷ ls) d n e there = absurd cc
key_new_in k (in_key ms ∷ ls) d n e there = rw there refl
key_new_in k (in_value ms q ∷ ls) d n e there = absurd cc

key_state : (s : ReadState) (d n : ℕ) (k : List ℕ) → at_key s ≡ true → has_open_key k s ≡ true → key_at (counted d n s) k ≡ failed DuplicateKey
key_state (open_at ls) d n k e there = key_there_in k ls d n e there
key_state (wanted ls) d n k e there = absurd cc
key_state (marked ls) d n k e there = absurd cc
key_state (reading.done t) d n k e there = absurd cc
key_state (rejected f) d n k e there = absurd cc

pub key_there : (b : TreeBuilder) (k : List ℕ) → at_key (building.state_of b.tree) ≡ true → has_open_key k (building.state_of b.tree) ≡ true → key_at (state_of b) k ≡ failed DuplicateKey
key_there b k e there = key_state (building.state_of b.tree) b.depth b.values k e there

key_kept_in : (s : ReadState) (d n : ℕ) (k : List ℕ) → at_key s ≡ true → has_open_key k s ≡ false → key_at (counted d n s) k ≡ counted d n (kept_at k s)
key_kept_in (open_at ls) d n k e there = key_new_in k ls d n e there
key_kept_in (wanted ls) d n k e there = absurd cc
key_kept_in (marked ls) d n k e there = absurd cc
key_kept_in (reading.done t) d n k e there = absurd cc
key_kept_in (rejected f) d n k e there = absurd cc

pub key_new : (b : TreeBuilder) (k : List ℕ) → at_key (building.state_of b.tree) ≡ true → has_open_key k (building.state_of b.tree) ≡ false
    → key_at (state_of b) k ≡ counted b.depth b.values (kept_at k (building.state_of b.tree))
key_new b k e there = key_kept_in (building.state_of b.tree) b.depth b.values k e there
