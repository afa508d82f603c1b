-- A tree that is being built.
use Rattle.std.proofs.Common.{◌≡◌, ◌+◌, ◌++◌, ◌||◌, ◌&&◌, cond, ℕ, suc, length, arith, Bool, true, false, List, [], ◌∷◌, Option, Some, None, is_some, Result, Ok, Err, String, string_bytes, Global, BTreeMap, string_cmp, ℤ, refl, sym, ap, subst, ◌∙◌}
use Rattle.std.specs.Prelude.{MatchResult}
use Rattle.std.specs.List.{list_all}
use Rattle.std.specs.Map.{lookup}
use Rattle.std.specs.Ordering.{is_eq, nat_cmp}
use Rattle.std.specs.Cmp.Lexicographic.{slice_cmp}
use Rattle.std.proofs.lemmas.Map.Text.{is_eq-slice_cmp}
use Rattle.std.specs.BTreeMap.{is_at, insert_entry}
use Rattle.ipld_tree.specs.Tree.{Tree, Members}
use Rattle.ipld_tree.specs.Tree as tree
use Rattle.ipld_tree.specs.TreeOf.{tree_of, items_of, members_of}
use Rattle.ipld_tree.specs.Put.{put}
use Rattle.ipld_tree.specs.declared.ipld.Ipld.{Ipld, Integer}
use Rattle.ipld_tree.proofs.Trees.{tree_of-Integer}
use Rattle.ipld_tree.proofs.Entries.{members_of-insert_entry}
use Rattle.ipld_tokens.specs.ItemTree.{has_key}
use Rattle.ipld_tokens.specs.ReadMachine as reading
use Rattle.ipld_tokens.specs.ReadMachine.{ReadState, open_at, done, rejected, never, repeated_key, in_list, in_key, in_value, completed, if_new, is_at_key, is_in_list, PutsInto, PutsValue}
use Rattle.ipld_tokens.specs.Containers.{can_surround, root_is_alone, IsOpen, Pushes}
use Rattle.ipld_tokens.specs.OpenTree.{has_key_in, at_key, in_a_list, ended, map_level, level_of, around, inside, state_from, Builds, Grows}
use Rattle.ipld_tokens.specs.declared.open_tree.BuildError.{BuildError}
use Rattle.ipld_tokens.specs.declared.open_tree.BuildError.TheVariants as error
use Rattle.ipld_tokens.specs.declared.open_tree.OpenList.{OpenList}
use Rattle.ipld_tokens.specs.declared.open_tree.OpenMap.{OpenMap}
use Rattle.ipld_tokens.specs.declared.open_tree.Container.{Container}
use Rattle.ipld_tokens.specs.declared.open_tree.Container.TheVariants as container
use Rattle.ipld_tokens.proofs.TreeLevels.{items-append, has_of}

-- ---- what a list and a map hold

pub pushed_on : (old new : List Ipld) (v : Ipld) (r : Result (Unit {0}) BuildError) (ls : List reading.Container) → Pushes old v r new
    → Builds (Unit {0}) (completed (tree_of v) (in_list (items_of old) ∷ ls)) (open_at (in_list (items_of new) ∷ ls)) r
pushed_on old new v (Ok u) ls e = ap (λ us. open_at (in_list us ∷ ls)) (ap items_of e ∙ items-append old v)
pushed_on old new v (Err error.Memory) ls e = tt
pushed_on old new v (Err error.Misplaced) ls e = absurd cc
pushed_on old new v (Err error.DuplicateKey) ls e = absurd cc

module _ (es : List (String Global × Ipld)) (k : String Global) (key : Option (String Global)) (v : Ipld) (waits : key ≡ Some k) where
  pub put_under : (new : List (String Global × Ipld)) (left : Option (String Global)) → left ≡ None → lookup (is_at (string_cmp k)) es ≡ None → new ≡ insert_entry string_cmp es k v
      → (ls : List reading.Container) → open_at (map_level (members_of new) left ∷ ls) ≡ completed (tree_of v) (map_level (members_of es) key ∷ ls)
  put_under new left gone fresh put_is ls =
      sym (ap (λ o. completed (tree_of v) (map_level (members_of es) o ∷ ls)) waits
      ∙ ap (λ b. if_new b (open_at (in_key (put (string_bytes k) (tree_of v) (members_of es)) ∷ ls))) (has_of k es ∙ ap is_some fresh)
      ∙ ap (λ ms. open_at (in_key ms ∷ ls)) (sym (members_of-insert_entry es k v) ∙ ap members_of (sym put_is))
      ∙ ap (λ o. open_at (map_level (members_of new) o ∷ ls)) (sym gone))

  pub has_already : (earlier : Ipld) → lookup (is_at (string_cmp k)) es ≡ Some earlier
      → (ls : List reading.Container) → completed (tree_of v) (map_level (members_of es) key ∷ ls) ≡ rejected repeated_key
  has_already earlier found ls =
      ap (λ o. completed (tree_of v) (map_level (members_of es) o ∷ ls)) waits
      ∙ ap (λ b. if_new b (open_at (in_key (put (string_bytes k) (tree_of v) (members_of es)) ∷ ls))) (has_of k es ∙ ap is_some found)

  pub is_absent : lookup (is_at (string_cmp k)) es ≡ None → PutsInto (map_level (members_of es) key)
  is_absent fresh = subst (λ o. PutsInto (map_level (members_of es) o)) (sym waits) (has_of k es ∙ ap is_some fresh)

-- ---- a value is put into what is innermost

pub into_list : (c : Container) (l : OpenList) (ls : List reading.Container) (v : Ipld) (new : List Ipld) (r : Result (Unit {0}) BuildError) → c ≡ container.List l
    → Pushes l.items.items v r new → Builds (PutsValue (around c ls)) (completed (tree_of v) (around c ls)) (open_at (in_list (items_of new) ∷ ls)) r
into_list c l ls v new r is h =
    subst (λ x. Builds (PutsValue (around x ls)) (completed (tree_of v) (around x ls)) (open_at (in_list (items_of new) ∷ ls)) r) (sym is) (pushed_on l.items.items new v r ls h)

pub into_map : (c : Container) (m new : OpenMap) (ls : List reading.Container) (t : Tree) (r : Result (Unit {0}) BuildError) → c ≡ container.Map m
    → Grows (level_of m) t (level_of new) r → Builds (PutsValue (around c ls)) (completed t (around c ls)) (open_at (level_of new ∷ ls)) r
into_map c m new ls t r is h = subst (λ x. Builds (PutsValue (around x ls)) (completed t (around x ls)) (open_at (level_of new ∷ ls)) r) (sym is) (h ls)

pub integer_into_list : (c : Container) (l : OpenList) (ls : List reading.Container) (n m : ℤ) (new : List Ipld) → c ≡ container.List l → m ≡ n → new ≡ l.items.items ++ Integer m ∷ []
    → open_at (in_list (items_of new) ∷ ls) ≡ completed (tree.integer n) (around c ls)
integer_into_list c l ls n m new is e h =
    ap (λ us. open_at (in_list us ∷ ls)) (ap items_of h ∙ items-append l.items.items (Integer m)) ∙ ap (λ t. completed t (around (container.List l) ls)) (tree_of-Integer m ∙ ap tree.integer e)
    ∙ ap (λ x. completed (tree.integer n) (around x ls)) (sym is)

pub as_integer : (n m : ℤ) → m ≡ n → (ls : List reading.Container) (new : ReadState) (r : Result (Unit {0}) BuildError) → Builds (PutsValue ls) (completed (tree_of (Integer m)) ls) new r
    → Builds (PutsValue ls) (completed (tree.integer n) ls) new r
as_integer n m e ls new r h = subst (λ t. Builds (PutsValue ls) (completed t ls) new r) (tree_of-Integer m ∙ ap tree.integer e) h

-- ---- where a container is entered and left

inside-append : (cs : List Container) (c : Container) (ls : List reading.Container) → inside (cs ++ c ∷ []) ls ≡ around c (inside cs ls)
inside-append [] c ls = refl
inside-append (x ∷ cs) c ls = inside-append cs c (around x ls)

pub opened : (c : Container) → IsOpen c → (x : Option Ipld) (ls : List reading.Container) → state_from c x ls ≡ open_at (around c ls)
opened container.Root h x ls = absurd h
opened (container.List l) h x ls = refl
opened (container.Map m) h x ls = refl
opened container.Closed h x ls = absurd h

-- what is entered has these around it
pub entered : (c b : Container) (x : Option Ipld) (old new : List Container) → IsOpen c → new ≡ old ++ b ∷ [] → state_from c x (inside new []) ≡ open_at (around c (around b (inside old [])))
entered c b x old new is e = opened c is x (inside new []) ∙ ap (λ ls. open_at (around c ls)) (ap (λ cs. inside cs []) e ∙ inside-append old b [])

pub levels_around : (c : Container) (all front : List Container) → all ≡ front ++ c ∷ [] → around c (inside front []) ≡ inside all []
levels_around c all front e = sym (ap (λ cs. inside cs []) e ∙ inside-append front c [])

-- ---- what isn't innermost

no_list_level : (ms : Members) (key : Option (String Global)) (ls : List reading.Container) → is_in_list (map_level ms key ∷ ls) ≡ false
no_list_level ms None ls = refl
no_list_level ms (Some k) ls = refl

pub no_list : (c : Container) (x : Option Ipld) (ls : List reading.Container) → ((l : OpenList) → c ≡ container.List l → ⊥) → in_a_list (state_from c x ls) ≡ false
no_list container.Root x ls other = refl
no_list (container.List l) x ls other = absurd (other l refl)
no_list (container.Map m) x ls other = no_list_level (members_of m.members.entries) m.key ls
no_list container.Closed x ls other = elim x as (λ y. in_a_list (ended y) ≡ false) [ None ↦ refl | Some v ↦ refl ]

pub no_map : (c : Container) (x : Option Ipld) (ls : List reading.Container) → ((m : OpenMap) → c ≡ container.Map m → ⊥) → at_key (state_from c x ls) ≡ false
no_map container.Root x ls other = refl
no_map (container.List l) x ls other = refl
no_map (container.Map m) x ls other = absurd (other m refl)
no_map container.Closed x ls other = elim x as (λ y. at_key (ended y) ≡ false) [ None ↦ refl | Some v ↦ refl ]

same_key : (l : reading.Container) (ls : List reading.Container) → is_at_key (l ∷ ls) ≡ is_at_key (l ∷ [])
same_key (in_list ts) ls = refl
same_key (in_key ms) ls = refl
same_key (in_value ms key) ls = refl

-- a map ends
pub map_ends : (c : Container) (m : OpenMap) (x : Option Ipld) (ls new : List reading.Container) (r : Result (BTreeMap (String Global) Ipld) BuildError) → c ≡ container.Map m → new ≡ ls
    → MatchResult r (λ ms. level_of m ≡ in_key (members_of ms.entries)) (λ e. (e ≡ error.Misplaced) × (is_at_key (level_of m ∷ []) ≡ false))
    → MatchResult r (λ ms. state_from c x ls ≡ open_at (in_key (members_of ms.entries) ∷ new)) (λ e. (e ≡ error.Misplaced) × (at_key (state_from c x ls) ≡ false))
map_ends c m x ls new (Ok ms) is e h = ap (λ y. state_from y x ls) is ∙ ap (λ l. open_at (l ∷ ls)) h ∙ ap (λ k. open_at (in_key (members_of ms.entries) ∷ k)) (sym e)
map_ends c m x ls new (Err b) is e h = (h.0, ap (λ y. at_key (state_from y x ls)) is ∙ same_key (level_of m) ls ∙ h.1)

-- ---- keys

some_or : (b : Bool) (v : Ipld) (o : Option Ipld) → is_some (cond b (Some v) o) ≡ (b || is_some o)
some_or true v o = refl
some_or false v o = refl

pub has_text : (k : List ℕ) (es : List (String Global × Ipld)) → has_key k (members_of es) ≡ is_some (lookup (is_at (λ q. slice_cmp nat_cmp k (string_bytes q))) es)
has_text k [] = refl
has_text k (e ∷ es) =
    rw (has_text k es, ← is_eq-slice_cmp k (string_bytes e.0)) (sym (some_or (is_eq (slice_cmp nat_cmp k (string_bytes e.0))) e.1 _))

pub has_text_in : (k : List ℕ) (ms : Members) (key : Option (String Global)) (ls : List reading.Container) → has_key_in k (map_level ms key ∷ ls) ≡ has_key k ms
has_text_in k ms None ls = refl
has_text_in k ms (Some q) ls = refl

-- ---- how many containers are open

around_length : (c : Container) (ls : List reading.Container) → can_surround c ≡ true → length (around c ls) ≡ suc (length ls)
around_length container.Root ls h = absurd cc
around_length (container.List l) ls h = refl
around_length (container.Map m) ls h = refl
around_length container.Closed ls h = refl

first : (a b : Bool) → (a && b) ≡ true → a ≡ true
first true b e = refl
first false b e = e

second : (a b : Bool) → (a && b) ≡ true → b ≡ true
second true b e = e
second false b e = absurd cc

inside_length : (cs : List Container) (ls : List reading.Container) → list_all can_surround cs ≡ true → length (inside cs ls) ≡ length cs + length ls
inside_length [] ls all = omega arith
inside_length (c ∷ cs) ls all =
    let rest = inside_length cs (around c ls) (second (can_surround c) (list_all can_surround cs) all) in
    let one = around_length c ls (first (can_surround c) (list_all can_surround cs) all) in
    omega (arith, rest, one)

pub no_root : (c : Container) → (c ≡ container.Root → ⊥) → can_surround c ≡ true
no_root container.Root other = absurd (other refl)
no_root (container.List l) other = refl
no_root (container.Map m) other = refl
no_root container.Closed other = refl

pub root_depth : (c : Container) (outer : List Container) → c ≡ container.Root → root_is_alone c outer ≡ true → 0 ≡ length (around c (inside outer []))
root_depth container.Root [] is alone = refl
root_depth container.Root (o ∷ outer) is alone = absurd cc
root_depth (container.List l) outer is alone = absurd cc
root_depth (container.Map m) outer is alone = absurd cc
root_depth container.Closed outer is alone = absurd cc

pub open_depth : (c : Container) (outer : List Container) → (c ≡ container.Root → ⊥) → list_all can_surround outer ≡ true → length outer + 1 ≡ length (around c (inside outer []))
open_depth c outer other nested =
    let rest = inside_length outer [] nested in
    let one = around_length c (inside outer []) (no_root c other) in
    omega (arith, rest, one)
