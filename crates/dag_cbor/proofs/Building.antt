-- What a tree builder comes to.
use Rattle.std.proofs.Common.{◌≡◌, ℕ, ℤ, Bool, true, false, not, List, [], ◌∷◌, Option, Some, None, Result, Ok, Err, Vec, BTreeMap, String, string_bytes, Global, refl, sym, ap, subst, ◌∙◌, rules}
use Rattle.std.specs.declared.alloc.AllocError.{AllocError}
use Rattle.ipld_cid.specs.Cid as cid
use Rattle.ipld_cid.specs.LinkOf.{link_of}
use Rattle.ipld_cid.specs.declared.cid.CidGeneric.{CidGeneric}
use Rattle.ipld_cid.specs.Bytes.{read_cid}
use Rattle.ipld_tree.specs.Tree.{Tree, Members, no_items, no_members}
use Rattle.ipld_tree.specs.Tree as tree
use Rattle.ipld_tree.specs.TreeOf.{tree_of, items_of, members_of}
use Rattle.ipld_tree.specs.declared.ipld.Ipld.{Ipld, Null, Bool as Ipld-Bool, Bytes, List as Ipld-List, Map as Ipld-Map, Link, the_lemmas}
use Rattle.ipld_tree.proofs.Trees.{tree_of-List, tree_of-Map, tree_of-Bytes}
use Rattle.ipld_tokens.proofs.TreeLevels.{tree_of-Link}
use Rattle.ipld_tokens.specs.LinkBytes.{read_link}
use Rattle.ipld_tokens.specs.Token.{none, boolean, integer, text, TokenModel, atom, bytes, link, seq, seq_end, map, map_end}
use Rattle.ipld_tokens.specs.ReadMachine as reading
use Rattle.ipld_tokens.specs.ReadMachine.{ReadState, Failure, open_at, wanted, marked, done, rejected, never, bad_token, in_list, in_key, in_value, completed, if_new, after_link, value_step, list_step, key_step, key_kept, step, start, is_at_key, PutsValue}
use Rattle.ipld_tokens.specs.OpenTree as building
use Rattle.ipld_tokens.specs.OpenTree.{map_level, around, ended, state_from, at_key, in_a_list, key_at, Builds}
use Rattle.ipld_tokens.specs.declared.open_tree.BuildError.{BuildError}
use Rattle.ipld_tokens.specs.declared.open_tree.BuildError.TheVariants.{Memory, Misplaced, DuplicateKey}
use Rattle.ipld_tokens.specs.declared.open_tree.Container.{Container}
use Rattle.ipld_tokens.specs.declared.open_tree.Container.TheVariants as container
use Rattle.dag_cbor_blocks.specs.Visit.{Takes}
use Rattle.dag_cbor.specs.Building.{levels_of, state_of, tree_after, tree_answer, settled, Reaches, Settles}
use Rattle.dag_cbor.specs.declared.tree.TreeBuilder.{TreeBuilder}

after_rejected : (failure : Failure) (ts : List TokenModel) → tree_after (rejected failure) ts ≡ None
after_rejected failure [] = refl
after_rejected failure (t ∷ ts) = after_rejected never ts

settled_after : (s : ReadState) (ts : List TokenModel) → tree_after (settled s) ts ≡ tree_after s ts
settled_after (open_at ls) ts = refl
settled_after (wanted ls) ts = refl
settled_after (marked ls) ts = refl
settled_after (done t) ts = refl
settled_after (rejected failure) ts = after_rejected never ts ∙ sym (after_rejected failure ts)

same_after : (s r : ReadState) → settled s ≡ settled r → (ts : List TokenModel) → tree_after r ts ≡ tree_after s ts
same_after s r e ts = sym (settled_after r ts) ∙ ap (λ x. tree_after x ts) (sym e) ∙ settled_after s ts

-- one token was taken
pub takes : (old new : TreeBuilder) (t : TokenModel) (r : Result (Unit {0}) AllocError) → Reaches (step (state_of old) t) r (state_of new) → Takes tree_answer old (t ∷ []) r new
takes old new t (Ok u) h = λ more. same_after (step (state_of old) t) (state_of new) h more
takes old new t (Err error) h = tt

-- two tokens were taken
pub takes_both : (old new : TreeBuilder) (t u : TokenModel) (r : Result (Unit {0}) AllocError) → Reaches (step (step (state_of old) t) u) r (state_of new)
    → Takes tree_answer old (t ∷ u ∷ []) r new
takes_both old new t u (Ok d) h = λ more. same_after (step (step (state_of old) t) u) (state_of new) h more
takes_both old new t u (Err error) h = tt

-- an equal state is reached
pub reaches : (s r new : ReadState) (result : Result (Unit {0}) AllocError) → settled s ≡ settled r → Reaches r result new → Reaches s result new
reaches s r new (Ok u) e h = e ∙ h
reaches s r new (Err error) e h = tt

-- what was built is settled
pub settles : (A : Type 0) (s old new : ReadState) (built : Result (Unit {0}) BuildError) (r : Result (Unit {0}) AllocError)
    → Builds A s old built → Settles old built r new → Reaches s r new
settles A s old new (Ok u) r b h = subst (λ x. Reaches s x new) (sym h.0) (ap settled (sym b ∙ sym h.1))
settles A s old new (Err Memory) (Ok u) b h = absurd cc
settles A s old new (Err Memory) (Err error) b h = tt
settles A s old new (Err Misplaced) r b h = subst (λ x. Reaches s x new) (sym h.0) (ap settled b ∙ sym (ap settled h.1))
settles A s old new (Err DuplicateKey) r b h = subst (λ x. Reaches s x new) (sym h.0) (ap settled b ∙ sym (ap settled h.1))

pub settles_integer : (n m : ℤ) → m ≡ n → (ls : List reading.Container) (old new : ReadState) (built : Result (Unit {0}) BuildError) (r : Result (Unit {0}) AllocError)
    → Builds (PutsValue ls) (completed (tree.integer m) ls) old built → Settles old built r new → Reaches (completed (tree.integer n) ls) r new
settles_integer n m e ls old new built r b s =
    subst (λ k. Reaches (completed (tree.integer k) ls) r new) e (settles (PutsValue ls) (completed (tree.integer m) ls) old new built r b s)

pub at_start : (s : ReadState) → s ≡ open_at [] → (ts : List TokenModel) → tree_after s ts ≡ tree_after start ts
at_start s e [] = ap (λ x. tree_after x []) e
at_start s e (t ∷ ts) = ap (λ x. tree_after x (t ∷ ts)) e

-- ---- a token that is a value, and no string

record IsValue (tok : TokenModel) (t : Tree) : Type 0 where
  value : (ls : List reading.Container) → value_step ls tok ≡ completed t ls
  item : (ts : tree.Items) (ls : List reading.Container) → list_step ts ls tok ≡ completed t (in_list ts ∷ ls)
  key : (ms : Members) (ls : List reading.Container) → key_step ms ls tok ≡ rejected bad_token

value_in_map : (tok : TokenModel) (t : Tree) → IsValue tok t → (ms : Members) (key : Option (String Global)) (ls : List reading.Container)
    → settled (step (open_at (map_level ms key ∷ ls)) tok) ≡ settled (completed t (map_level ms key ∷ ls))
value_in_map tok t is ms None ls = ap settled (is.key ms ls)
value_in_map tok t is ms (Some key) ls = ap settled (is.value (in_value ms (string_bytes key) ∷ ls))

after_end : (tok : TokenModel) (x : Option Ipld) → settled (step (ended x) tok) ≡ rejected never
after_end tok None = refl
after_end tok (Some v) = refl

value_there : (tok : TokenModel) (t : Tree) → IsValue tok t → (c : Container) (x : Option Ipld) (ls : List reading.Container)
    → settled (step (state_from c x ls) tok) ≡ settled (completed t (around c ls))
value_there tok t is container.Root x ls = ap settled (is.value [])
value_there tok t is (container.List l) x ls = ap settled (is.item (items_of l.items.items) ls)
value_there tok t is (container.Map m) x ls = value_in_map tok t is (members_of m.members.entries) m.key ls
value_there tok t is container.Closed x ls = after_end tok x

value_taken : (tok : TokenModel) (t x : Tree) → x ≡ t → IsValue tok t → (old new : TreeBuilder) (r : Result (Unit {0}) AllocError)
    → Reaches (completed x (levels_of old)) r (state_of new) → Takes tree_answer old (tok ∷ []) r new
value_taken tok t x e is old new r h =
    takes old new tok r
    (reaches (step (state_of old) tok) (completed x (levels_of old)) (state_of new) r
    (value_there tok t is old.tree.innermost old.tree.tree (building.inside old.tree.outer.items []) ∙ ap (λ y. settled (completed y (levels_of old))) (sym e)) h)

tree_of-Null : tree_of Null ≡ tree.null
tree_of-Null = search (rules, the_lemmas)

tree_of-Bool : (b : Bool) → tree_of (Ipld-Bool b) ≡ tree.boolean b
tree_of-Bool b = search (rules, the_lemmas)

module _ (old new : TreeBuilder) (r : Result (Unit {0}) AllocError) where
  pub takes_null : Reaches (completed (tree_of Null) (levels_of old)) r (state_of new) → Takes tree_answer old (atom none ∷ []) r new
  takes_null = value_taken (atom none) tree.null (tree_of Null) tree_of-Null (record { value = λ ls. refl; item = λ ts ls. refl; key = λ ms ls. refl }) old new r

  pub takes_bool : (b : Bool) → Reaches (completed (tree_of (Ipld-Bool b)) (levels_of old)) r (state_of new) → Takes tree_answer old (atom (boolean b) ∷ []) r new
  takes_bool b = value_taken (atom (boolean b)) (tree.boolean b) (tree_of (Ipld-Bool b)) (tree_of-Bool b) (record { value = λ ls. refl; item = λ ts ls. refl; key = λ ms ls. refl }) old new r

  pub takes_integer : (n m : ℤ) → m ≡ n → Reaches (completed (tree.integer m) (levels_of old)) r (state_of new) → Takes tree_answer old (atom (integer n) ∷ []) r new
  takes_integer n m e = value_taken (atom (integer n)) (tree.integer n) (tree.integer m) (ap tree.integer e) (record { value = λ ls. refl; item = λ ts ls. refl; key = λ ms ls. refl }) old new r

  pub takes_bytes : (v : Vec ℕ Global) (b : List ℕ) → v.items ≡ b → Reaches (completed (tree_of (Bytes v)) (levels_of old)) r (state_of new) → Takes tree_answer old (bytes b ∷ []) r new
  takes_bytes v b e = value_taken (bytes b) (tree.bytes b) (tree_of (Bytes v)) (tree_of-Bytes v ∙ ap tree.bytes e) (record { value = λ ls. refl; item = λ ts ls. refl; key = λ ms ls. refl }) old new r

-- ---- a string, which may be a key

text_in_map : (b : List ℕ) (ms : Members) (key : Option (String Global)) (ls : List reading.Container) → is_at_key (map_level ms key ∷ ls) ≡ false
    → settled (step (open_at (map_level ms key ∷ ls)) (atom (text b))) ≡ settled (completed (tree.text b) (map_level ms key ∷ ls))
text_in_map b ms None ls e = absurd cc
text_in_map b ms (Some key) ls e = refl

pub text_there : (b : List ℕ) (c : Container) (x : Option Ipld) (ls : List reading.Container) → at_key (state_from c x ls) ≡ false
    → settled (step (state_from c x ls) (atom (text b))) ≡ settled (completed (tree.text b) (around c ls))
text_there b container.Root x ls e = refl
text_there b (container.List l) x ls e = refl
text_there b (container.Map m) x ls e = text_in_map b (members_of m.members.entries) m.key ls e
text_there b container.Closed x ls e = after_end (atom (text b)) x

key_in_map : (b : List ℕ) (ms : Members) (key : Option (String Global)) (ls : List reading.Container) → is_at_key (map_level ms key ∷ ls) ≡ true
    → step (open_at (map_level ms key ∷ ls)) (atom (text b)) ≡ key_kept b (map_level ms key ∷ ls)
key_in_map b ms None ls e = refl
key_in_map b ms (Some key) ls e = absurd cc

key_ended : (b : List ℕ) (x : Option Ipld) → at_key (ended x) ≡ true → step (ended x) (atom (text b)) ≡ key_at b (ended x)
key_ended b None e = absurd cc
key_ended b (Some v) e = absurd cc

pub key_there : (b : List ℕ) (c : Container) (x : Option Ipld) (ls : List reading.Container) → at_key (state_from c x ls) ≡ true
    → step (state_from c x ls) (atom (text b)) ≡ key_at b (state_from c x ls)
key_there b container.Root x ls e = absurd cc
key_there b (container.List l) x ls e = absurd cc
key_there b (container.Map m) x ls e = key_in_map b (members_of m.members.entries) m.key ls e
key_there b container.Closed x ls e = key_ended b x e

takes_no_key : (ms : Members) (key : Option (String Global)) (ls : List reading.Container) → not (is_at_key (map_level ms key ∷ ls)) ≡ true → is_at_key (map_level ms key ∷ ls) ≡ false
takes_no_key ms None ls e = absurd cc
takes_no_key ms (Some key) ls e = refl

pub no_key : (c : Container) (x : Option Ipld) (ls : List reading.Container) → not (is_at_key (around c ls)) ≡ true → at_key (state_from c x ls) ≡ false
no_key container.Root x ls e = refl
no_key (container.List l) x ls e = refl
no_key (container.Map m) x ls e = takes_no_key (members_of m.members.entries) m.key ls e
no_key container.Closed x ls e = absurd cc

-- ---- a link

link_after : (b : List ℕ) (linked : cid.Link) → read_link 64 b ≡ Some linked → (ls : List reading.Container) → step (marked ls) (bytes b) ≡ completed (tree.link linked) ls
link_after b linked e ls = ap (λ o. after_link o (read_cid 64 b) ls) e

link_in_map : (b : List ℕ) (linked : cid.Link) → read_link 64 b ≡ Some linked → (ms : Members) (key : Option (String Global)) (ls : List reading.Container)
    → settled (step (step (open_at (map_level ms key ∷ ls)) link) (bytes b)) ≡ settled (completed (tree.link linked) (map_level ms key ∷ ls))
link_in_map b linked e ms None ls = refl
link_in_map b linked e ms (Some key) ls = ap settled (link_after b linked e (in_value ms (string_bytes key) ∷ ls))

link_ended : (b : List ℕ) (x : Option Ipld) → settled (step (step (ended x) link) (bytes b)) ≡ rejected never
link_ended b None = refl
link_ended b (Some v) = refl

link_there : (b : List ℕ) (linked : cid.Link) → read_link 64 b ≡ Some linked → (c : Container) (x : Option Ipld) (ls : List reading.Container)
    → settled (step (step (state_from c x ls) link) (bytes b)) ≡ settled (completed (tree.link linked) (around c ls))
link_there b linked e container.Root x ls = ap settled (link_after b linked e [])
link_there b linked e (container.List l) x ls = ap settled (link_after b linked e (in_list (items_of l.items.items) ∷ ls))
link_there b linked e (container.Map m) x ls = link_in_map b linked e (members_of m.members.entries) m.key ls
link_there b linked e container.Closed x ls = link_ended b x

pub takes_link : (old new : TreeBuilder) (r : Result (Unit {0}) AllocError) (b : List ℕ) (c : CidGeneric 64) → read_link 64 b ≡ Some (link_of c)
    → Reaches (completed (tree_of (Link c)) (levels_of old)) r (state_of new) → Takes tree_answer old (link ∷ bytes b ∷ []) r new
takes_link old new r b c e h =
    takes_both old new link (bytes b) r
    (reaches (step (step (state_of old) link) (bytes b)) (completed (tree_of (Link c)) (levels_of old)) (state_of new) r
    (link_there b (link_of c) e old.tree.innermost old.tree.tree (building.inside old.tree.outer.items []) ∙ ap (λ t. settled (completed t (levels_of old))) (tree_of-Link c)) h)

-- ---- a container begins

pub record Begins (l : reading.Container) (tok : TokenModel) : Type 0 where
  pub value : (ls : List reading.Container) → value_step ls tok ≡ open_at (l ∷ ls)
  pub item : (ts : tree.Items) (ls : List reading.Container) → list_step ts ls tok ≡ open_at (l ∷ in_list ts ∷ ls)
  pub key : (ms : Members) (ls : List reading.Container) → key_step ms ls tok ≡ rejected bad_token

begins_in_map : (l : reading.Container) (tok : TokenModel) → Begins l tok → (ms : Members) (key : Option (String Global)) (ls : List reading.Container)
    → not (is_at_key (map_level ms key ∷ ls)) ≡ true → step (open_at (map_level ms key ∷ ls)) tok ≡ open_at (l ∷ map_level ms key ∷ ls)
begins_in_map l tok is ms None ls e = absurd cc
begins_in_map l tok is ms (Some key) ls e = is.value (in_value ms (string_bytes key) ∷ ls)

begins_there : (l : reading.Container) (tok : TokenModel) → Begins l tok → (c : Container) (x : Option Ipld) (ls : List reading.Container)
    → not (is_at_key (around c ls)) ≡ true → step (state_from c x ls) tok ≡ open_at (l ∷ around c ls)
begins_there l tok is container.Root x ls e = is.value []
begins_there l tok is (container.List v) x ls e = is.item (items_of v.items.items) ls
begins_there l tok is (container.Map m) x ls e = begins_in_map l tok is (members_of m.members.entries) m.key ls e
begins_there l tok is container.Closed x ls e = absurd cc

begins_not_in_map : (l : reading.Container) (tok : TokenModel) → Begins l tok → (ms : Members) (key : Option (String Global)) (ls : List reading.Container)
    → not (is_at_key (map_level ms key ∷ ls)) ≡ false → settled (step (open_at (map_level ms key ∷ ls)) tok) ≡ rejected never
begins_not_in_map l tok is ms None ls e = ap settled (is.key ms ls)
begins_not_in_map l tok is ms (Some key) ls e = absurd cc

begins_not : (l : reading.Container) (tok : TokenModel) → Begins l tok → (c : Container) (x : Option Ipld) (ls : List reading.Container)
    → not (is_at_key (around c ls)) ≡ false → settled (step (state_from c x ls) tok) ≡ rejected never
begins_not l tok is container.Root x ls e = absurd cc
begins_not l tok is (container.List v) x ls e = absurd cc
begins_not l tok is (container.Map m) x ls e = begins_not_in_map l tok is (members_of m.members.entries) m.key ls e
begins_not l tok is container.Closed x ls e = after_end tok x

pub seq_begins : Begins (in_list no_items) seq
seq_begins = record { value = λ ls. refl; item = λ ts ls. refl; key = λ ms ls. refl }

pub map_begins : Begins (in_key no_members) map
map_begins = record { value = λ ls. refl; item = λ ts ls. refl; key = λ ms ls. refl }

module _ (l : reading.Container) (tok : TokenModel) (is : Begins l tok) (old new : TreeBuilder) where
  -- it begins
  pub begin_taken : (A : Type 0) (mid : ReadState) (built : Result (Unit {0}) BuildError) (r : Result (Unit {0}) AllocError) → not (is_at_key (levels_of old)) ≡ true
      → Builds A (open_at (l ∷ levels_of old)) mid built → Settles mid built r (state_of new) → Takes tree_answer old (tok ∷ []) r new
  begin_taken A mid built r e b s =
      takes old new tok r
      (reaches (step (state_of old) tok) (open_at (l ∷ levels_of old)) (state_of new) r
      (ap settled (begins_there l tok is old.tree.innermost old.tree.tree (building.inside old.tree.outer.items []) e)) (settles A (open_at (l ∷ levels_of old)) mid (state_of new) built r b s))

  -- it can't
  pub begin_missing : not (is_at_key (levels_of old)) ≡ false → state_of new ≡ rejected never → Takes tree_answer old (tok ∷ []) (Ok tt) new
  begin_missing e h = takes old new tok (Ok tt) (begins_not l tok is old.tree.innermost old.tree.tree (building.inside old.tree.outer.items []) e ∙ ap settled (sym h))

-- ---- a container ends

no_list_in : (ls : List reading.Container) → reading.is_in_list ls ≡ false → settled (step (open_at ls) seq_end) ≡ rejected never
no_list_in [] e = refl
no_list_in (in_list ts ∷ ls) e = absurd cc
no_list_in (in_key ms ∷ ls) e = refl
no_list_in (in_value ms k ∷ ls) e = refl

no_map_in : (ls : List reading.Container) → is_at_key ls ≡ false → settled (step (open_at ls) map_end) ≡ rejected never
no_map_in [] e = refl
no_map_in (in_list ts ∷ ls) e = refl
no_map_in (in_key ms ∷ ls) e = absurd cc
no_map_in (in_value ms k ∷ ls) e = refl

no_list_ends : (c : Container) (x : Option Ipld) (ls : List reading.Container) → in_a_list (state_from c x ls) ≡ false → settled (step (state_from c x ls) seq_end) ≡ rejected never
no_list_ends container.Root x ls e = refl
no_list_ends (container.List l) x ls e = absurd cc
no_list_ends (container.Map m) x ls e = no_list_in (map_level (members_of m.members.entries) m.key ∷ ls) e
no_list_ends container.Closed x ls e = after_end seq_end x

no_map_ends : (c : Container) (x : Option Ipld) (ls : List reading.Container) → at_key (state_from c x ls) ≡ false → settled (step (state_from c x ls) map_end) ≡ rejected never
no_map_ends container.Root x ls e = refl
no_map_ends (container.List l) x ls e = refl
no_map_ends (container.Map m) x ls e = no_map_in (map_level (members_of m.members.entries) m.key ∷ ls) e
no_map_ends container.Closed x ls e = after_end map_end x

module _ (old mid new : TreeBuilder) where
  pub list_taken : (v : Vec Ipld Global) (r : Result (Unit {0}) AllocError) → state_of old ≡ open_at (in_list (items_of v.items) ∷ levels_of mid)
      → Reaches (completed (tree_of (Ipld-List v)) (levels_of mid)) r (state_of new) → Takes tree_answer old (seq_end ∷ []) r new
  list_taken v r e h =
      takes old new seq_end r
      (reaches (step (state_of old) seq_end) (completed (tree_of (Ipld-List v)) (levels_of mid)) (state_of new) r
      (ap (λ s. settled (step s seq_end)) e ∙ ap (λ t. settled (completed t (levels_of mid))) (sym (tree_of-List v))) h)

  pub map_taken : (m : BTreeMap (String Global) Ipld) (r : Result (Unit {0}) AllocError) → state_of old ≡ open_at (in_key (members_of m.entries) ∷ levels_of mid)
      → Reaches (completed (tree_of (Ipld-Map m)) (levels_of mid)) r (state_of new) → Takes tree_answer old (map_end ∷ []) r new
  map_taken m r e h =
      takes old new map_end r
      (reaches (step (state_of old) map_end) (completed (tree_of (Ipld-Map m)) (levels_of mid)) (state_of new) r
      (ap (λ s. settled (step s map_end)) e ∙ ap (λ t. settled (completed t (levels_of mid))) (sym (tree_of-Map m))) h)

module _ (old new : TreeBuilder) (gone : state_of new ≡ rejected never) where
  pub list_missing : in_a_list (state_of old) ≡ false → Takes tree_answer old (seq_end ∷ []) (Ok tt) new
  list_missing e = takes old new seq_end (Ok tt) (no_list_ends old.tree.innermost old.tree.tree (building.inside old.tree.outer.items []) e ∙ ap settled (sym gone))

  pub map_missing : at_key (state_of old) ≡ false → Takes tree_answer old (map_end ∷ []) (Ok tt) new
  map_missing e = takes old new map_end (Ok tt) (no_map_ends old.tree.innermost old.tree.tree (building.inside old.tree.outer.items []) e ∙ ap settled (sym gone))
