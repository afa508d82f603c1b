-- What lists and maps that are open take, and the state of a reader that has them open.
use Rattle.std.proofs.Common.{◌≡◌, List, [], ◌∷◌, ◌++◌, ◌||◌, Bool, true, false, Option, Some, None, is_some, Result, Global, String, string_bytes, string_cmp, refl, sym, ap, subst, rules, cond}
use Rattle.std.specs.Ordering.{is_eq, nat_cmp}
use Rattle.std.specs.Cmp.Lexicographic.{slice_cmp}
use Rattle.std.specs.Map.{lookup}
use Rattle.std.specs.BTreeMap.{is_at}
use Rattle.std.proofs.lemmas.Map.Text.{is_eq-slice_cmp}
use Rattle.ipld_cid.specs.LinkOf.{link_of}
use Rattle.ipld_cid.specs.declared.cid.CidGeneric.{CidGeneric}
use Rattle.ipld_tree.specs.Tree.{item}
use Rattle.ipld_tree.specs.Tree as tree
use Rattle.ipld_tree.specs.TreeOf.{tree_of, items_of, members_of}
use Rattle.ipld_tree.specs.declared.ipld.Ipld.{Ipld, Link, the_lemmas}
use Rattle.ipld_tokens.specs.ItemTree.{has_key}
use Rattle.ipld_tokens.specs.Token.{TokenModel}
use Rattle.ipld_tokens.specs.ConsumerMachine.{Takes}
use Rattle.ipld_tokens.specs.ReadMachine as reading
use Rattle.ipld_tokens.specs.ReadMachine.{ReadState, open_at, open_step, step, and_item, AllocatesOpen, IsGoing}
use Rattle.ipld_tokens.specs.OpenTree.{around, state_from}
use Rattle.ipld_tokens.specs.ReaderSteps.{Follows, Rejects}
use Rattle.ipld_tokens.specs.ReaderState.{expecting}
use Rattle.ipld_tokens.specs.declared.consumer.Rejection.{Rejection}
use Rattle.ipld_tokens.specs.declared.tree_reader.Expected.{Expected}
use Rattle.ipld_tokens.specs.declared.tree_reader.Expected.TheVariants.{Any, Value, LinkBytes}
use Rattle.ipld_tokens.specs.declared.open_tree.Container.{Container}
use Rattle.ipld_tokens.specs.declared.open_tree.Container.TheVariants as container

pub items-append : (xs : List Ipld) (x : Ipld) → items_of (xs ++ x ∷ []) ≡ and_item (items_of xs) (tree_of x)
items-append [] x = refl
items-append (y ∷ xs) x = ap (item (tree_of y)) (items-append xs x)

some_or : (b : Bool) (v : Ipld) (o : Option Ipld) → is_some (cond b (Some v) o) ≡ (b || is_some o)
some_or true v o = refl
some_or false v o = refl

pub has_of : (k : String Global) (es : List (String Global × Ipld)) → has_key (string_bytes k) (members_of es) ≡ is_some (lookup (is_at (string_cmp k)) es)
has_of k [] = refl
has_of k (e ∷ es) =
    rw (has_of k es, ← is_eq-slice_cmp (string_bytes k) (string_bytes e.0)) (sym (some_or (is_eq (slice_cmp nat_cmp (string_bytes k) (string_bytes e.0))) e.1 _))

pub tree_of-Link : (c : CidGeneric 64) → tree.link (link_of c) ≡ tree_of (Link c)
tree_of-Link c = search (rules, the_lemmas)

-- ---- a reader of trees

open_levels : (x : Expected) (c : Container) (tree : Option Ipld) (ls : List reading.Container) → x ≡ Any → IsGoing (expecting x (state_from c tree ls) (around c ls))
    → expecting x (state_from c tree ls) (around c ls) ≡ open_at (around c ls)
open_levels Any container.Root tree ls e g = refl
open_levels Any (container.List l) tree ls e g = refl
open_levels Any (container.Map m) tree ls e g = refl
open_levels Any container.Closed None ls e g = absurd g
open_levels Any container.Closed (Some v) ls e g = absurd g
open_levels Value c tree ls e g = absurd cc
open_levels LinkBytes c tree ls e g = absurd cc

-- where it goes on, and the tree says what comes next, that takes the token
pub takes_open : {A : Type 0} (x : Expected) (c : Container) (tree : Option Ipld) (ls : List reading.Container) (t : TokenModel) (after : ReadState) (r : Result A Rejection) → x ≡ Any
    → IsGoing (expecting x (state_from c tree ls) (around c ls)) → Follows (AllocatesOpen (around c ls) t) (open_step (around c ls) t) after r
    → Takes step Rejects (expecting x (state_from c tree ls) (around c ls)) t after r
takes_open x c tree ls t after r e g h = subst (λ s. Takes step Rejects s t after r) (sym (open_levels x c tree ls e g)) h
