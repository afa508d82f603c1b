-- What is counted while a tree's tokens come is what the tree has.
use Rattle.std.proofs.Common.{◌≡◌, ◌≤◌, ℕ, suc, ◌+◌, max, Bool, true, false, ◌||◌, List, [], ◌∷◌, ◌++◌, length, Option, Some, None, option_map, Ordering, Less, Equal, Greater, nat_cmp, refl, sym, ap, subst, ◌∙◌, length-append, arith}
use Rattle.std.specs.Prelude.{◌^◌, pos, nat_lt, if◌then◌else◌, encode_utf8, Result, Ok, Err}
use Rattle.std.specs.Ordering.{is_eq, match_ordering}
use Rattle.std.proofs.lemmas.Map.Text.{is_eq-slice_cmp}
use Rattle.std.specs.Cmp.Lexicographic.{slice_cmp}
use Rattle.std.specs.Str.{bytes_eq}
use Rattle.ipld_cid.specs.declared.error.CidError.{CidError}
use Rattle.ipld_cid.specs.Cid.{Link}
use Rattle.ipld_tree.specs.Tree.{Tree, Items, no_items, item, Members, no_members, member}
use Rattle.ipld_tree.specs.Tree as tree
use Rattle.ipld_tree.specs.Put.{put}
use Rattle.ipld_tree.specs.Walk.{preorder, items_preorder, members_preorder, nest, items_nest, members_nest}
use Rattle.ipld_tree.specs.Limits.{Within}
use Rattle.ipld_tree.specs.declared.limits.Limits.{Limits}
use Rattle.ipld_tokens.specs.ItemTree.{tree_of_atom, has_key}
use Rattle.ipld_tokens.specs.LinkBytes.{read_link}
use Rattle.ipld_cid.specs.Bytes.{read_cid}
use Rattle.ipld_tokens.specs.Token.{Atom, TokenModel, atom, bytes, some, variant, link, seq, seq_end, map, map_end}
use Rattle.ipld_tokens.specs.ReadMachine.{Container, in_list, in_key, in_value, Failure, never, ReadState, open_at, wanted, marked, done, rejected, and_item, if_new, completed, completed_if, atom_key, after_key, after_link, value_step, list_step, key_step, link_step, step, run, held}
use Rattle.ipld_tokens.specs.Token as token
use Rattle.ipld_tokens.specs.ReadMachine as reading
use Rattle.std.proofs.lemmas.Bool.{le-ltb, ltb-false}
use Rattle.dag_cbor_format.specs.Trace.{Event, tokens_in}
use Rattle.dag_cbor_blocks.specs.Counting.{OpenKind, Counts, counts, start, at_key, after_atom, outside, next, Excess, too_deep, too_many, beyond, earlier, excess, Passed, passed_at, passed}
use Rattle.dag_cbor_blocks.specs.Counting as kind

-- ---- what a put adds

abbrev pub size : Tree → ℕ
size t = length (preorder t)

same_key : (key k : List ℕ) → slice_cmp nat_cmp key k ≡ Equal → bytes_eq key k ≡ true
same_key key k e = sym (is_eq-slice_cmp key k) ∙ ap is_eq e

or_no : (a b : Bool) → (a || b) ≡ false → (a ≡ false) × (b ≡ false)
or_no true b e = absurd cc
or_no false b e = (refl, e)

-- a tree more than these members
pub record Added (t : Tree) (before after : Members) : Type 0 where
  pub values : length (members_preorder after) ≡ size t + length (members_preorder before)
  pub levels : members_nest after ≡ max (nest t) (members_nest before)

put_step : (key k : List ℕ) (t u : Tree) (ms : Members) (o : Ordering) → slice_cmp nat_cmp key k ≡ o → bytes_eq key k ≡ false → Added t ms (put key t ms)
    → Added t (member k u ms) (match_ordering o (member key t (member k u ms)) (member k t ms) (member k u (put key t ms)))
put_step key k t u ms Less e new h = record { values = length-append (preorder t) (preorder u ++ members_preorder ms); levels = refl }
put_step key k t u ms Equal e new h = absurd (let same = same_key key k e in cc)
put_step key k t u ms Greater e new h = record {
  values = omega (arith, h.values, length-append (preorder u) (members_preorder (put key t ms)), length-append (preorder u) (members_preorder ms));
  levels = omega (arith, h.levels);
}

pub put_added : (key : List ℕ) (t : Tree) (ms : Members) → has_key key ms ≡ false → Added t ms (put key t ms)
put_added key t no_members e = record { values = length-append (preorder t) []; levels = refl }
put_added key t (member k u ms) e =
    let parts = or_no (bytes_eq key k) (has_key key ms) e in
    put_step key k t u ms (slice_cmp nat_cmp key k) refl parts.0 (put_added key t ms parts.1)

items_size : (ts : Items) (t : Tree) → length (items_preorder (and_item ts t)) ≡ length (items_preorder ts) + size t
items_size no_items t = omega (arith, length-append (preorder t) [])
items_size (item u us) t =
    omega (arith, items_size us t, length-append (preorder u) (items_preorder us), length-append (preorder u) (items_preorder (and_item us t)))

items_deep : (ts : Items) (t : Tree) → items_nest (and_item ts t) ≡ max (items_nest ts) (nest t)
items_deep no_items t = omega arith
items_deep (item u us) t = omega (arith, items_deep us t)

-- ---- what a state of the machine that reads a tree has counted

abbrev pub kind_of : Container → OpenKind
kind_of (in_list ts) = kind.in_list
kind_of (in_key ms) = kind.in_map
kind_of (in_value ms key) = kind.in_map

abbrev pub opens : List Container → List OpenKind
opens [] = []
opens (l ∷ ls) = kind_of l ∷ opens ls

abbrev pub values_in : List Container → ℕ
values_in [] = 0
values_in (l ∷ ls) = size (held l) + values_in ls

-- how deep what is open nests, with what it holds
abbrev pub deep : List Container → ℕ
deep [] = 0
deep (l ∷ ls) = max (length ls + nest (held l)) (deep ls)

abbrev pub key_waits : List Container → Bool
key_waits [] = false
key_waits (in_list ts ∷ ls) = false
key_waits (in_key ms ∷ ls) = false
key_waits (in_value ms key ∷ ls) = true

abbrev pub counted : ReadState → Counts
counted (open_at ls) = counts (opens ls) (key_waits ls) (values_in ls)
counted (wanted ls) = counts (opens ls) true (values_in ls)
counted (marked ls) = counts (opens ls) true (values_in ls)
counted (done t) = counts [] false (size t)
counted (rejected f) = start

abbrev pub deepest : ReadState → ℕ
deepest (open_at ls) = deep ls
deepest (wanted ls) = deep ls
deepest (marked ls) = deep ls
deepest (done t) = nest t
deepest (rejected f) = 0

abbrev pub IsTaken : ReadState → Type 0
IsTaken (rejected f) = ⊥
IsTaken s = Unit {0}

-- it has counted this, and is as deep as before or as deep as what is open now
pub record Counted (before : ℕ) (c : Counts) (s : ReadState) : Type 0 where
  pub same : counted s ≡ c
  pub depth : deepest s ≡ max before (length c.kinds)

opens_length : (ls : List Container) → length (opens ls) ≡ length ls
opens_length [] = refl
opens_length (l ∷ ls) = ap suc (opens_length ls)

held_nest : (l : Container) → 1 ≤ nest (held l)
held_nest (in_list ts) = omega arith
held_nest (in_key ms) = omega arith
held_nest (in_value ms key) = omega arith

deep_enough : (ls : List Container) → length ls ≤ deep ls
deep_enough [] = omega arith
deep_enough (l ∷ ls) = omega (arith, held_nest l)

same_values : (kinds : List OpenKind) (due : Bool) (n m : ℕ) → n ≡ m → counts kinds due n ≡ counts kinds due m
same_values kinds due n m e = ap (counts kinds due) e

-- a tree is complete
record Complete (t : Tree) (ls : List Container) (s : ReadState) : Type 0 where
  pub same : counted s ≡ counts (opens ls) false (values_in ls + size t)
  depth : deepest s ≡ max (length ls + nest t) (deep ls)

put_complete : (t : Tree) (ms : Members) (key : List ℕ) (ls : List Container) (b : Bool) → has_key key ms ≡ b → IsTaken (if_new b (open_at (in_key (put key t ms) ∷ ls)))
    → Complete t (in_value ms key ∷ ls) (if_new b (open_at (in_key (put key t ms) ∷ ls)))
put_complete t ms key ls true e taken = absurd taken
put_complete t ms key ls false e taken =
    let added = put_added key t ms e in
    record {
      same = same_values _ _ _ _ (omega (arith, added.values));
      depth = omega (arith, added.levels);
    }

complete : (t : Tree) (ls : List Container) → IsTaken (completed t ls) → Complete t ls (completed t ls)
complete t [] taken = record { same = same_values _ _ _ _ (omega arith); depth = omega arith }
complete t (in_list ts ∷ ls) taken = record {
  same = same_values _ _ _ _ (omega (arith, items_size ts t));
  depth = omega (arith, items_deep ts t);
}
complete t (in_key ms ∷ ls) taken = absurd taken
complete t (in_value ms key ∷ ls) taken = put_complete t ms key ls (has_key key ms) refl taken

-- a scalar is
scalar_counted : (t : Tree) (ls : List Container) → size t ≡ 1 → nest t ≡ 0 → IsTaken (completed t ls) → Counted (deep ls) (counts (opens ls) false (values_in ls + 1)) (completed t ls)
scalar_counted t ls one flat taken =
    let all = complete t ls taken in
    record {
      same = all.same ∙ same_values _ _ _ _ (omega (arith, one));
      depth = omega (arith, all.depth, flat, opens_length ls);
    }

-- what is open has ended
ended : (l : Container) (ls : List Container) → IsTaken (completed (held l) ls)
    → Counted (deep (l ∷ ls)) (counts (opens ls) false (values_in (l ∷ ls))) (completed (held l) ls)
ended l ls taken =
    let all = complete (held l) ls taken in
    record {
      same = all.same ∙ same_values _ _ _ _ (omega arith);
      depth = omega (arith, all.depth, opens_length ls);
    }

-- the tree of an atom holds no other
flat : (u t : Tree) → Some u ≡ Some t → size u ≡ 1 → nest u ≡ 0 → (size t ≡ 1) × (nest t ≡ 0)
flat u t e one none = let same : u ≡ t = cc in (sym (ap size same) ∙ one, sym (ap nest same) ∙ none)

flat_if : (b : Bool) (u t : Tree) → (if b then Some u else None) ≡ Some t → size u ≡ 1 → nest u ≡ 0 → (size t ≡ 1) × (nest t ≡ 0)
flat_if true u t e one none = flat u t e one none
flat_if false u t e one none = absurd (cc e)

atom_flat : (a : Atom) (t : Tree) → tree_of_atom a ≡ Some t → (size t ≡ 1) × (nest t ≡ 0)
atom_flat token.none t e = flat tree.null t e refl refl
atom_flat token.unit t e = flat tree.null t e refl refl
atom_flat token.unit_struct t e = flat tree.null t e refl refl
atom_flat (token.boolean b) t e = flat (tree.boolean b) t e refl refl
atom_flat (token.integer n) t e = flat (tree.integer n) t e refl refl
atom_flat (token.unsigned n) t e = flat_if (nat_lt n (2 ^ 127)) (tree.integer (pos n)) t e refl refl
atom_flat (token.character c) t e = flat (tree.text (encode_utf8 c)) t e refl refl
atom_flat (token.text s) t e = flat (tree.text s) t e refl refl
atom_flat (token.unit_variant s) t e = absurd (cc e)

atom_counted : (o : Option Tree) (ls : List Container) → ((t : Tree) → o ≡ Some t → (size t ≡ 1) × (nest t ≡ 0)) → IsTaken (completed_if o ls)
    → Counted (deep ls) (counts (opens ls) false (values_in ls + 1)) (completed_if o ls)
atom_counted None ls f taken = absurd taken
atom_counted (Some t) ls f taken = let p = f t refl in scalar_counted t ls p.0 p.1 taken

-- nothing is counted
waits : (s : ReadState) (ls : List Container) (due : Bool) → counted s ≡ counts (opens ls) due (values_in ls) → deepest s ≡ deep ls → Counted (deep ls) (counts (opens ls) due (values_in ls)) s
waits s ls due same depth = record { same = same; depth = omega (arith, depth, deep_enough ls, opens_length ls) }

begins : (l : Container) (ls : List Container) → size (held l) ≡ 1 → nest (held l) ≡ 1 → key_waits (l ∷ ls) ≡ false
    → Counted (deep ls) (counts (kind_of l ∷ opens ls) false (values_in ls + 1)) (open_at (l ∷ ls))
begins l ls one level waits = record {
  same = ap (λ due. counts (opens (l ∷ ls)) due (values_in (l ∷ ls))) waits ∙ same_values _ _ _ _ (omega (arith, one));
  depth = omega (arith, level, opens_length ls);
}

link_counted : (o : Option Link) (read : Result Link CidError) (ls : List Container) → IsTaken (after_link o read ls) → Counted (deep ls) (counts (opens ls) false (values_in ls + 1)) (after_link o read ls)
link_counted (Some cid) read ls taken = scalar_counted (tree.link cid) ls refl refl taken
link_counted None (Err e) ls taken = absurd taken
link_counted None (Ok cid) ls taken = absurd taken

pub due_value : (kinds : List OpenKind) → at_key kinds true ≡ false
due_value [] = refl
due_value (kind.in_list ∷ kinds) = refl
due_value (kind.in_map ∷ kinds) = refl

-- a token where a value has to come
value_counted : (ls : List Container) (due : Bool) (t : TokenModel) → at_key (opens ls) due ≡ false → IsTaken (value_step ls t)
    → Counted (deep ls) (next (counts (opens ls) due (values_in ls)) t) (value_step ls t)
value_counted ls due (atom a) e taken = rw e (atom_counted (tree_of_atom a) ls (atom_flat a) taken)
value_counted ls due (bytes b) e taken = scalar_counted (tree.bytes b) ls refl refl taken
value_counted ls due some e taken = waits (wanted ls) ls true refl refl
value_counted ls due (variant name) e taken = absurd taken
value_counted ls due link e taken = waits (marked ls) ls true refl refl
value_counted ls due seq e taken = begins (in_list no_items) ls refl refl refl
value_counted ls due seq_end e taken = absurd taken
value_counted ls due map e taken = begins (in_key no_members) ls refl refl refl
value_counted ls due map_end e taken = absurd taken

key_counted : (o : Option (List ℕ)) (ms : Members) (ls : List Container) → IsTaken (after_key o ms ls)
    → Counted (deep (in_key ms ∷ ls)) (counts (opens (in_key ms ∷ ls)) true (values_in (in_key ms ∷ ls))) (after_key o ms ls)
key_counted None ms ls taken = absurd taken
key_counted (Some key) ms ls taken = waits (open_at (in_value ms key ∷ ls)) (in_key ms ∷ ls) true refl refl

link_taken : (ls : List Container) (t : TokenModel) → IsTaken (link_step ls t) → Counted (deep ls) (next (counts (opens ls) true (values_in ls)) t) (link_step ls t)
link_taken ls (bytes b) taken = link_counted (read_link 64 b) (read_cid 64 b) ls taken
link_taken ls (atom a) taken = absurd taken
link_taken ls some taken = absurd taken
link_taken ls (variant name) taken = absurd taken
link_taken ls link taken = absurd taken
link_taken ls seq taken = absurd taken
link_taken ls seq_end taken = absurd taken
link_taken ls map taken = absurd taken
link_taken ls map_end taken = absurd taken

list_counted : (ts : Items) (ls : List Container) (t : TokenModel) → IsTaken (list_step ts ls t)
    → Counted (deep (in_list ts ∷ ls)) (next (counts (opens (in_list ts ∷ ls)) false (values_in (in_list ts ∷ ls))) t) (list_step ts ls t)
list_counted ts ls seq_end taken = ended (in_list ts) ls taken
list_counted ts ls (atom a) taken = value_counted (in_list ts ∷ ls) false (atom a) refl taken
list_counted ts ls (bytes b) taken = value_counted (in_list ts ∷ ls) false (bytes b) refl taken
list_counted ts ls some taken = value_counted (in_list ts ∷ ls) false some refl taken
list_counted ts ls (variant name) taken = absurd taken
list_counted ts ls link taken = value_counted (in_list ts ∷ ls) false link refl taken
list_counted ts ls seq taken = value_counted (in_list ts ∷ ls) false seq refl taken
list_counted ts ls map taken = value_counted (in_list ts ∷ ls) false map refl taken
list_counted ts ls map_end taken = absurd taken

map_counted : (ms : Members) (ls : List Container) (t : TokenModel) → IsTaken (key_step ms ls t)
    → Counted (deep (in_key ms ∷ ls)) (next (counts (opens (in_key ms ∷ ls)) false (values_in (in_key ms ∷ ls))) t) (key_step ms ls t)
map_counted ms ls map_end taken = ended (in_key ms) ls taken
map_counted ms ls (atom a) taken = key_counted (atom_key (atom a)) ms ls taken
map_counted ms ls (bytes b) taken = absurd taken
map_counted ms ls some taken = absurd taken
map_counted ms ls (variant name) taken = absurd taken
map_counted ms ls link taken = absurd taken
map_counted ms ls seq taken = absurd taken
map_counted ms ls seq_end taken = absurd taken
map_counted ms ls map taken = absurd taken

step_counted : (s : ReadState) (t : TokenModel) → IsTaken (step s t) → Counted (deepest s) (next (counted s) t) (step s t)
step_counted (open_at []) t taken = value_counted [] false t refl taken
step_counted (open_at (in_list ts ∷ ls)) t taken = list_counted ts ls t taken
step_counted (open_at (in_key ms ∷ ls)) t taken = map_counted ms ls t taken
step_counted (open_at (in_value ms key ∷ ls)) t taken = value_counted (in_value ms key ∷ ls) true t refl taken
step_counted (wanted ls) t taken = value_counted ls true t (due_value (opens ls)) taken
step_counted (marked ls) t taken = link_taken ls t taken
step_counted (done v) t taken = absurd taken
step_counted (rejected f) t taken = absurd taken

-- ---- where limits are passed

pub within_beyond : (limits : Limits) (levels values : ℕ) → levels ≤ limits.levels → values ≤ limits.values → beyond limits levels values ≡ None
within_beyond limits levels values deep many = rw (le-ltb limits.levels levels deep, le-ltb limits.values values many) refl

many_none : (n m : ℕ) (b : Bool) → nat_lt n m ≡ b → (if b then Some too_many else None) ≡ None → m ≤ n
many_none n m true e none = absurd (cc none)
many_none n m false e none = ltb-false n m e

beyond_none : (limits : Limits) (levels values : ℕ) (b : Bool) → nat_lt limits.levels levels ≡ b
    → (if b then Some too_deep else if nat_lt limits.values values then Some too_many else None) ≡ None → (levels ≤ limits.levels) × (values ≤ limits.values)
beyond_none limits levels values true e none = absurd (cc none)
beyond_none limits levels values false e none = (ltb-false limits.levels levels e, many_none limits.values values (nat_lt limits.values values) refl none)

pub none_within : (limits : Limits) (levels values : ℕ) → beyond limits levels values ≡ None → (levels ≤ limits.levels) × (values ≤ limits.values)
none_within limits levels values none = beyond_none limits levels values (nat_lt limits.levels levels) refl none

none_earlier : (first later : Option Excess) → earlier first later ≡ None → later ≡ None
none_earlier None later e = e
none_earlier (Some x) later e = absurd (cc e)

none_first : (first later : Option Excess) → earlier first later ≡ None → first ≡ None
none_first None later e = refl
none_first (Some x) later e = absurd (cc e)

pub none_now : (limits : Limits) (c : Counts) (ts : List TokenModel) → excess limits c ts ≡ None → beyond limits (length c.kinds) c.values ≡ None
none_now limits c [] e = e
none_now limits c (t ∷ ts) e = none_first _ _ e

-- or it isn't
pub passed_later : (limits : Limits) (c : Counts) (t : TokenModel) (ts : List TokenModel) → beyond limits (length c.kinds) c.values ≡ None → excess limits c (t ∷ ts) ≡ excess limits (next c t) ts
passed_later limits c t ts e = rw e refl

-- ---- with places

-- a limit is passed at once
pub passed_here : (limits : Limits) (c : Counts) (from left : ℕ) (es : List Event) (x : Excess) → beyond limits (length c.kinds) c.values ≡ Some x → passed limits c from left es ≡ Some (x, from)
passed_here limits c from left [] x e = rw e refl
passed_here limits c from left (event ∷ es) x e = rw e refl

-- or it isn't
pub passed_on : (limits : Limits) (c : Counts) (from left : ℕ) (t : TokenModel) (behind : ℕ) (key : Bool) (es : List Event) → beyond limits (length c.kinds) c.values ≡ None
    → passed limits c from left ((t, behind, key) ∷ es) ≡ passed limits (next c t) left behind es
passed_on limits c from left t behind key es e = ap (λ o. earlier (passed_at from o) (passed limits (next c t) left behind es)) e

-- and then it makes no difference where the event before began
pub passed_any : (limits : Limits) (c : Counts) (from other left : ℕ) (es : List Event) → beyond limits (length c.kinds) c.values ≡ None → passed limits c from left es ≡ passed limits c other left es
passed_any limits c from other left [] e = rw e refl
passed_any limits c from other left (event ∷ es) e = rw e refl

earlier_limit : (from : ℕ) (first : Option Excess) (later : Option Passed) → earlier first (option_map (λ p. p.0) later) ≡ option_map (λ p. p.0) (earlier (passed_at from first) later)
earlier_limit from None later = refl
earlier_limit from (Some x) later = refl

-- it is the limit that the tokens pass
pub limit_is : (limits : Limits) (c : Counts) (from left : ℕ) (es : List Event) → excess limits c (tokens_in es) ≡ option_map (λ p. p.0) (passed limits c from left es)
limit_is limits c from left [] =
    elim (beyond limits (length c.kinds) c.values) as (λ o. o ≡ option_map (λ p. p.0) (passed_at from o)) [
      | None ↦ refl
      | Some x ↦ refl
    ]
limit_is limits c from left ((t, behind, key) ∷ es) =
    ap (earlier (beyond limits (length c.kinds) c.values)) (limit_is limits (next c t) left behind es)
    ∙ earlier_limit from (beyond limits (length c.kinds) c.values) (passed limits (next c t) left behind es)

-- ---- the whole of a tree

atom_grows : (key : Bool) (c : Counts) → c.values ≤ (after_atom key c).values
atom_grows true c = omega arith
atom_grows false c = omega arith

grows : (c : Counts) (t : TokenModel) → c.values ≤ (next c t).values
grows c (atom a) = atom_grows (at_key c.kinds c.due) c
grows c (bytes b) = omega arith
grows c some = omega arith
grows c (variant name) = omega arith
grows c link = omega arith
grows c seq = omega arith
grows c seq_end = omega arith
grows c map = omega arith
grows c map_end = omega arith

stands : (s : ReadState) → length (counted s).kinds ≤ deepest s
stands (open_at ls) = omega (arith, opens_length ls, deep_enough ls)
stands (wanted ls) = omega (arith, opens_length ls, deep_enough ls)
stands (marked ls) = omega (arith, opens_length ls, deep_enough ls)
stands (done t) = omega arith
stands (rejected f) = omega arith

pub record Fits (limits : Limits) (s : ReadState) : Type 0 where
  pub levels : deepest s ≤ limits.levels
  pub values : (counted s).values ≤ limits.values

never_done : (f : Failure) (ts : List TokenModel) (t : Tree) → run (rejected f) ts ≡ done t → ⊥
never_done f [] t e = cc e
never_done f (u ∷ ts) t e = never_done never ts t e

taken_once : (s : ReadState) (ts : List TokenModel) (t : Tree) → run s ts ≡ done t → IsTaken s
taken_once (open_at ls) ts t e = tt
taken_once (wanted ls) ts t e = tt
taken_once (marked ls) ts t e = tt
taken_once (done v) ts t e = tt
taken_once (rejected f) ts t e = absurd (never_done f ts t e)

fitting : (limits : Limits) (s : ReadState) → Fits limits s → beyond limits (length (counted s).kinds) (counted s).values ≡ None
fitting limits s fits = within_beyond limits (length (counted s).kinds) (counted s).values (omega (arith, stands s, fits.levels)) fits.values

record Allowed (limits : Limits) (s : ReadState) (ts : List TokenModel) : Type 0 where
  fits : Fits limits s
  none : excess limits (counted s) ts ≡ None

allowed : (limits : Limits) (s : ReadState) (ts : List TokenModel) (t : Tree) → run s ts ≡ done t → Fits limits (done t) → Allowed limits s ts
allowed limits s [] t e fits = let all = subst (Fits limits) (sym e) fits in record { fits = all; none = fitting limits s all }
allowed limits s (u ∷ ts) t e fits =
    let later = allowed limits (step s u) ts t e fits in
    let c = step_counted s u (taken_once (step s u) ts t e) in
    let more : (counted (step s u)).values ≡ (next (counted s) u).values = ap (λ (x : Counts). x.values) c.same in
    let now : Fits limits s = record {
      levels = omega (arith, c.depth, later.fits.levels);
      values = omega (arith, grows (counted s) u, more, later.fits.values);
    } in
    record {
      fits = now;
      none = passed_later limits (counted s) u ts (fitting limits s now) ∙ ap (λ x. excess limits x ts) (sym c.same) ∙ later.none;
    }

all_fits : (limits : Limits) (s : ReadState) (ts : List TokenModel) (t : Tree) → run s ts ≡ done t → Fits limits s → excess limits (counted s) ts ≡ None → Fits limits (done t)
all_fits limits s [] t e fits none = subst (Fits limits) e fits
all_fits limits s (u ∷ ts) t e fits none =
    let c = step_counted s u (taken_once (step s u) ts t e) in
    let later : excess limits (counted (step s u)) ts ≡ None = ap (λ x. excess limits x ts) c.same ∙ none_earlier _ _ none in
    let now = none_within limits (length (counted (step s u)).kinds) (counted (step s u)).values (none_now limits (counted (step s u)) ts later) in
    let same : length (counted (step s u)).kinds ≡ length (next (counted s) u).kinds = ap (λ (x : Counts). length x.kinds) c.same in
    let next_fits : Fits limits (step s u) = record {
      levels = omega (arith, c.depth, same, now.0, fits.levels);
      values = now.1;
    } in
    all_fits limits (step s u) ts t e next_fits later

-- the tokens of a tree pass no limit just where the tree is within them
pub tree_allowed : (limits : Limits) (ts : List TokenModel) (t : Tree) → run reading.start ts ≡ done t → Within limits t → excess limits start ts ≡ None
tree_allowed limits ts t e within = (allowed limits reading.start ts t e (record { levels = within.levels; values = within.values })).none

pub tree_within : (limits : Limits) (ts : List TokenModel) (t : Tree) → run reading.start ts ≡ done t → excess limits start ts ≡ None → Within limits t
tree_within limits ts t e none =
    let fits = all_fits limits reading.start ts t e (record { levels = omega arith; values = omega arith }) none in
    record { levels = fits.levels; values = fits.values }
