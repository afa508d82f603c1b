-- What is left to write comes to the same, one iteration after another.
use Rattle.std.proofs.Common.{◌≡◌, ◌<◌, ◌+◌, ◌-◌, ◌*◌, ◌^◌, nat_lt, ℕ, suc, false, Result, Ok, Err, List, [], ◌∷◌, ◌++◌, map, length, Option, Some, None, option_map, string_bytes, String, Global, Vec, BTreeMap, refl, sym, subst, ap, ap₂, ◌∙◌, rules, arith}
use Rattle.std.specs.Map.{values_of}
use Rattle.std.proofs.lemmas.Bool.{and_right}
use Rattle.ipld_tree.specs.Size.{size, total}
use Rattle.ipld_tree.specs.Tree.{Tree, text}
use Rattle.ipld_tree.specs.TreeOf.{tree_of, items_of, members_of}
use Rattle.ipld_tree.specs.declared.ipld.Ipld.{Ipld, List as Ipld-List, Map as Ipld-Map, String as Ipld-String, the_lemmas}
use Rattle.ipld_tree.proofs.Sizes.{size_list, size_map, total_cons}
use Rattle.ipld_tree.proofs.Trees.{tree_of-List, tree_of-Map}
use Rattle.dag_cbor_blocks.specs.Tape.{entry, all_short}
use Rattle.dag_json.proofs.tape.Describing.{long_written, long_keyed}
use Rattle.dag_json.specs.TapeOpen.{Pending, left_of, kind_of, all_written, closed_container, finish, load, Enters, Steps}
use Rattle.dag_json.specs.Tape.{item_count, member_count}
use Rattle.dag_json.specs.TapeWriting.{Written, front, keyed, closed, written, items_written, members_written, Writes}
use Rattle.dag_json.specs.declared.tape.open.OpenContainer.{OpenContainer}
use Rattle.dag_json.specs.declared.tape.open.Rest.{Rest}
use Rattle.dag_json.specs.declared.tape.open.Rest.TheVariants as rest
use Rattle.dag_json.specs.declared.tape.write.WriteError.{WriteError}
use Rattle.dag_json.specs.declared.tape.write.WriteError.TheVariants.{Memory, TooLong}

-- a key and a value
abbrev Entry : Type 0
Entry = String Global × Ipld

all-append : (ps : List Pending) (p : Pending) (w : Written) → all_written (ps ++ p ∷ []) w ≡ all_written ps (keyed p.0 (written (tree_of p.1) w))
all-append [] p w = refl
all-append (q ∷ ps) p w = ap (λ v. keyed q.0 (written (tree_of q.1) v)) (all-append ps p w)

finish-append : (cs : List OpenContainer) (c : OpenContainer) (w : Written) → finish (cs ++ c ∷ []) w ≡ finish cs (closed_container c w)
finish-append [] c w = refl
finish-append (d ∷ cs) c w = ap (closed_container d) (finish-append cs c w)

load-append : (cs : List OpenContainer) (c : OpenContainer) → load (cs ++ c ∷ []) ≡ load cs + suc (2 * total (map (λ p. p.1) (left_of c.rest)))
load-append [] c = omega arith
load-append (d ∷ cs) c = omega (arith, load-append cs c)

-- ---- a list or a map begins

items_all : (xs : List Ipld) (w : Written) → items_written (items_of xs) w ≡ all_written (map (λ x. (None, x)) xs) w
items_all [] w = refl
items_all (x ∷ xs) w = ap (written (tree_of x)) (items_all xs w)

members_all : (es : List Entry) (w : Written) → members_written (members_of es) w ≡ all_written (map (λ e. (Some (string_bytes e.0), e.1)) es) w
members_all [] w = refl
members_all (e ∷ es) w = ap (λ v. keyed (Some (string_bytes e.0)) (written (tree_of e.1) v)) (members_all es w)

items_counted : (xs : List Ipld) → item_count (items_of xs) ≡ length xs
items_counted [] = refl
items_counted (x ∷ xs) = ap suc (items_counted xs)

members_counted : (es : List Entry) → member_count (members_of es) ≡ length es
members_counted [] = refl
members_counted (e ∷ es) = ap suc (members_counted es)

items_values : (xs : List Ipld) → map (λ (p : Pending). p.1) (map (λ x. (None, x)) xs) ≡ xs
items_values [] = refl
items_values (x ∷ xs) = ap (λ ys. x ∷ ys) (items_values xs)

members_values : (es : List Entry) → map (λ (p : Pending). p.1) (map (λ e. (Some (string_bytes e.0), e.1)) es) ≡ values_of es
members_values [] = refl
members_values (e ∷ es) = ap (λ ys. e.1 ∷ ys) (members_values es)

-- what is written of a list or a map that has these parts
abbrev shape : Option (List ℕ) → Rest → ℕ → ℕ → Written → Written
shape k r n b w = keyed k (closed (kind_of r) n b (all_written (left_of r) w))

entered : (key : Option (List ℕ)) (inner : Rest) (count : ℕ) (before after : Written) (os os' : List OpenContainer) → Enters key inner count before after os os'
    → finish os' after ≡ finish os (shape key inner count (length before.entries) before)
entered key inner count before after os os' h =
    let c = h.container in
    ap (λ o. finish o after) h.opened ∙ finish-append os c after ∙ ap (λ w. finish os (closed_container c w)) h.same
    ∙ ap (finish os) (
    ap (λ k. shape k c.rest c.count c.behind before) h.key_is ∙ ap (λ r. shape key r c.count c.behind before) h.rest_is
    ∙ ap (λ n. shape key inner n c.behind before) h.count_is ∙ ap (λ b. shape key inner count b before) h.behind_is
    )

entered_load : (key : Option (List ℕ)) (inner : Rest) (count : ℕ) (before after : Written) (os os' : List OpenContainer) → Enters key inner count before after os os'
    → load os' ≡ load os + suc (2 * total (map (λ p. p.1) (left_of inner)))
entered_load key inner count before after os os' h =
    ap load h.opened ∙ load-append os h.container ∙ ap (λ r. load os + suc (2 * total (map (λ p. p.1) (left_of r)))) h.rest_is

pub list_entered : (key : Option (List ℕ)) (v : Vec Ipld Global) (count : ℕ) (before after : Written) (os os' : List OpenContainer) → count ≡ length v.items
    → Enters key (rest.Items v) count before after os os'
    → (finish os' after ≡ finish os (keyed key (written (tree_of (Ipld-List v)) before))) × (load os' < load os + 2 * size (Ipld-List v))
list_entered key v count before after os os' counts h = (
  entered key (rest.Items v) count before after os os' h
      ∙ ap (finish os) (ap₂ (λ n x. keyed key (closed 9 n (length before.entries) x)) (counts ∙ sym (items_counted v.items)) (sym (items_all v.items before))
      ∙ ap (λ t. keyed key (written t before)) (sym (tree_of-List v))),
  omega (arith, entered_load key (rest.Items v) count before after os os' h, ap total (items_values v.items), size_list v),
)

pub map_entered : (key : Option (List ℕ)) (m : BTreeMap (String Global) Ipld) (count : ℕ) (before after : Written) (os os' : List OpenContainer) → count ≡ length m.entries
    → Enters key (rest.Members m) count before after os os'
    → (finish os' after ≡ finish os (keyed key (written (tree_of (Ipld-Map m)) before))) × (load os' < load os + 2 * size (Ipld-Map m))
map_entered key m count before after os os' counts h = (
  entered key (rest.Members m) count before after os os' h
      ∙ ap (finish os) (ap₂ (λ n x. keyed key (closed 10 n (length before.entries) x)) (counts ∙ sym (members_counted m.entries)) (sym (members_all m.entries before))
      ∙ ap (λ t. keyed key (written t before)) (sym (tree_of-Map m))),
  omega (arith, entered_load key (rest.Members m) count before after os os' h, ap total (members_values m.entries), size_map m),
)

-- ---- the last value comes, or none is left

values-append : (ps : List Pending) (p : Pending) → total (map (λ (q : Pending). q.1) (ps ++ p ∷ [])) ≡ total (map (λ (q : Pending). q.1) ps) + size p.1
values-append [] p = omega (arith, total_cons p.1 [])
values-append (q ∷ ps) p =
    omega (arith, total_cons q.1 (map (λ (r : Pending). r.1) (ps ++ p ∷ [])), total_cons q.1 (map (λ (r : Pending). r.1) ps), values-append ps p)

module _ (c d : OpenContainer) (same_key : d.key ≡ c.key) (same_count : d.count ≡ c.count) (same_behind : d.behind ≡ c.behind) (same_kind : kind_of d.rest ≡ kind_of c.rest) where
  parts : (w v : Written) → all_written (left_of d.rest) w ≡ all_written (left_of c.rest) v → closed_container d w ≡ closed_container c v
  parts w v e =
      ap (λ k. keyed (option_map string_bytes k) (closed (kind_of d.rest) d.count d.behind (all_written (left_of d.rest) w))) same_key
      ∙ ap (λ n. keyed (option_map string_bytes c.key) (closed (kind_of d.rest) n d.behind (all_written (left_of d.rest) w))) same_count
      ∙ ap (λ b. keyed (option_map string_bytes c.key) (closed (kind_of d.rest) c.count b (all_written (left_of d.rest) w))) same_behind
      ∙ ap (λ k. keyed (option_map string_bytes c.key) (closed k c.count c.behind (all_written (left_of d.rest) w))) same_kind
      ∙ ap (λ x. keyed (option_map string_bytes c.key) (closed (kind_of c.rest) c.count c.behind x)) e

  pub same_taken : (cs os : List OpenContainer) (p : Pending) (w : Written) → os ≡ cs ++ c ∷ [] → left_of c.rest ≡ left_of d.rest ++ p ∷ []
      → finish (cs ++ d ∷ []) (keyed p.0 (written (tree_of p.1) w)) ≡ finish os w
  same_taken cs os p w is left =
      finish-append cs d (keyed p.0 (written (tree_of p.1) w))
      ∙ ap (finish cs) (parts (keyed p.0 (written (tree_of p.1) w)) w (sym (all-append (left_of d.rest) p w) ∙ ap (λ ps. all_written ps w) (sym left)))
      ∙ sym (finish-append cs c w) ∙ ap (λ o. finish o w) (sym is)

  pub taken : (cs os after : List OpenContainer) (p : Pending) (w v : Written) → os ≡ cs ++ c ∷ [] → left_of c.rest ≡ left_of d.rest ++ p ∷ []
      → finish after v ≡ finish (cs ++ d ∷ []) (keyed p.0 (written (tree_of p.1) w)) → load after < load (cs ++ d ∷ []) + 2 * size p.1
      → (finish after v ≡ finish os w) × (load after < load os)
  taken cs os after p w v is left same less = (
    same ∙ same_taken cs os p w is left,
    omega (arith, load-append cs d, load-append cs c, ap load is, values-append (left_of d.rest) p, ap (λ ps. total (map (λ (q : Pending). q.1) ps)) left),
  )

  pub same_left : (cs os : List OpenContainer) (w : Written) → os ≡ cs ++ c ∷ [] → left_of c.rest ≡ [] → left_of d.rest ≡ [] → finish cs (closed_container d w) ≡ finish os w
  same_left cs os w is none none' =
      ap (finish cs) (parts w w (ap (λ ps. all_written ps w) (none' ∙ sym none))) ∙ sym (finish-append cs c w) ∙ ap (λ o. finish o w) (sym is)

  pub left : (cs os : List OpenContainer) (w v : Written) → os ≡ cs ++ c ∷ [] → left_of c.rest ≡ [] → left_of d.rest ≡ [] → v ≡ closed_container d w
      → (finish cs v ≡ finish os w) × (load cs < load os)
  left cs os w v is none none' e = (
    ap (finish cs) e ∙ same_left cs os w is none none',
    omega (arith, load-append cs c, ap load is),
  )

-- what is closed has nothing left
pub closes : (c : OpenContainer) (w v : Written) → left_of c.rest ≡ [] → v ≡ keyed (option_map string_bytes c.key) (closed (kind_of c.rest) c.count c.behind w) → v ≡ closed_container c w
closes c w v none e = e ∙ ap (λ ps. keyed (option_map string_bytes c.key) (closed (kind_of c.rest) c.count c.behind (all_written ps w))) (sym none)

-- ---- an entry that is too long stays there

long_all : (ps : List Pending) (w : Written) → all_short w.entries ≡ false → all_short (all_written ps w).entries ≡ false
long_all [] w long = long
long_all (p ∷ ps) w long = long_keyed p.0 (written (tree_of p.1) (all_written ps w)) (long_written (tree_of p.1) (all_written ps w) (long_all ps w long))

pub long_finished : (cs : List OpenContainer) (w : Written) → all_short w.entries ≡ false → all_short (finish cs w).entries ≡ false
long_finished [] w long = long
long_finished (c ∷ cs) w long =
    let inner = all_written (left_of c.rest) (finish cs w) in
    let e = entry (kind_of c.rest) (length inner.entries - c.behind + 1) c.count in
    long_keyed (option_map string_bytes c.key) (front e inner) (and_right (nat_lt e.len (2 ^ 32)) (all_short inner.entries) (long_all (left_of c.rest) (finish cs w) (long_finished cs w long)))

pub finished : (cs : List OpenContainer) (w after : Written) (r : Result (Unit {0}) WriteError) → Writes w r after → Writes (finish cs w) r (finish cs after)
finished cs w after (Ok u) h = ap (finish cs) h
finished cs w after (Err Memory) h = tt
finished cs w after (Err TooLong) h = long_finished cs w h

-- the same for a value, by what is put for it
pub value_written : (cs : List OpenContainer) (k : Option (List ℕ)) (t u : Tree) (before put after : Written) (r : Result (Unit {0}) WriteError) → t ≡ u → put ≡ written u before → Writes (keyed k put) r after
    → Writes (finish cs (keyed k (written t before))) r (finish cs after)
value_written cs k t u before put after r same is h =
    finished cs (keyed k (written t before)) after r (subst (λ v. Writes (keyed k v) r after) (is ∙ ap (λ v. written v before) (sym same)) h)

pub tree_of-String : (s : String Global) → tree_of (Ipld-String s) ≡ text (string_bytes s)
tree_of-String s = search (rules, the_lemmas)

pub failed : (w after : Written) (e : WriteError) (os os' : List OpenContainer) (before last : Written) → Writes w (Err e) after → w ≡ finish os before → Steps (Err e) os before os' last
failed w after Memory os os' before last h is = tt
failed w after TooLong os os' before last h is = subst (λ (v : Written). all_short v.entries ≡ false) is h
