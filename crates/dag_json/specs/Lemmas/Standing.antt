-- The result of the machine is the tree of the JSON whose tokens it took.
use Rattle.std.proofs.Common.{◌≡◌, ◌≤◌, ◌<◌, ◌+◌, ◌-◌, ℕ, ℤ, suc, Bool, true, false, List, [], ◌∷◌, ◌++◌, nat_lt, Result, Ok, Err, inl, inr, refl, sym, ap, subst, ◌∙◌, append_assoc, arith}
use Rattle.std.specs.Prelude.{if◌then◌else◌, max}
use Rattle.std.proofs.lemmas.Bool.{ltb-true, cases_Bool}
use Rattle.std.proofs.lemmas.List.{append-nil}
use Rattle.ipld_tokens.specs.ItemTree.{has_key}
use Rattle.ipld_tokens.specs.ReadMachine.{and_item}
use Rattle.ipld_tree.specs.Put.{put}
use Rattle.ipld_tree.specs.Tree.{Tree, Items, no_items, item, Members, no_members}
use Rattle.ipld_tree.specs.Tree as tree
use Rattle.ipld_tree.specs.declared.limits.Limits.{Limits}
use Rattle.json.specs.Json as json
use Rattle.json.specs.Token as token
use Rattle.json.specs.Token.{Token}
use Rattle.json.specs.Tree.{json_tokens, items_tokens, members_tokens, depth, items_depth, members_depth}
use Rattle.dag_json.specs.Encodes.{EncodesIn, EncodesItemsIn, EncodesMembersIn, count, items_count, members_count, JsonWithin}
use Rattle.dag_json.specs.Floats.{number_in}
use Rattle.dag_json.specs.Objects.{object_tree}
use Rattle.dag_json.specs.ReadMachine.{Level, in_list, in_key, in_value, State, going, done, failed, completed, completed_if, takes_value, scalar_step, value_step, begin_step, end_list_step, end_map_step, key_step, as_integer, step, run, start}
use Rattle.dag_json.specs.declared.read_error.ReadErrorKind.{ReadErrorKind}
use Rattle.dag_json.specs.declared.read_error.ReadErrorKind.TheVariants.{Syntax, DuplicateKey, TooDeep, TooMany}

-- ---- items and members with one more at the end

abbrev pub and_last : json.Items → json.Json → json.Items
and_last json.no_items j = json.item j json.no_items
and_last (json.item i js) j = json.item i (and_last js j)

abbrev pub and_member : json.Members → List ℕ → json.Json → json.Members
and_member json.no_members k j = json.member k j json.no_members
and_member (json.member l i os) k j = json.member l i (and_member os k j)

-- the tokens of items, and of members (`open_members`), without the end of the list or map
abbrev pub open_items : json.Items → List Token
open_items json.no_items = []
open_items (json.item j js) = json_tokens j ++ open_items js

abbrev pub open_members : json.Members → List Token
open_members json.no_members = []
open_members (json.member k j os) = token.key k ∷ (json_tokens j ++ open_members os)

items_closed : (js : json.Items) → open_items js ++ token.end_array ∷ [] ≡ items_tokens js
items_closed json.no_items = refl
items_closed (json.item j js) = append_assoc (json_tokens j) (open_items js) (token.end_array ∷ []) ∙ ap (λ ts. json_tokens j ++ ts) (items_closed js)

members_closed : (os : json.Members) → open_members os ++ token.end_object ∷ [] ≡ members_tokens os
members_closed json.no_members = refl
members_closed (json.member k j os) =
    ap (λ ts. token.key k ∷ ts) (append_assoc (json_tokens j) (open_members os) (token.end_object ∷ []) ∙ ap (λ ts. json_tokens j ++ ts) (members_closed os))

open_items-last : (js : json.Items) (j : json.Json) → open_items (and_last js j) ≡ open_items js ++ json_tokens j
open_items-last json.no_items j = append-nil (json_tokens j)
open_items-last (json.item i js) j = ap (λ ts. json_tokens i ++ ts) (open_items-last js j) ∙ sym (append_assoc (json_tokens i) (open_items js) (json_tokens j))

open_members-last : (os : json.Members) (k : List ℕ) (j : json.Json) → open_members (and_member os k j) ≡ open_members os ++ token.key k ∷ json_tokens j
open_members-last json.no_members k j = ap (λ ts. token.key k ∷ ts) (append-nil (json_tokens j))
open_members-last (json.member l i os) k j =
    ap (λ ts. token.key l ∷ ts) (ap (λ ts. json_tokens i ++ ts) (open_members-last os k j) ∙ sym (append_assoc (json_tokens i) (open_members os) (token.key k ∷ json_tokens j)))

items_count-last : (js : json.Items) (j : json.Json) → items_count (and_last js j) ≡ items_count js + count j
items_count-last json.no_items j = omega arith
items_count-last (json.item i js) j = let more = items_count-last js j in omega arith

members_count-last : (os : json.Members) (k : List ℕ) (j : json.Json) → members_count (and_member os k j) ≡ members_count os + count j
members_count-last json.no_members k j = omega arith
members_count-last (json.member l i os) k j = let more = members_count-last os k j in omega arith

items_depth-last : (js : json.Items) (j : json.Json) → items_depth (and_last js j) ≡ max (items_depth js) (depth j)
items_depth-last json.no_items j = omega arith
items_depth-last (json.item i js) j = let more = items_depth-last js j in omega arith

members_depth-last : (os : json.Members) (k : List ℕ) (j : json.Json) → members_depth (and_member os k j) ≡ max (members_depth os) (depth j)
members_depth-last json.no_members k j = omega arith
members_depth-last (json.member l i os) k j = let more = members_depth-last os k j in omega arith

encodes-last : (floats : Bool) (js : json.Items) (j : json.Json) (ts : Items) (t : Tree) → EncodesItemsIn floats js ts → EncodesIn floats j t → EncodesItemsIn floats (and_last js j) (and_item ts t)
encodes-last floats json.no_items j ts t e f = (t, no_items, f, refl, ap (λ us. and_item us t) e)
encodes-last floats (json.item i js) j ts t e f = (e.0, and_item e.1 t, e.2, encodes-last floats js j e.1 t e.3 f, ap (λ us. and_item us t) e.4)

encodes-member : (floats : Bool) (os : json.Members) (k : List ℕ) (j : json.Json) (first ms : Members) (t : Tree) → EncodesMembersIn floats os first ms → has_key k ms ≡ false → EncodesIn floats j t
    → EncodesMembersIn floats (and_member os k j) first (put k t ms)
encodes-member floats json.no_members k j first ms t e fresh f = (t, subst (λ us. has_key k us ≡ false) e fresh, f, ap (put k t) e)
encodes-member floats (json.member l i os) k j first ms t e fresh f = (e.0, e.1, e.2, encodes-member floats os k j (put l e.0 first) ms t e.3 fresh f)

-- ---- the tokens that lead to a state

module _ (floats : Bool) (limits : Limits) where
  -- True if the tokens begin the open lists and maps, at the depth `d` and with `n` values.
  abbrev pub Stands : List Level → ℕ → ℕ → List Token → Type 0
  Stands [] d n p = (d ≡ 0) × (n ≡ 0) × (p ≡ [])
  Stands (in_list ts ∷ ls) d n p =
      (e m : ℕ) × (q : List Token) × (js : json.Items) × Stands ls e m q × (takes_value ls ≡ true) × EncodesItemsIn floats js ts × (d ≡ suc e) × (n ≡ m + suc (items_count js))
      × (p ≡ q ++ token.begin_array ∷ open_items js) × (d + items_depth js ≤ limits.levels)
  Stands (in_key ms ∷ ls) d n p =
      (e m : ℕ) × (q : List Token) × (os : json.Members) × Stands ls e m q × (takes_value ls ≡ true) × EncodesMembersIn floats os no_members ms × (d ≡ suc e) × (n ≡ m + suc (members_count os))
      × (p ≡ q ++ token.begin_object ∷ open_members os) × (d + members_depth os ≤ limits.levels)
  Stands (in_value ms k ∷ ls) d n p =
      (e m : ℕ) × (q : List Token) × (os : json.Members) × Stands ls e m q × (takes_value ls ≡ true) × EncodesMembersIn floats os no_members ms × (d ≡ suc e) × (n ≡ m + suc (members_count os))
      × (p ≡ q ++ token.begin_object ∷ (open_members os ++ token.key k ∷ [])) × (d + members_depth os ≤ limits.levels) × (has_key k ms ≡ false)

  abbrev pub StandsFor : State → List Token → Type 0
  StandsFor (going ls d n) p = Stands ls d n p × (n ≤ limits.values)
  StandsFor (done t) p = (j : json.Json) × (p ≡ json_tokens j) × EncodesIn floats j t × JsonWithin limits j
  StandsFor (failed e) p = Unit {0}

  -- `StandsFor` is true after a complete value.
  value_stands : (ls : List Level) (d n m : ℕ) (q : List Token) (j : json.Json) (t : Tree) → Stands ls d n q → takes_value ls ≡ true → EncodesIn floats j t → d + depth j ≤ limits.levels
      → m ≡ n + count j → m ≤ limits.values → StandsFor (completed t d m ls) (q ++ json_tokens j)
  value_stands [] d n m q j t s takes e flat all few =
      let zero_d = s.0 in
      let zero_n = s.1 in
      (j, ap (λ p. p ++ json_tokens j) s.2, e, record { levels = omega arith; values = omega arith })
  value_stands (in_list ts ∷ ls) d n m q j t s takes e flat all few =
      let js = s.3 in
      let deep = s.10 in
      let counted = s.8 in
      let more = items_count-last js j in
      let most = items_depth-last js j in (
        (
          s.0,
          s.1,
          s.2,
          and_last js j,
          s.4,
          s.5,
          encodes-last floats js j ts t s.6 e,
          s.7,
          omega arith,
          ap (λ p. p ++ json_tokens j) s.9 ∙ append_assoc s.2 (token.begin_array ∷ open_items js) (json_tokens j)
              ∙ ap (λ p. s.2 ++ token.begin_array ∷ p) (sym (open_items-last js j)),
          omega arith,
        ),
        few,
      )
  value_stands (in_key ms ∷ ls) d n m q j t s takes e flat all few = absurd cc
  value_stands (in_value ms k ∷ ls) d n m q j t s takes e flat all few =
      let os = s.3 in
      let deep = s.10 in
      let counted = s.8 in
      let more = members_count-last os k j in
      let most = members_depth-last os k j in
      subst (λ b. StandsFor (if b then failed DuplicateKey else going (in_key (put k t ms) ∷ ls) d m) (q ++ json_tokens j)) (sym s.11) (
        (
          s.0,
          s.1,
          s.2,
          and_member os k j,
          s.4,
          s.5,
          encodes-member floats os k j no_members ms t s.6 s.11 e,
          s.7,
          omega arith,
          ap (λ p. p ++ json_tokens j) s.9 ∙ append_assoc s.2 (token.begin_object ∷ (open_members os ++ token.key k ∷ [])) (json_tokens j)
              ∙ ap (λ p. s.2 ++ token.begin_object ∷ p) (append_assoc (open_members os) (token.key k ∷ []) (json_tokens j) ∙ sym (open_members-last os k j)),
          omega arith,
        ),
        few,
      )

  depth_within : (ls : List Level) (d n : ℕ) (p : List Token) → Stands ls d n p → d ≤ limits.levels
  depth_within [] d n p s = let zero_d = s.0 in omega arith
  depth_within (in_list ts ∷ ls) d n p s = let deep = s.10 in omega arith
  depth_within (in_key ms ∷ ls) d n p s = let deep = s.10 in omega arith
  depth_within (in_value ms k ∷ ls) d n p s = let deep = s.10 in omega arith

  -- `StandsFor` is true after a value that is one token.
  scalar_at : (r : Result Tree ReadErrorKind) (ls : List Level) (d n : ℕ) (p : List Token) (k : Token) (j : json.Json) → Stands ls d n p → takes_value ls ≡ true
      → ((t : Tree) → r ≡ Ok t → EncodesIn floats j t) → json_tokens j ≡ k ∷ [] → depth j ≡ 0 → count j ≡ 1 → StandsFor (scalar_step limits r ls d n) (p ++ k ∷ [])
  scalar_at (Err x) ls d n p k j s takes e one flat single = tt
  scalar_at (Ok t) ls d n p k j s takes e one flat single = elim (cases_Bool (nat_lt n limits.values)) [
    | inl few ↦
        let fewer = ltb-true n limits.values few in
        let within = depth_within ls d n p s in
        subst (λ b. StandsFor (if b then completed t d (n + 1) ls else failed TooMany) (p ++ k ∷ [])) (sym few)
        (subst (λ ts. StandsFor (completed t d (n + 1) ls) (p ++ ts)) one (value_stands ls d n (n + 1) p j t s takes (e t refl) (omega arith) (omega arith) (omega arith)))
    | inr many ↦ subst (λ b. StandsFor (if b then completed t d (n + 1) ls else failed TooMany) (p ++ k ∷ [])) (sym many) tt
  ]

  scalar_stands : (r : Result Tree ReadErrorKind) (ls : List Level) (d n : ℕ) (p : List Token) (k : Token) (j : json.Json) → Stands ls d n p
      → ((t : Tree) → r ≡ Ok t → EncodesIn floats j t) → json_tokens j ≡ k ∷ [] → depth j ≡ 0 → count j ≡ 1 → StandsFor (value_step limits r ls d n) (p ++ k ∷ [])
  scalar_stands r ls d n p k j s e one flat single = elim (cases_Bool (takes_value ls)) [
    | inl takes ↦
        subst (λ b. StandsFor (if b then scalar_step limits r ls d n else failed Syntax) (p ++ k ∷ [])) (sym takes) (scalar_at r ls d n p k j s takes e one flat single)
    | inr other ↦ subst (λ b. StandsFor (if b then scalar_step limits r ls d n else failed Syntax) (p ++ k ∷ [])) (sym other) tt
  ]

  -- `StandsFor` is true after the beginning of a list or a map.
  begin_stands : (l : Level) (ls : List Level) (d n : ℕ) (p : List Token) (k : Token) → (d < limits.levels → takes_value ls ≡ true → Stands (l ∷ ls) (d + 1) (n + 1) (p ++ k ∷ []))
      → StandsFor (begin_step limits l ls d n) (p ++ k ∷ [])
  begin_stands l ls d n p k h = elim (cases_Bool (takes_value ls)) [
    | inr other ↦
        subst (λ b. StandsFor (if b then (if nat_lt d limits.levels then (if nat_lt n limits.values then going (l ∷ ls) (d + 1) (n + 1) else failed TooMany) else failed TooDeep) else failed Syntax) (p ++ k ∷ [])) (sym other) tt
    | inl takes ↦
        subst (λ b. StandsFor (if b then (if nat_lt d limits.levels then (if nat_lt n limits.values then going (l ∷ ls) (d + 1) (n + 1) else failed TooMany) else failed TooDeep) else failed Syntax) (p ++ k ∷ [])) (sym takes)
        (elim (cases_Bool (nat_lt d limits.levels)) [
          | inr deep ↦ subst (λ b. StandsFor (if b then (if nat_lt n limits.values then going (l ∷ ls) (d + 1) (n + 1) else failed TooMany) else failed TooDeep) (p ++ k ∷ [])) (sym deep) tt
          | inl flat ↦
              subst (λ b. StandsFor (if b then (if nat_lt n limits.values then going (l ∷ ls) (d + 1) (n + 1) else failed TooMany) else failed TooDeep) (p ++ k ∷ [])) (sym flat)
              (elim (cases_Bool (nat_lt n limits.values)) [
                | inr many ↦ subst (λ b. StandsFor (if b then going (l ∷ ls) (d + 1) (n + 1) else failed TooMany) (p ++ k ∷ [])) (sym many) tt
                | inl few ↦
                    let fewer = ltb-true n limits.values few in
                    subst (λ b. StandsFor (if b then going (l ∷ ls) (d + 1) (n + 1) else failed TooMany) (p ++ k ∷ [])) (sym few)
                    (h (ltb-true d limits.levels flat) takes, omega arith)
              ])
        ])
  ]

  list_begins : (ls : List Level) (d n : ℕ) (p : List Token) → Stands ls d n p → StandsFor (begin_step limits (in_list no_items) ls d n) (p ++ token.begin_array ∷ [])
  list_begins ls d n p s =
      begin_stands (in_list no_items) ls d n p token.begin_array (λ flat takes. (d, n, p, json.no_items, s, takes, refl, omega arith, omega arith, refl, omega arith))

  map_begins : (ls : List Level) (d n : ℕ) (p : List Token) → Stands ls d n p → StandsFor (begin_step limits (in_key no_members) ls d n) (p ++ token.begin_object ∷ [])
  map_begins ls d n p s =
      begin_stands (in_key no_members) ls d n p token.begin_object (λ flat takes. (d, n, p, json.no_members, s, takes, refl, omega arith, omega arith, refl, omega arith))

  -- `StandsFor` is true after the end of a list or a map.
  list_ends : (ls : List Level) (d n : ℕ) (p : List Token) → Stands ls d n p → n ≤ limits.values → StandsFor (end_list_step ls d n) (p ++ token.end_array ∷ [])
  list_ends [] d n p s few = tt
  list_ends (in_key ms ∷ ls) d n p s few = tt
  list_ends (in_value ms k ∷ ls) d n p s few = tt
  list_ends (in_list ts ∷ ls) d n p s few =
      let js = s.3 in
      let deep = s.10 in
      let counted = s.8 in
      let inner = s.7 in
      let outer : d - 1 ≡ s.0 = omega arith in
      subst (λ q. StandsFor (completed (tree.list ts) (d - 1) n ls) q)
      (ap (λ q. s.2 ++ token.begin_array ∷ q) (sym (items_closed js)) ∙ sym (append_assoc s.2 (token.begin_array ∷ open_items js) (token.end_array ∷ [])) ∙ ap (λ q. q ++ token.end_array ∷ []) (sym s.9))
      (subst (λ e. StandsFor (completed (tree.list ts) e n ls) (s.2 ++ json_tokens (json.array js))) (sym outer)
      (value_stands ls s.0 s.1 n s.2 (json.array js) (tree.list ts) s.4 s.5 (ts, s.6, refl) (omega arith) (omega arith) few))

  object_stands : (r : Result Tree ReadErrorKind) (ls : List Level) (d n m : ℕ) (q : List Token) (os : json.Members) (ms : Members) → object_tree ms ≡ r → Stands ls d n q → takes_value ls ≡ true
      → EncodesMembersIn floats os no_members ms → d + suc (members_depth os) ≤ limits.levels → m ≡ n + suc (members_count os) → m ≤ limits.values
      → StandsFor (completed_if r d m ls) (q ++ json_tokens (json.object os))
  object_stands (Err e) ls d n m q os ms is s takes h flat all few = tt
  object_stands (Ok t) ls d n m q os ms is s takes h flat all few = value_stands ls d n m q (json.object os) t s takes (ms, h, is) flat all few

  map_ends : (ls : List Level) (d n : ℕ) (p : List Token) → Stands ls d n p → n ≤ limits.values → StandsFor (end_map_step ls d n) (p ++ token.end_object ∷ [])
  map_ends [] d n p s few = tt
  map_ends (in_list ts ∷ ls) d n p s few = tt
  map_ends (in_value ms k ∷ ls) d n p s few = tt
  map_ends (in_key ms ∷ ls) d n p s few =
      let os = s.3 in
      let deep = s.10 in
      let counted = s.8 in
      let inner = s.7 in
      let outer : d - 1 ≡ s.0 = omega arith in
      subst (λ q. StandsFor (completed_if (object_tree ms) (d - 1) n ls) q)
      (ap (λ q. s.2 ++ token.begin_object ∷ q) (sym (members_closed os)) ∙ sym (append_assoc s.2 (token.begin_object ∷ open_members os) (token.end_object ∷ []))
      ∙ ap (λ q. q ++ token.end_object ∷ []) (sym s.9))
      (subst (λ e. StandsFor (completed_if (object_tree ms) e n ls) (s.2 ++ json_tokens (json.object os))) (sym outer)
      (object_stands (object_tree ms) ls s.0 s.1 n s.2 os ms refl s.4 s.5 s.6 (omega arith) (omega arith) few))

  -- `StandsFor` is true after a key.
  key_comes : (k : List ℕ) (ls : List Level) (d n : ℕ) (p : List Token) → Stands ls d n p → n ≤ limits.values → StandsFor (key_step k ls d n) (p ++ token.key k ∷ [])
  key_comes k [] d n p s few = tt
  key_comes k (in_list ts ∷ ls) d n p s few = tt
  key_comes k (in_value ms l ∷ ls) d n p s few = tt
  key_comes k (in_key ms ∷ ls) d n p s few = elim (cases_Bool (has_key k ms)) [
    | inl there ↦ subst (λ b. StandsFor (if b then failed DuplicateKey else going (in_value ms k ∷ ls) d n) (p ++ token.key k ∷ [])) (sym there) tt
    | inr fresh ↦
        subst (λ b. StandsFor (if b then failed DuplicateKey else going (in_value ms k ∷ ls) d n) (p ++ token.key k ∷ [])) (sym fresh) (
          (
            s.0,
            s.1,
            s.2,
            s.3,
            s.4,
            s.5,
            s.6,
            s.7,
            s.8,
            ap (λ q. q ++ token.key k ∷ []) s.9 ∙ append_assoc s.2 (token.begin_object ∷ open_members s.3) (token.key k ∷ []),
            s.10,
            fresh,
          ),
          few,
        )
  ]

  number_is : (r : Result ℤ ReadErrorKind) (s : List ℕ) (t : Tree) → number_in floats s ≡ r → as_integer r ≡ Ok t → EncodesIn floats (json.number s) t
  number_is (Ok m) s t is e = (m, is, cc)
  number_is (Err x) s t is e = absurd cc

  step_stands : (s : State) (p : List Token) (k : Token) → StandsFor s p → StandsFor (step floats limits s k) (p ++ k ∷ [])
  step_stands (done v) p k s = tt
  step_stands (failed e) p k s = tt
  step_stands (going ls d n) p token.begin_object s = map_begins ls d n p s.0
  step_stands (going ls d n) p token.end_object s = map_ends ls d n p s.0 s.1
  step_stands (going ls d n) p token.begin_array s = list_begins ls d n p s.0
  step_stands (going ls d n) p token.end_array s = list_ends ls d n p s.0 s.1
  step_stands (going ls d n) p (token.key k) s = key_comes k ls d n p s.0 s.1
  step_stands (going ls d n) p (token.string x) s = scalar_stands (Ok (tree.text x)) ls d n p (token.string x) (json.string x) s.0 (λ t e. cc) refl refl refl
  step_stands (going ls d n) p (token.number x) s =
      scalar_stands (as_integer (number_in floats x)) ls d n p (token.number x) (json.number x) s.0 (λ t e. number_is (number_in floats x) x t refl e) refl refl refl
  step_stands (going ls d n) p (token.boolean b) s = scalar_stands (Ok (tree.boolean b)) ls d n p (token.boolean b) (json.boolean b) s.0 (λ t e. cc) refl refl refl
  step_stands (going ls d n) p token.null s = scalar_stands (Ok tree.null) ls d n p token.null json.null s.0 (λ t e. cc) refl refl refl
  step_stands (going ls d n) p token.bad s = tt

  run_stands : (ts : List Token) (s : State) (p : List Token) → StandsFor s p → StandsFor (run floats limits s ts) (p ++ ts)
  run_stands [] s p h = subst (StandsFor s) (sym (append-nil p)) h
  run_stands (k ∷ ts) s p h = subst (StandsFor (run floats limits (step floats limits s k) ts)) (append_assoc p (k ∷ []) ts) (run_stands ts (step floats limits s k) (p ++ k ∷ []) (step_stands s p k h))

  pub found : (ts : List Token) (t : Tree) → run floats limits start ts ≡ done t → (j : json.Json) × (ts ≡ json_tokens j) × EncodesIn floats j t × JsonWithin limits j
  found ts t e = subst (λ s. StandsFor s ts) e (run_stands ts start [] ((refl, refl, refl), omega arith))
