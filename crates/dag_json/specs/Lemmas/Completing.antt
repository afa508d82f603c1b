-- The tokens of JSON that encodes a tree lead the machine to that tree.
use Rattle.std.proofs.Common.{◌≡◌, ◌≤◌, ◌<◌, ◌+◌, ◌-◌, ℕ, suc, Bool, true, false, List, [], ◌∷◌, ◌++◌, nat_lt, Ok, refl, sym, ap, ◌∙◌, append_assoc, arith}
use Rattle.std.specs.Prelude.{if◌then◌else◌, max}
use Rattle.std.proofs.lemmas.Bool.{lt-ltb}
use Rattle.std.proofs.lemmas.List.{append-nil}
use Rattle.ipld_tokens.specs.ItemTree.{has_key}
use Rattle.ipld_tokens.specs.ReadMachine.{and_item}
use Rattle.ipld_tree.specs.Put.{put}
use Rattle.ipld_tree.specs.Tree.{Tree, Items, no_items, item, Members, no_members}
use Rattle.ipld_tree.specs.Tree as tree
use Rattle.ipld_tree.specs.declared.limits.Limits.{Limits}
use Rattle.json.specs.Json as json
use Rattle.json.specs.Token.{Token}
use Rattle.json.specs.Tree.{json_tokens, items_tokens, members_tokens, depth, items_depth, members_depth}
use Rattle.dag_json.specs.Encodes.{EncodesIn, EncodesItemsIn, EncodesMembersIn, count, items_count, members_count, JsonWithin}
use Rattle.dag_json.specs.Objects.{object_tree}
use Rattle.dag_json.specs.ReadMachine.{Level, in_list, in_key, in_value, going, done, failed, completed, completed_if, takes_value, scalar_step, value_step, begin_step, as_integer, run, start}
use Rattle.dag_json.specs.declared.read_error.ReadErrorKind.TheVariants.{Syntax, DuplicateKey, TooDeep, TooMany}

-- the items of one list, then those of another
abbrev pub join : Items → Items → Items
join no_items us = us
join (item t ts) us = item t (join ts us)

pub join-none : (ts : Items) → join ts no_items ≡ ts
join-none no_items = refl
join-none (item t ts) = ap (item t) (join-none ts)

pub join-and_item : (ts : Items) (t : Tree) (us : Items) → join (and_item ts t) us ≡ join ts (item t us)
join-and_item no_items t us = refl
join-and_item (item s ts) t us = ap (item s) (join-and_item ts t us)

max_left : (a b c : ℕ) → max a b ≤ c → a ≤ c
max_left a b c h = omega arith

max_right : (a b c : ℕ) → max a b ≤ c → b ≤ c
max_right a b c h = omega arith

module _ (floats : Bool) (limits : Limits) where
  scalar : (t u : Tree) (ls : List Level) (d n : ℕ) → u ≡ t → takes_value ls ≡ true → n + 1 ≤ limits.values → value_step limits (Ok t) ls d n ≡ completed u d (n + 1) ls
  scalar t u ls d n same takes few =
      ap (λ b. if b then scalar_step limits (Ok t) ls d n else failed Syntax) takes
      ∙ ap (λ b. if b then completed t d (n + 1) ls else failed TooMany) (lt-ltb n limits.values (omega arith)) ∙ ap (λ v. completed v d (n + 1) ls) (sym same)

  begun : (l : Level) (ls : List Level) (d n : ℕ) → takes_value ls ≡ true → d < limits.levels → n < limits.values → begin_step limits l ls d n ≡ going (l ∷ ls) (d + 1) (n + 1)
  begun l ls d n takes flat few =
      ap (λ b. if b then (if nat_lt d limits.levels then (if nat_lt n limits.values then going (l ∷ ls) (d + 1) (n + 1) else failed TooMany) else failed TooDeep) else failed Syntax) takes
      ∙ ap (λ b. if b then (if nat_lt n limits.values then going (l ∷ ls) (d + 1) (n + 1) else failed TooMany) else failed TooDeep) (lt-ltb d limits.levels flat)
      ∙ ap (λ b. if b then going (l ∷ ls) (d + 1) (n + 1) else failed TooMany) (lt-ltb n limits.values few)

  keyed : (k : List ℕ) (t : Tree) (ms : Members) (ls : List Level) (d n : ℕ) → has_key k ms ≡ false → completed t d n (in_value ms k ∷ ls) ≡ going (in_key (put k t ms) ∷ ls) d n
  keyed k t ms ls d n fresh = ap (λ b. if b then failed DuplicateKey else going (in_key (put k t ms) ∷ ls) d n) fresh

  mutual
    pub read_json : (j : json.Json) (t : Tree) (ls : List Level) (d n : ℕ) (rest : List Token) → EncodesIn floats j t → takes_value ls ≡ true → d + depth j ≤ limits.levels
        → n + count j ≤ limits.values → run floats limits (going ls d n) (json_tokens j ++ rest) ≡ run floats limits (completed t d (n + count j) ls) rest
    read_json json.null t ls d n rest e takes flat few = ap (λ s. run floats limits s rest) (scalar tree.null t ls d n e takes few)
    read_json (json.boolean b) t ls d n rest e takes flat few = ap (λ s. run floats limits s rest) (scalar (tree.boolean b) t ls d n e takes few)
    read_json (json.number s) t ls d n rest e takes flat few =
        ap (λ r. run floats limits (value_step limits (as_integer r) ls d n) rest) e.1
        ∙ ap (λ s. run floats limits s rest) (scalar (tree.integer e.0) t ls d n e.2 takes few)
    read_json (json.string s) t ls d n rest e takes flat few = ap (λ s. run floats limits s rest) (scalar (tree.text s) t ls d n e takes few)
    read_json (json.array js) t ls d n rest e takes flat few =
        ap (λ s. run floats limits s (items_tokens js ++ rest)) (begun (in_list no_items) ls d n takes (omega arith) (omega arith))
        ∙ read_items js e.0 no_items ls (d + 1) (n + 1) rest e.1 (omega arith) (omega arith)
        ∙ (let back : d + 1 - 1 ≡ d = omega arith in let all : n + 1 + items_count js ≡ n + suc (items_count js) = omega arith in
        ap (λ k. run floats limits (completed (tree.list e.0) k (n + 1 + items_count js) ls) rest) back
        ∙ ap (λ k. run floats limits (completed (tree.list e.0) d k ls) rest) all ∙ ap (λ v. run floats limits (completed v d (n + suc (items_count js)) ls) rest) (sym e.2))
    read_json (json.object os) t ls d n rest e takes flat few =
        ap (λ s. run floats limits s (members_tokens os ++ rest)) (begun (in_key no_members) ls d n takes (omega arith) (omega arith))
        ∙ read_members os no_members e.0 ls (d + 1) (n + 1) rest e.1 (omega arith) (omega arith)
        ∙ (let back : d + 1 - 1 ≡ d = omega arith in let all : n + 1 + members_count os ≡ n + suc (members_count os) = omega arith in
        ap (λ k. run floats limits (completed_if (object_tree e.0) k (n + 1 + members_count os) ls) rest) back
        ∙ ap (λ k. run floats limits (completed_if (object_tree e.0) d k ls) rest) all ∙ ap (λ r. run floats limits (completed_if r d (n + suc (members_count os)) ls) rest) e.2)

    read_items : (js : json.Items) (us before : Items) (ls : List Level) (d n : ℕ) (rest : List Token) → EncodesItemsIn floats js us → d + items_depth js ≤ limits.levels
        → n + items_count js ≤ limits.values
        → run floats limits (going (in_list before ∷ ls) d n) (items_tokens js ++ rest) ≡ run floats limits (completed (tree.list (join before us)) (d - 1) (n + items_count js) ls) rest
    read_items json.no_items us before ls d n rest e flat few =
        let all : n ≡ n + 0 = omega arith in
        ap (λ ts. run floats limits (completed (tree.list ts) (d - 1) n ls) rest) (sym (join-none before) ∙ ap (join before) (sym e))
        ∙ ap (λ k. run floats limits (completed (tree.list (join before us)) (d - 1) k ls) rest) all
    read_items (json.item j js) us before ls d n rest e flat few =
        let all : n + count j + items_count js ≡ n + (count j + items_count js) = omega arith in
        ap (run floats limits (going (in_list before ∷ ls) d n)) (append_assoc (json_tokens j) (items_tokens js) rest)
        ∙ read_json j e.0 (in_list before ∷ ls) d n (items_tokens js ++ rest) e.2 refl (omega arith) (omega arith)
        ∙ read_items js e.1 (and_item before e.0) ls d (n + count j) rest e.3 (omega arith) (omega arith)
        ∙ ap (λ ts. run floats limits (completed (tree.list ts) (d - 1) (n + count j + items_count js) ls) rest) (join-and_item before e.0 e.1 ∙ ap (join before) (sym e.4))
        ∙ ap (λ k. run floats limits (completed (tree.list (join before us)) (d - 1) k ls) rest) all

    read_members : (os : json.Members) (ms all : Members) (ls : List Level) (d n : ℕ) (rest : List Token) → EncodesMembersIn floats os ms all → d + members_depth os ≤ limits.levels
        → n + members_count os ≤ limits.values
        → run floats limits (going (in_key ms ∷ ls) d n) (members_tokens os ++ rest) ≡ run floats limits (completed_if (object_tree all) (d - 1) (n + members_count os) ls) rest
    read_members json.no_members ms all ls d n rest e flat few =
        let whole : n ≡ n + 0 = omega arith in
        ap (λ us. run floats limits (completed_if (object_tree us) (d - 1) n ls) rest) (sym e) ∙ ap (λ k. run floats limits (completed_if (object_tree all) (d - 1) k ls) rest) whole
    read_members (json.member k j os) ms all ls d n rest e flat few =
        let whole : n + count j + members_count os ≡ n + (count j + members_count os) = omega arith in
        ap (λ b. run floats limits (if b then failed DuplicateKey else going (in_value ms k ∷ ls) d n) ((json_tokens j ++ members_tokens os) ++ rest)) e.1
        ∙ ap (run floats limits (going (in_value ms k ∷ ls) d n)) (append_assoc (json_tokens j) (members_tokens os) rest)
        ∙ read_json j e.0 (in_value ms k ∷ ls) d n (members_tokens os ++ rest) e.2 refl (omega arith) (omega arith)
        ∙ ap (λ s. run floats limits s (members_tokens os ++ rest)) (keyed k e.0 ms ls d (n + count j) e.1)
        ∙ read_members os (put k e.0 ms) all ls d (n + count j) rest e.3 (omega arith) (omega arith)
        ∙ ap (λ k. run floats limits (completed_if (object_tree all) (d - 1) k ls) rest) whole

  -- The tokens of JSON within the limits lead from the start to the tree that it encodes.
  pub reads_whole : (j : json.Json) (t : Tree) → EncodesIn floats j t → JsonWithin limits j → run floats limits start (json_tokens j) ≡ done t
  reads_whole j t e within =
      let levels = within.levels in
      let values = within.values in
      ap (run floats limits start) (sym (append-nil (json_tokens j))) ∙ read_json j t [] 0 0 [] e refl (omega arith) (omega arith)
