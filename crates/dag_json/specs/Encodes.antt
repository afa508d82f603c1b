-- DAG-JSON (IPLD's DAG-JSON specification) as people type it: the trees that JSON, and a text,
-- encode.
use Rattle.std.specs.Prelude.{◌≡◌, ◌≤◌, ℕ, ℤ, suc, ◌+◌, Bool, false, List, Ok}
use Rattle.std.specs.Str.{IsUtf8}
use Rattle.ipld_tokens.specs.ItemTree.{has_key}
use Rattle.ipld_tree.specs.Put.{put}
use Rattle.ipld_tree.specs.Tree.{Tree, null, boolean, integer, text, list, Items, no_items, item, Members, no_members}
use Rattle.ipld_tree.specs.declared.limits.Limits.{Limits}
use Rattle.json.specs.Json as json
use Rattle.json.specs.Lex as lex
use Rattle.json.specs.Tree.{json_tokens, depth}
use Rattle.dag_json.specs.Floats.{number_in}
use Rattle.dag_json.specs.Objects.{object_tree}

abbrev mutual
  -- True if the JSON encodes the tree. A number encodes its integer or, if floats are read, the
  -- integer that represents the float. An object encodes the result of `object_tree` for the map of
  -- its members. All other JSON encodes itself (IPLD DAG-JSON).
  pub EncodesIn : Bool → json.Json → Tree → Type 0
  EncodesIn floats json.null t = t ≡ null
  EncodesIn floats (json.boolean b) t = t ≡ boolean b
  EncodesIn floats (json.number s) t = (n : ℤ) × (number_in floats s ≡ Ok n) × (t ≡ integer n)
  EncodesIn floats (json.string s) t = t ≡ text s
  EncodesIn floats (json.array js) t = (ts : Items) × EncodesItemsIn floats js ts × (t ≡ list ts)
  EncodesIn floats (json.object os) t = (ms : Members) × EncodesMembersIn floats os no_members ms × (object_tree ms ≡ Ok t)

  -- True if the items encode the trees, one by one in order.
  pub EncodesItemsIn : Bool → json.Items → Items → Type 0
  EncodesItemsIn floats json.no_items ts = ts ≡ no_items
  EncodesItemsIn floats (json.item j js) ts = (t : Tree) × (us : Items) × EncodesIn floats j t × EncodesItemsIn floats js us × (ts ≡ item t us)

  -- True if the map `all` is `ms` with the members of an object, which are in any order. The value
  -- of a member encodes its tree. The map doesn't have the key of a member yet, so no key comes
  -- twice.
  pub EncodesMembersIn : Bool → json.Members → Members → Members → Type 0
  EncodesMembersIn floats json.no_members ms all = all ≡ ms
  EncodesMembersIn floats (json.member k j os) ms all = (t : Tree) × (has_key k ms ≡ false) × EncodesIn floats j t × EncodesMembersIn floats os (put k t ms) all

-- the number of values in the JSON: itself, and the items and the members' values in it
abbrev mutual
  pub count : json.Json → ℕ
  count json.null = 1
  count (json.boolean b) = 1
  count (json.number s) = 1
  count (json.string s) = 1
  count (json.array js) = suc (items_count js)
  count (json.object os) = suc (members_count os)

  pub items_count : json.Items → ℕ
  items_count json.no_items = 0
  items_count (json.item j js) = count j + items_count js

  pub members_count : json.Members → ℕ
  members_count json.no_members = 0
  members_count (json.member k j os) = count j + members_count os

-- True if the JSON is within the limits of a reader: the depth of arrays and objects, and the
-- number of values. A link is two values one level deep, and bytes are three values two levels
-- deep.
pub record JsonWithin (limits : Limits) (j : json.Json) : Type 0 where
  pub levels : depth j ≤ limits.levels
  pub values : count j ≤ limits.values

-- True if, by the grammar of the toolchain's `json`, the tokens of the text are those of the JSON,
-- however deep it nests (RFC 8259).
abbrev pub IsJson : json.Json → List ℕ → Type 0
IsJson j s = lex.tokens s ≡ json_tokens j

-- True if the text is UTF-8, and JSON that encodes the tree, with floats or without (IPLD
-- DAG-JSON).
pub record EncodesTreeIn (floats : Bool) (t : Tree) (s : List ℕ) : Type 0 where
  pub utf8 : IsUtf8 s
  pub json : json.Json
  pub is_json : IsJson json s
  pub encodes : EncodesIn floats json t

-- True if the text encodes the tree, with floats or without, by JSON within the limits.
pub record EncodesWithinIn (floats : Bool) (limits : Limits) (t : Tree) (s : List ℕ) : Type 0 where
  pub tree : EncodesTreeIn floats t s
  pub within : JsonWithin limits tree.json

-- ---- without floats

-- True if the text is UTF-8, and JSON that encodes the tree, without floats (IPLD DAG-JSON).
abbrev pub EncodesTree : Tree → List ℕ → Type 0
EncodesTree t s = EncodesTreeIn false t s

-- True if the text encodes the tree, without floats, by JSON within the limits.
abbrev pub EncodesWithin : Limits → Tree → List ℕ → Type 0
EncodesWithin limits t s = EncodesWithinIn false limits t s
