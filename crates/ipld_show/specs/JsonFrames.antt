-- The parts of a block that the writer of DAG-JSON has still to write.
use Rattle.std.specs.Prelude.{◌≡◌, ℕ, suc, ◌+◌, List, [], ◌∷◌, ◌++◌, length, map, reverse, Option, Some, None}
use Rattle.std.specs.List.{sum_by}
use Rattle.ipld_cid.specs.Bytes.{IsCid}
use Rattle.ipld_cid.specs.Cid.{Link}
use Rattle.ipld_tree.specs.Tree as tree
use Rattle.json.specs.Json.{Json}
use Rattle.json.specs.Json as json
use Rattle.json.specs.Token.{Token}
use Rattle.json.specs.Tree.{json_tokens, items_tokens, members_tokens}
use Rattle.json.specs.Written.{Written}
use Rattle.dag_cbor_format.specs.declared.item.ItemHead.{ItemHead}
use Rattle.dag_cbor_format.specs.declared.item.ItemHead.TheVariants as begin
use Rattle.dag_json.specs.Form.{json_of, Wrote}
use Rattle.ipld_show.specs.DataItem.{DataItem, list, map as of_entries, DataItems, no_items, item, DataEntries, no_entries, entry, item_count, items_encoding, AreDataItems}
use Rattle.ipld_show.specs.Extents.{items_extents}
use Rattle.ipld_show.specs.JsonText.{Member, IsFloatJson, IsItemJson, AreItemsJson, AreMembersJson}
use Rattle.ipld_show.specs.Places.{HoldsPart, ItemsStand, KnownEntry}
use Rattle.ipld_show.specs.declared.containers.Extent.{Extent}
use Rattle.ipld_show.specs.declared.places.Place.{Place}
use Rattle.ipld_show.specs.declared.places.Entry.{Entry}
use Rattle.ipld_show.specs.declared.json_text.Frame.{Frame}
use Rattle.ipld_show.specs.declared.json_text.Frame.TheVariants as frame
use Rattle.ipld_show.specs.declared.json_text.Step.{Step}
use Rattle.ipld_show.specs.declared.json_text.Step.TheVariants.{Value, End}

-- ---- the number of items in an item, itself included

abbrev mutual
  pub items_in : DataItem → ℕ
  items_in (list ds) = suc (items_in_items ds)
  items_in (of_entries es) = suc (items_in_entries es)
  items_in _ = 1

  pub items_in_items : DataItems → ℕ
  items_in_items no_items = 0
  items_in_items (item d ds) = items_in d + items_in_items ds

  pub items_in_entries : DataEntries → ℕ
  items_in_entries no_entries = 0
  items_in_entries (entry k d es) = items_in d + items_in_entries es

abbrev pub items_in_members : List Member → ℕ
items_in_members ms = sum_by (λ (m : Member). items_in m.1) ms

-- ---- the beginning of a value

-- True if the JSON is that of the value with this head, or the head is that of a list or a map.
abbrev pub IsHeadJson : ItemHead → Json → Type 0
IsHeadJson begin.Null j = j ≡ json_of tree.null
IsHeadJson (begin.Bool b) j = j ≡ json_of (tree.boolean b)
IsHeadJson (begin.Integer n) j = j ≡ json_of (tree.integer n)
IsHeadJson (begin.Float bits) j = IsFloatJson bits j
IsHeadJson (begin.Str s) j = j ≡ json_of (tree.text s.now)
IsHeadJson (begin.Bytes b) j = j ≡ json_of (tree.bytes b.now)
IsHeadJson (begin.Link b) j = (cid : Link) × IsCid 64 b.now cid × (j ≡ json_of (tree.link cid))
IsHeadJson _ j = Unit {0}

-- ---- open lists and maps

-- True if `rest` begins with the `left` items that an open list still has, which are parts of
-- `whole`, and `listed` with their extents. With the tokens of any JSON of these items after
-- `written`, the list has ended, and `Outside` holds. `n` counts the items in them and `outside`
-- more.
pub record ItemsLeft (whole : DataItem) (total : ℕ) (left : ℕ) (rest : List ℕ) (listed : List Extent) (written : List Token) (n : ℕ)
    (Outside : List ℕ → List Extent → List Token → ℕ → Type 0) : Type 0 where
  pub items : DataItems
  pub mid : List ℕ
  pub post : List Extent
  pub outside : ℕ
  pub are_items : AreDataItems items
  pub count : left ≡ item_count items
  pub encoded : rest ≡ items_encoding items ++ mid
  pub listed_so : listed ≡ items_extents items ++ post
  pub stand : ItemsStand whole total (length rest) items
  pub all : n ≡ items_in_items items + outside
  pub ends : (js : json.Items) → AreItemsJson items js → Outside mid post (written ++ items_tokens js) outside

-- True if `entries` are the entries that an open map still has, the next one last. With the tokens
-- of any JSON of these entries after `written`, the map has ended, and `Outside` holds. `n` counts
-- the items in them and `outside` more.
pub record EntriesLeft (whole : DataItem) (total : ℕ) (entries : List Entry) (written : List Token) (n : ℕ) (Outside : List Token → ℕ → Type 0) : Type 0 where
  pub known : List (KnownEntry whole total)
  pub outside : ℕ
  pub are : entries ≡ reverse (map (λ k. k.entry) known)
  pub all : n ≡ items_in_members (map (λ k. k.member) known) + outside
  pub ends : (js : json.Members) → AreMembersJson (map (λ k. k.member) known) js → Outside (written ++ members_tokens js) outside

-- True if these are the tokens of the JSON of the whole item.
abbrev pub IsWhole : DataItem → List Token → Type 0
IsWhole whole written = (j : Json) × IsItemJson whole j × (written ≡ json_tokens j)

-- True if `written` are the tokens of `whole` up to this place: a value ended there, or the
-- innermost list or map begins. The open lists and maps are `frames`, innermost first, and `n`
-- counts at least the items that are left in them.
abbrev pub Behind : DataItem → ℕ → List Frame → List ℕ → List Extent → List Token → ℕ → Type 0
Behind whole total [] rest listed written n = IsWhole whole written
Behind whole total (frame.List left ∷ fs) rest listed written n = ItemsLeft whole total left rest listed written n (λ mid post w m. Behind whole total fs mid post w m)
Behind whole total (frame.Map entries after ∷ fs) rest listed written n =
    EntriesLeft whole total entries.items written n (λ w m. Behind whole total fs after.rest.now after.containers.now w m)

-- True if a value is next, at this place, and the rest of the open lists and maps follows it.
pub record Coming (whole : DataItem) (total : ℕ) (frames : List Frame) (place : Place) (written : List Token) (n : ℕ) : Type 0 where
  pub value : DataItem
  pub part : HoldsPart whole total value place
  pub outside : ℕ
  pub all : n ≡ items_in value + outside
  pub ends : (j : Json) → IsItemJson value j → Behind whole total frames part.mid part.post (written ++ json_tokens j) outside

-- True if a scalar, or the beginning of a list or a map, was written, and one item less is left.
pub record Begun (whole : DataItem) (total : ℕ) (frames : List Frame) (place : Place) (written : List Token) (n : ℕ) (old new : Written) : Type 0 where
  pub tokens : List Token
  pub left : ℕ
  pub wrote : Wrote old new tokens
  pub fewer : n ≡ suc left
  pub behind : Behind whole total frames place.rest.now place.containers.now (written ++ tokens) left

-- True if a value is next at the place of the step, or the innermost list or map has ended there.
abbrev pub StepsTo : DataItem → ℕ → List Frame → Step → List Token → ℕ → Type 0
StepsTo whole total frames (Value place) written n = Coming whole total frames place written n
StepsTo whole total frames (End place) written n = Behind whole total frames place.rest.now place.containers.now written n

pub record Steps (whole : DataItem) (total : ℕ) (frames : List Frame) (step : Step) (written : List Token) (n : ℕ) (old new : Written) : Type 0 where
  pub tokens : List Token
  pub wrote : Wrote old new tokens
  pub to : StepsTo whole total frames step (written ++ tokens) n

-- True if the step is a value, or `new` lists and maps are open, the same number as `old`.
abbrev pub LeavesIt : Step → ℕ → ℕ → Type 0
LeavesIt (Value place) old new = Unit {0}
LeavesIt (End place) old new = new ≡ old

-- True if the next value is at this place, or, without a place, the whole was written.
abbrev pub ComesNext : DataItem → ℕ → List Frame → Option Place → List Token → ℕ → Type 0
ComesNext whole total frames None written n = IsWhole whole written
ComesNext whole total frames (Some place) written n = Coming whole total frames place written n

pub record Leads (whole : DataItem) (total : ℕ) (frames : List Frame) (next : Option Place) (written : List Token) (n : ℕ) (old new : Written) : Type 0 where
  pub tokens : List Token
  pub wrote : Wrote old new tokens
  pub to : ComesNext whole total frames next (written ++ tokens) n
