-- The heads of data items.
use Rattle.std.specs.Prelude.{◌≡◌, ℕ, List, ◌++◌}
use Rattle.std.specs.Int.{w64, from_be_bytes}
use Rattle.ipld_cid.specs.Cid.{Link}
use Rattle.dag_cbor_format.specs.declared.item.ItemHead.{ItemHead}
use Rattle.dag_cbor_format.specs.declared.item.ItemHead.TheVariants as begin
use Rattle.ipld_show.specs.DataItem.{DataItem, null, boolean, integer, float, text_string, byte_string, link, list, map, DataItems, DataEntries, item_count, entry_count, items_encoding, entries_encoding}

-- True if the head is that of the item, and the bytes after the head begin with the contents of the
-- item, if it is a list or a map. The last argument is the bytes after them.
abbrev pub IsHeadOf : ItemHead → DataItem → List ℕ → List ℕ → Type 0
IsHeadOf begin.Null d rest behind = (d ≡ null) × (rest ≡ behind)
IsHeadOf (begin.Bool b) d rest behind = (d ≡ boolean b) × (rest ≡ behind)
IsHeadOf (begin.Integer n) d rest behind = (d ≡ integer n) × (rest ≡ behind)
IsHeadOf (begin.Float bits) d rest behind = (content : List ℕ) × (d ≡ float content) × (bits ≡ from_be_bytes w64 content) × (rest ≡ behind)
IsHeadOf (begin.Str s) d rest behind = (d ≡ text_string s.now) × (rest ≡ behind)
IsHeadOf (begin.Bytes b) d rest behind = (d ≡ byte_string b.now) × (rest ≡ behind)
IsHeadOf (begin.Link b) d rest behind = (cid : Link) × (d ≡ link b.now cid) × (rest ≡ behind)
IsHeadOf (begin.List n) d rest behind = (ds : DataItems) × (d ≡ list ds) × (n ≡ item_count ds) × (rest ≡ items_encoding ds ++ behind)
IsHeadOf (begin.Map n) d rest behind = (es : DataEntries) × (d ≡ map es) × (n ≡ entry_count es) × (rest ≡ entries_encoding es ++ behind)
