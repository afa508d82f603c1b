-- The lines that the writer of trees has still to write.
use Rattle.std.specs.Prelude.{◌≡◌, ◌==◌, ℕ, suc, Bool, true, false, if◌then◌else◌, List, [], ◌∷◌, ◌++◌, length, reverse, Option, Some, None, option_map, codes}
use Rattle.std.specs.Borrow.{Bor}
use Rattle.std.specs.Fmt.{signed_decimal}
use Rattle.std.specs.Io.KnownBytes.{Appends}
use Rattle.ipld_cid.specs.Cid.{Link}
use Rattle.ipld_cid.specs.Bytes.{IsCid}
use Rattle.ipld_block.specs.Texts.{usual_text}
use Rattle.dag_cbor_format.specs.declared.item.ItemHead.{ItemHead}
use Rattle.dag_cbor_format.specs.declared.item.ItemHead.TheVariants as begin
use Rattle.ipld_show.specs.DataItem.{DataItem, DataItems, DataEntries, item_count, entry_count, items_encoding, entries_encoding, AreDataItems, AreDataEntries, BeginsWithItem}
use Rattle.ipld_show.specs.Scalars.{hex_text, quoted, IsFloatText}
use Rattle.ipld_show.specs.TreeText.{Line, ends, items_lines, entries_lines, lines_of, AreTextOf}
use Rattle.ipld_show.specs.declared.tree_text.Level.{Level}

-- True if the head is not that of a link, or its bytes are those of a CID.
abbrev pub HasCid : ItemHead → Type 0
HasCid (begin.Link b) = (cid : Link) × IsCid 64 b.now cid
HasCid _ = Unit {0}

-- True if the text is that of the first line of an item with this head.
abbrev pub IsHeadText : ItemHead → List ℕ → Type 0
IsHeadText begin.Null t = t ≡ codes "null"
IsHeadText (begin.Bool false) t = t ≡ codes "false"
IsHeadText (begin.Bool true) t = t ≡ codes "true"
IsHeadText (begin.Integer n) t = t ≡ signed_decimal n
IsHeadText (begin.Float bits) t = IsFloatText bits t
IsHeadText (begin.Str s) t = t ≡ quoted s.now
IsHeadText (begin.Bytes b) t = t ≡ codes "h'" ++ (hex_text b.now ++ codes "'")
IsHeadText (begin.Link b) t = (cid : Link) × IsCid 64 b.now cid × (t ≡ usual_text cid)
IsHeadText (begin.List n) t = t ≡ (if n == 0 then codes "[]" else codes "[")
IsHeadText (begin.Map n) t = t ≡ (if n == 0 then codes "{}" else codes "{")

abbrev pub level : Bool → ℕ → Level
level is_map left = record { is_map = is_map; left = left }

-- the level that a list or a map opens, if it isn't empty
abbrev pub opens : ItemHead → Option Level
opens (begin.List n) = if n == 0 then None else Some (level false n)
opens (begin.Map n) = if n == 0 then None else Some (level true n)
opens _ = None

-- the levels with the level that opens, if there is one, in front of them
abbrev pub with_level : Option Level → List Level → List Level
with_level None ls = ls
with_level (Some l) ls = l ∷ ls

-- True if `bytes` begins with the `left` items or entries that a list or a map still has, and `mid`
-- follows. Its line has the level `n`, and `own` are the lines of these items and of its end.
abbrev pub Holds : Bool → ℕ → ℕ → List ℕ → List Line → List ℕ → Type 0
Holds false n left bytes own mid = (ds : DataItems) × AreDataItems ds × (left ≡ item_count ds) × (bytes ≡ items_encoding ds ++ mid) × (own ≡ items_lines (suc n) ds ++ ends false n ∷ [])
Holds true n left bytes own mid = (es : DataEntries) × AreDataEntries es × (left ≡ entry_count es) × (bytes ≡ entries_encoding es ++ mid) × (own ≡ entries_lines (suc n) es ++ ends true n ∷ [])

-- True if the open lists and maps, innermost first, have these bytes and these lines left.
abbrev pub Open : List Level → List ℕ → List Line → Type 0
Open [] bytes left = left ≡ []
Open (l ∷ ls) bytes left = (own : List Line) × (outer : List Line) × (mid : List ℕ) × Holds l.is_map (length ls) l.left bytes own mid × Open ls mid outer × (left ≡ own ++ outer)

-- True if an item is next in the innermost list or map, `l.left` more follow it there, and these
-- are the lines left.
abbrev pub OpenNext : Level → List Level → List ℕ → List Line → Type 0
OpenNext l ls bytes left =
    (own : List Line) × (outer : List Line) × (mid : List ℕ) × Holds l.is_map (length ls) (suc l.left) bytes own mid × Open ls mid outer × (left ≡ own ++ outer)

-- True if the first of the lines were written, and the lines `todo` are left.
pub record Ended (lines todo : List Line) (old new : Option (List ℕ)) : Type 0 where
  pub ended : List Line
  pub text : List ℕ
  pub is_text : AreTextOf ended text
  pub written : Appends old new text
  pub all : lines ≡ ended ++ todo

abbrev pub Leaves : List ℕ → List Line → List Level → Option Level → Option (List ℕ) → Option (List ℕ) → Type 0
Leaves bytes lines levels None old new = Ended lines [] old new
Leaves bytes lines levels (Some l) old new = (outer : List Level) × (todo : List Line) × (reverse levels ≡ l ∷ outer) × OpenNext l outer bytes todo × Ended lines todo old new

-- True if the next item of a list or a map begins at the place, after its key if it has one. The
-- line of the list or map has the level `n`, and `own` are its lines left.
abbrev pub ComesTo : ℕ → Level → List Line → List ℕ → Option (Bor (List ℕ)) × Bor (List ℕ) → Type 0
ComesTo n l own mid place =
    (d : DataItem) × (more : List ℕ) × (others : List Line) × BeginsWithItem d place.1.now more × Holds l.is_map n l.left more others mid
    × (own ≡ lines_of (suc n) (option_map (λ k. k.now) place.0) d ++ others)
