-- The text of a data item for people: a line for every value, and for every end of a list or a map
-- that isn't empty.
use Rattle.std.specs.Prelude.{◌≡◌, ℕ, zero, suc, nat_lt, min, Bool, true, false, if◌then◌else◌, List, [], ◌∷◌, ◌++◌, Option, Some, None, codes, decimal}
use Rattle.std.specs.Fmt.{signed_decimal}
use Rattle.std.specs.Int.{w64, from_be_bytes}
use Rattle.ipld_block.specs.Texts.{usual_text}
use Rattle.ipld_show.specs.DataItem.{DataItem, null, boolean, integer, float, text_string, byte_string, link, list, map, DataItems, no_items, item, DataEntries, no_entries, entry}
use Rattle.ipld_show.specs.Scalars.{hex_text, quoted, IsFloatText}

-- ---- lines

pub data Line : Type 0 where
  -- the line on which a value begins, at this level, after this key if there is one
  begins : ℕ → Option (List ℕ) → DataItem → Line
  -- the line on which a map or a list ends
  ends : Bool → ℕ → Line

-- the lines of the contents of a list or a map, and of its end, if it has contents
abbrev pub closed : List Line → Line → List Line
closed [] end = []
closed (l ∷ ls) end = (l ∷ ls) ++ end ∷ []

abbrev mutual
  -- the lines of an item after its first
  pub inner_lines : ℕ → DataItem → List Line
  inner_lines level (list ds) = closed (items_lines (suc level) ds) (ends false level)
  inner_lines level (map es) = closed (entries_lines (suc level) es) (ends true level)
  inner_lines level _ = []

  pub items_lines : ℕ → DataItems → List Line
  items_lines level no_items = []
  items_lines level (item d ds) = begins level None d ∷ (inner_lines level d ++ items_lines level ds)

  pub entries_lines : ℕ → DataEntries → List Line
  entries_lines level no_entries = []
  entries_lines level (entry k d es) = begins level (Some k) d ∷ (inner_lines level d ++ entries_lines level es)

-- The lines of an item at a level: its first line, after a key if there is one, those of its
-- contents, and that of its end.
abbrev pub lines_of : ℕ → Option (List ℕ) → DataItem → List Line
lines_of level key d = begins level key d ∷ inner_lines level d

-- ---- their text

abbrev pub spaces : ℕ → List ℕ
spaces zero = []
spaces (suc n) = 32 ∷ 32 ∷ spaces n

-- two spaces for every level up to 40, and the number of a deeper level
abbrev pub indent : ℕ → List ℕ
indent level = spaces (min level 40) ++ (if nat_lt 40 level then codes "(" ++ (decimal level ++ codes ") ") else [])

abbrev pub key_text : Option (List ℕ) → List ℕ
key_text None = []
key_text (Some k) = quoted k ++ codes ": "

-- True if this is the text of the item on its first line (RFC 8259, section 7, for strings).
abbrev pub IsFirstText : DataItem → List ℕ → Type 0
IsFirstText null t = t ≡ codes "null"
IsFirstText (boolean false) t = t ≡ codes "false"
IsFirstText (boolean true) t = t ≡ codes "true"
IsFirstText (integer n) t = t ≡ signed_decimal n
IsFirstText (float content) t = IsFloatText (from_be_bytes w64 content) t
IsFirstText (text_string s) t = t ≡ quoted s
IsFirstText (byte_string b) t = t ≡ codes "h'" ++ (hex_text b ++ codes "'")
IsFirstText (link encoded cid) t = t ≡ usual_text cid
IsFirstText (list no_items) t = t ≡ codes "[]"
IsFirstText (list (item d ds)) t = t ≡ codes "["
IsFirstText (map no_entries) t = t ≡ codes "{}"
IsFirstText (map (entry k d es)) t = t ≡ codes "{"

abbrev pub end_text : Bool → List ℕ
end_text false = codes "]\n"
end_text true = codes "}\n"

abbrev pub IsLineText : Line → List ℕ → Type 0
IsLineText (begins level key d) t = (s : List ℕ) × IsFirstText d s × (t ≡ indent level ++ (key_text key ++ (s ++ codes "\n")))
IsLineText (ends is_map level) t = t ≡ indent level ++ end_text is_map

-- True if the text is that of the lines, one after the other.
abbrev pub AreTextOf : List Line → List ℕ → Type 0
AreTextOf [] t = t ≡ []
AreTextOf (l ∷ ls) t = (first : List ℕ) × (more : List ℕ) × IsLineText l first × AreTextOf ls more × (t ≡ first ++ more)

-- True if this is the text of the item for people: a line for every value, and for every end of a
-- list or a map that is not empty.
abbrev pub IsTreeText : DataItem → List ℕ → Type 0
IsTreeText d t = AreTextOf (lines_of 0 None d) t
