-- The search for the place of a token, byte by byte. Only the crate's private clauses cite it.
use Rattle.std.specs.Prelude.{ℕ, suc, ◌-◌, Bool, true, false, cond, ◌&&◌, ◌||◌, ◌==◌, nat_lt, List, [], ◌∷◌, Option, Some, None}
use Rattle.json.specs.Ascii as ascii
use Rattle.json.specs.Lex as lex
use Rattle.dag_json.specs.declared.offset.Class.{Class}
use Rattle.dag_json.specs.declared.offset.Class.TheVariants.{Quote, Backslash, Operator, Space, Other}
use Rattle.dag_json.specs.declared.offset.Mode.{Mode}
use Rattle.dag_json.specs.declared.offset.Mode.TheVariants as mode
use Rattle.dag_json.specs.declared.offset.Last.{Last}
use Rattle.dag_json.specs.declared.offset.Last.TheVariants as last
use Rattle.dag_json.specs.declared.offset.Start.{Start}
use Rattle.dag_json.specs.declared.offset.Start.TheVariants as start
use Rattle.dag_json.specs.declared.offset.Walk.{Walk}

abbrev pub class_of : Class → lex.Class
class_of Quote = lex.quote
class_of Backslash = lex.backslash
class_of Operator = lex.operator
class_of Space = lex.space
class_of Other = lex.other

abbrev pub to_class : lex.Class → Class
to_class lex.quote = Quote
to_class lex.backslash = Backslash
to_class lex.operator = Operator
to_class lex.space = Space
to_class lex.other = Other

abbrev pub mode_of : Mode → lex.Mode
mode_of mode.Between = lex.between
mode_of mode.Word = lex.in_word
mode_of mode.String = lex.in_string
mode_of mode.Escape = lex.in_escape

abbrev pub mode_behind : Mode → Class → Mode
mode_behind mode.Between Quote = mode.String
mode_behind mode.Between Backslash = mode.Word
mode_behind mode.Between Operator = mode.Between
mode_behind mode.Between Space = mode.Between
mode_behind mode.Between Other = mode.Word
mode_behind mode.Word Quote = mode.Word
mode_behind mode.Word Backslash = mode.Word
mode_behind mode.Word Operator = mode.Between
mode_behind mode.Word Space = mode.Between
mode_behind mode.Word Other = mode.Word
mode_behind mode.String Quote = mode.Between
mode_behind mode.String Backslash = mode.Escape
mode_behind mode.String Operator = mode.String
mode_behind mode.String Space = mode.String
mode_behind mode.String Other = mode.String
mode_behind mode.Escape c = mode.String

abbrev pub operator_start : ℕ → Start
operator_start x =
    cond (x == ascii.open_brace) (start.Token last.Opening) (cond (x == ascii.close_brace) (start.Token last.Value) (cond (x == ascii.open_bracket) (start.Token last.Opening)
    (cond (x == ascii.close_bracket) (start.Token last.Value) (cond (x == ascii.comma) start.Comma start.Colon))))

abbrev pub start_in : Mode → Class → ℕ → Start
start_in mode.Between Quote x = start.Token last.String
start_in mode.Between Backslash x = start.Token last.Value
start_in mode.Between Operator x = operator_start x
start_in mode.Between Space x = start.Nothing
start_in mode.Between Other x = start.Token last.Value
start_in mode.Word Quote x = start.Nothing
start_in mode.Word Backslash x = start.Nothing
start_in mode.Word Operator x = operator_start x
start_in mode.Word Space x = start.Nothing
start_in mode.Word Other x = start.Nothing
start_in mode.String c x = start.Nothing
start_in mode.Escape c x = start.Nothing

abbrev pub ends_value : Last → Bool
ends_value last.Opening = false
ends_value last.Comma = false
ends_value last.Value = true
ends_value last.String = true

abbrev pub is_string : Last → Bool
is_string last.Opening = false
is_string last.Comma = false
is_string last.Value = false
is_string last.String = true

abbrev pub passed_start : Bool → Start → Mode → Last → ℕ → Option Walk
passed_start may start.Nothing m before left = Some (record { mode = m; last = before; left = left })
passed_start may start.Comma m before left = cond (ends_value before && (may || nat_lt 0 left)) (Some (record { mode = m; last = last.Comma; left = left })) None
passed_start may start.Colon m before left = cond (is_string before) (Some (record { mode = m; last = last.Opening; left = left })) None
passed_start may (start.Token this) m before left = cond (nat_lt 0 left) (Some (record { mode = m; last = this; left = left - 1 })) None

-- the state after a byte is passed, or nothing if the search ends before the byte
abbrev pub passed : Bool → Walk → ℕ → Option Walk
passed may w x =
    passed_start may (start_in w.mode (to_class (lex.class x)) x) (mode_behind w.mode (to_class (lex.class x))) w.last w.left

abbrev pub seek_next : Option Walk → (Walk → ℕ) → ℕ
seek_next None k = 0
seek_next (Some w) k = suc (k w)

-- the number of bytes that are passed
unfoldable pub seek : Bool → Walk → List ℕ → ℕ
seek may w [] = 0
seek may w (x ∷ s) = seek_next (passed may w x) (λ v. seek may v s)

abbrev pub first_walk : ℕ → Walk
first_walk n = record { mode = mode.Between; last = last.Opening; left = n }
