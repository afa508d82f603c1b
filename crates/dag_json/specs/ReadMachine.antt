-- The machine that reads a tree from the tokens of JSON: the state after a token, and the result of
-- tokens.
use Rattle.std.specs.Prelude.{ℕ, ℤ, ◌+◌, ◌-◌, Bool, true, false, nat_lt, if◌then◌else◌, List, [], ◌∷◌, Result, Ok, Err}
use Rattle.ipld_tokens.specs.ItemTree.{has_key}
use Rattle.ipld_tokens.specs.ReadMachine as reading
use Rattle.ipld_tokens.specs.ReadMachine.{and_item}
pub use Rattle.ipld_tokens.specs.ReadMachine.{in_list, in_key, in_value}
use Rattle.ipld_tree.specs.Put.{put}
use Rattle.ipld_tree.specs.Tree.{Tree, Items, no_items, Members, no_members}
use Rattle.ipld_tree.specs.Tree as tree
use Rattle.ipld_tree.specs.declared.limits.Limits.{Limits}
use Rattle.json.specs.Token as json
use Rattle.dag_json.specs.Floats.{number_in}
use Rattle.dag_json.specs.Objects.{object_tree}
use Rattle.dag_json.specs.declared.read_error.ReadErrorKind.{ReadErrorKind}
use Rattle.dag_json.specs.declared.read_error.ReadErrorKind.TheVariants.{Syntax, End, DuplicateKey, TooDeep, TooMany}

-- an open list with its items so far, an open map before a key or its end, or an open map after a
-- key
abbrev pub Level : Type 0
Level = reading.Container

pub data State : Type 0 where
  -- The value is not complete. The list has the open lists and maps, the innermost first. The
  -- numbers are the open levels and the values that have begun.
  going : List Level → ℕ → ℕ → State
  done : Tree → State
  failed : ReadErrorKind → State

abbrev pub start : State
start = going [] 0 0

-- the state after a value is complete
abbrev pub completed : Tree → ℕ → ℕ → List Level → State
completed t d n [] = done t
completed t d n (in_list ts ∷ ls) = going (in_list (and_item ts t) ∷ ls) d n
completed t d n (in_key ms ∷ ls) = failed Syntax
completed t d n (in_value ms k ∷ ls) = if has_key k ms then failed DuplicateKey else going (in_key (put k t ms) ∷ ls) d n

abbrev pub completed_if : Result Tree ReadErrorKind → ℕ → ℕ → List Level → State
completed_if (Ok t) d n ls = completed t d n ls
completed_if (Err e) d n ls = failed e

-- whether a value may come
abbrev pub takes_value : List Level → Bool
takes_value [] = true
takes_value (in_list ts ∷ ls) = true
takes_value (in_key ms ∷ ls) = false
takes_value (in_value ms k ∷ ls) = true

-- the state after a value that is not a list or a map, or after the error of its token
abbrev pub scalar_step : Limits → Result Tree ReadErrorKind → List Level → ℕ → ℕ → State
scalar_step limits (Ok t) ls d n = if nat_lt n limits.values then completed t d (n + 1) ls else failed TooMany
scalar_step limits (Err e) ls d n = failed e

abbrev pub value_step : Limits → Result Tree ReadErrorKind → List Level → ℕ → ℕ → State
value_step limits r ls d n = if takes_value ls then scalar_step limits r ls d n else failed Syntax

-- the state after the beginning of a list or a map
abbrev pub begin_step : Limits → Level → List Level → ℕ → ℕ → State
begin_step limits l ls d n =
    if takes_value ls then (if nat_lt d limits.levels then (if nat_lt n limits.values then going (l ∷ ls) (d + 1) (n + 1) else failed TooMany) else failed TooDeep)
    else failed Syntax

abbrev pub end_list_step : List Level → ℕ → ℕ → State
end_list_step (in_list ts ∷ ls) d n = completed (tree.list ts) (d - 1) n ls
end_list_step ls d n = failed Syntax

-- the state after the end of a map, which may be a link or bytes
abbrev pub end_map_step : List Level → ℕ → ℕ → State
end_map_step (in_key ms ∷ ls) d n = completed_if (object_tree ms) (d - 1) n ls
end_map_step ls d n = failed Syntax

abbrev pub key_step : List ℕ → List Level → ℕ → ℕ → State
key_step k (in_key ms ∷ ls) d n = if has_key k ms then failed DuplicateKey else going (in_value ms k ∷ ls) d n
key_step k ls d n = failed Syntax

abbrev pub as_integer : Result ℤ ReadErrorKind → Result Tree ReadErrorKind
as_integer (Ok n) = Ok (tree.integer n)
as_integer (Err e) = Err e

-- the state after a token if the value is not complete; the first argument is whether floats are
-- read
abbrev pub open_step : Bool → Limits → List Level → ℕ → ℕ → json.Token → State
open_step floats limits ls d n json.begin_object = begin_step limits (in_key no_members) ls d n
open_step floats limits ls d n json.end_object = end_map_step ls d n
open_step floats limits ls d n json.begin_array = begin_step limits (in_list no_items) ls d n
open_step floats limits ls d n json.end_array = end_list_step ls d n
open_step floats limits ls d n (json.key k) = key_step k ls d n
open_step floats limits ls d n (json.string s) = value_step limits (Ok (tree.text s)) ls d n
open_step floats limits ls d n (json.number s) = value_step limits (as_integer (number_in floats s)) ls d n
open_step floats limits ls d n (json.boolean b) = value_step limits (Ok (tree.boolean b)) ls d n
open_step floats limits ls d n json.null = value_step limits (Ok tree.null) ls d n
open_step floats limits ls d n json.bad = failed Syntax

abbrev pub step : Bool → Limits → State → json.Token → State
step floats limits (going ls d n) t = open_step floats limits ls d n t
step floats limits (done v) t = failed Syntax
step floats limits (failed e) t = failed e

abbrev pub run : Bool → Limits → State → List json.Token → State
run floats limits s [] = s
run floats limits s (t ∷ ts) = run floats limits (step floats limits s t) ts

-- the result of a state at the end of the text
abbrev pub outcome : State → Result Tree ReadErrorKind
outcome (going ls d n) = Err End
outcome (done t) = Ok t
outcome (failed e) = Err e

-- The tree that the tokens of JSON are within limits, with floats or without, or the kind of the
-- first error.
abbrev pub read_tokens : Bool → Limits → List json.Token → Result Tree ReadErrorKind
read_tokens floats limits ts = outcome (run floats limits start ts)
