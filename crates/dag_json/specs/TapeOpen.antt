-- Lists and maps that are written to a tape from their last value to their first. Only private
-- clauses cite it.
use Rattle.std.specs.Prelude.{◌≡◌, ℕ, suc, ◌+◌, ◌*◌, ◌<◌, Bool, true, false, List, [], ◌∷◌, ◌++◌, map, length, reverse, Option, Some, None, Result, Ok, Err, option_map, string_bytes}
use Rattle.ipld_tree.specs.Size.{total}
use Rattle.ipld_tree.specs.TreeOf.{tree_of}
use Rattle.ipld_tree.specs.declared.ipld.Ipld.{Ipld}
use Rattle.dag_cbor_blocks.specs.Tape.{all_short}
use Rattle.dag_json.specs.TapeWriting.{Written, keyed, written, closed}
use Rattle.dag_json.specs.declared.tape.open.OpenContainer.{OpenContainer}
use Rattle.dag_json.specs.declared.tape.open.Rest.{Rest}
use Rattle.dag_json.specs.declared.tape.open.Rest.TheVariants as rest
use Rattle.dag_json.specs.declared.tape.write.TapeWriter.{TapeWriter}
use Rattle.dag_json.specs.declared.tape.write.WriteError.{WriteError}
use Rattle.dag_json.specs.declared.tape.write.WriteError.TheVariants.{Memory, TooLong}

-- the entries of a writer, the last written one first, and its contents
abbrev pub view : TapeWriter → Written
view w = record { entries = reverse w.entries.items; contents = w.contents.items }

-- a value, with its key if it is in a map
abbrev pub Pending : Type 0
Pending = Option (List ℕ) × Ipld

abbrev pub left_of : Rest → List Pending
left_of (rest.Items v) = map (λ x. (None, x)) v.items
left_of (rest.Members m) = map (λ e. (Some (string_bytes e.0), e.1)) m.entries

-- the kind of the entry of a list (9) or a map (10)
abbrev pub kind_of : Rest → ℕ
kind_of (rest.Items v) = 9
kind_of (rest.Members m) = 10

-- the output after values and their keys are written, the last value first
abbrev pub all_written : List Pending → Written → Written
all_written [] w = w
all_written (p ∷ ps) w = keyed p.0 (written (tree_of p.1) (all_written ps w))

-- the output after the remaining values of a list or a map, the list or map, and its key are
-- written
abbrev pub closed_container : OpenContainer → Written → Written
closed_container c w = keyed (option_map string_bytes c.key) (closed (kind_of c.rest) c.count c.behind (all_written (left_of c.rest) w))

-- the output after all open lists and maps are written, which are ordered from the outermost
abbrev pub finish : List OpenContainer → Written → Written
finish [] w = w
finish (c ∷ cs) w = closed_container c (finish cs w)

-- a bound on the remaining iterations of the loop
abbrev pub load : List OpenContainer → ℕ
load [] = 0
load (c ∷ cs) = suc (2 * total (map (λ p. p.1) (left_of c.rest))) + load cs

-- True if `os'` is `os` with a list or a map at its end, and nothing was written. It has this key
-- and count, its remaining values are `inner`, and all entries of `before` come after it.
pub record Enters (key : Option (List ℕ)) (inner : Rest) (count : ℕ) (before after : Written) (os os' : List OpenContainer) : Type 0 where
  pub container : OpenContainer
  pub opened : os' ≡ os ++ container ∷ []
  pub same : after ≡ before
  pub key_is : option_map string_bytes container.key ≡ key
  pub rest_is : container.rest ≡ inner
  pub count_is : container.count ≡ count
  pub behind_is : container.behind ≡ length before.entries

-- True if an iteration kept the final output and decreased the load. If the bool is false, nothing
-- was open and nothing was written. An error is an entry of the final output that is too long, or a
-- failed allocation.
abbrev pub Steps :
    Result Bool WriteError → List OpenContainer → Written → List OpenContainer → Written → Type 0
Steps (Ok false) os before os' after = (os ≡ []) × (after ≡ before)
Steps (Ok true) os before os' after = (finish os' after ≡ finish os before) × (load os' < load os)
Steps (Err Memory) os before os' after = Unit {0}
Steps (Err TooLong) os before os' after = all_short (finish os before).entries ≡ false
