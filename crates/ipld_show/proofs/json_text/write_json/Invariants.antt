use Rattle.std.proofs.Common.{ℕ, List, length, reverse}
use Rattle.ipld_show.specs.DataItem.{DataItem, BeginsWithItem}
use Rattle.ipld_show.proofs.Jsons.{Running}
use Rattle.ipld_show.proofs.json_text.write_json.Given as goal

abbrev pub invariant-loop : goal.invariant-loop
invariant-loop l =
    (d : DataItem) (behind : List ℕ) → BeginsWithItem d l.value behind
    → Running d (length l.value) (reverse l.frames.items) l.place l.initial.writer l.writer l.counter
