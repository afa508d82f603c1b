use Rattle.std.proofs.Common.{ℕ, List, ◌++◌, reverse, vec_len}
use Rattle.json.specs.Token.{Token}
use Rattle.dag_json.specs.Form.{Wrote}
use Rattle.ipld_show.specs.DataItem.{DataItem}
use Rattle.ipld_show.specs.JsonFrames.{Behind}
use Rattle.ipld_show.proofs.json_text.next_value_place.Given as goal

abbrev pub invariant-loop-frame : goal.invariant-loop-frame
invariant-loop-frame l =
    (whole : DataItem) (total : ℕ) (w : List Token) (n : ℕ) → Behind whole total (reverse l.initial.frames.items) l.fn.ended.rest.now l.fn.ended.containers.now w n
    → (tokens : List Token) × Wrote l.initial.writer l.writer tokens
    × Behind whole total (reverse l.frames.items) l.place.rest.now l.place.containers.now (w ++ tokens) n

abbrev pub decreases-loop-frame : goal.decreases-loop-frame
decreases-loop-frame l = vec_len l.frames
