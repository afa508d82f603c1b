use Rattle.std.proofs.Common.{◌≡◌, Bool, true, false, List, ℕ, Some, Result, Ok, Err, IfOk, ap, ◌∙◌}
use Rattle.ipld_tree.specs.TreeOf.{tree_of}
use Rattle.ipld_tree.specs.declared.ipld.Ipld.{Ipld}
use Rattle.ipld_tree.specs.declared.limits.Limits.{Limits}
use Rattle.dag_json.specs.Codec.{decoded_in}
use Rattle.dag_json.specs.Encodes.{EncodesWithinIn}
use Rattle.dag_json.specs.Lemmas.CodecLaws.{encoded_decodes}
use Rattle.dag_json.specs.declared.read_error.ReadError.{ReadError}
use Rattle.dag_json.proofs.block.decode_block.Goals as goal

-- what was read is what the block decodes to
is_decoded : (floats read : Bool) (limits : Limits) (s : List ℕ) (r : Result Ipld ReadError) → floats ≡ read → IfOk r (λ tree. EncodesWithinIn read limits (tree_of tree) s)
    → IfOk r (λ tree. decoded_in floats s ≡ Some (tree_of tree))
is_decoded floats read limits s (Ok tree) is h = ap (λ b. decoded_in b s) is ∙ encoded_decodes read (tree_of tree) s h.tree
is_decoded floats read limits s (Err e) is h = tt

pub returns-then-floats-clause-ok : goal.returns-then-floats-clause-ok
returns-then-floats-clause-ok c =
    is_decoded c.args.floats true c.block_limits-limits.result c.args.bytes.now c.from_slice.result c.if-floats.true c.from_slice.ensures.found

pub returns-else-floats-clause-ok : goal.returns-else-floats-clause-ok
returns-else-floats-clause-ok c =
    is_decoded c.args.floats false c.block_limits-limits.result c.args.bytes.now c.from_slice-else-floats.result c.if-floats.false
    c.from_slice-else-floats.ensures.found
