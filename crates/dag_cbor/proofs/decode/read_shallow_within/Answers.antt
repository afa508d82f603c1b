use Rattle.std.proofs.Common.{◌≤◌, ℕ, List, length, IfOk, Result, Ok, Err, arith}
use Rattle.ipld_tree.specs.Limits.{Within}
use Rattle.ipld_tree.specs.TreeOf.{tree_of}
use Rattle.ipld_tree.specs.Walk.{nest}
use Rattle.ipld_tree.specs.declared.ipld.Ipld.{Ipld}
use Rattle.ipld_tree.specs.declared.limits.Limits.{Limits}
use Rattle.dag_cbor_format.specs.Encoding.{EncodesTree}
use Rattle.dag_cbor_blocks.specs.declared.shallow.Stop.{Stop}
use Rattle.dag_cbor_blocks.proofs.Fits.{allowed}
use Rattle.dag_cbor.proofs.decode.read_shallow_within.Goals as goal

tree_allowed : (limits : Limits) (levels : ℕ) (bytes : List ℕ) (r : Result Ipld Stop) → levels ≤ limits.levels → length bytes ≤ limits.values
    → IfOk r (λ v. EncodesTree (tree_of v) bytes) → IfOk r (λ v. nest (tree_of v) ≤ levels) → IfOk r (λ v. Within limits (tree_of v))
tree_allowed limits levels bytes (Ok v) fits enough encodes flat = allowed limits levels (tree_of v) bytes encodes flat fits enough
tree_allowed limits levels bytes (Err stop) fits enough encodes flat = tt

pub returns-clause-within : goal.returns-clause-within
returns-clause-within c =
    tree_allowed c.args.limits.now _ c.args.bytes.now c.read_shallow.result (omega arith) (omega arith) c.read_shallow.ensures.found c.read_shallow.ensures.nested
