use Rattle.ipld_tree.specs.TreeOf.{tree_of}
use Rattle.ipld_tree.proofs.EveryIpld.{is_tree}
use Rattle.dag_json.proofs.codec.Blocks.{block_written, block_rejected}
use Rattle.dag_json.proofs.codec.encode_block.Goals as goal

pub returns-clause-ok : goal.returns-clause-ok
returns-clause-ok c =
    block_written (λ text. text.items) c.to_vec.result (tree_of c.args.value.now) (is_tree c.args.value.now) c.in_ok-try_nesting.ensures.whole c.to_vec.ensures.utf8 c.to_vec.ensures.ok

pub returns-clause-err : goal.returns-clause-err
returns-clause-err c = block_rejected c.to_vec.result (tree_of c.args.value.now) c.to_vec.ensures.err
