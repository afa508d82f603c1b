use Rattle.std.proofs.Common.{[]}
use Rattle.ipld_tokens.specs.OpenTree.{inside}
use Rattle.ipld_tokens.specs.ReaderState.{state_of}
use Rattle.ipld_tokens.specs.Token.{erase}
use Rattle.ipld_tokens.proofs.TreeLevels.{takes_open}
use Rattle.ipld_tokens.proofs.tree_reader.TreeReaderTokenConsumer.take.Goals as goal

pub returns-in-Any : goal.returns-in-Any
returns-in-Any c =
    let reader = c.args.self.now in
    let tree = reader.tree in
    takes_open reader.expected tree.innermost tree.tree (inside tree.outer.items []) (erase c.args.token.now) (state_of c.take_open.new.self) c.take_open.result c.in-Any.is c.requires
    c.take_open.ensures
