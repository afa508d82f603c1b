-- This file defines the state of the machine for a reader of trees.
use Rattle.std.specs.Prelude.{List}
use Rattle.ipld_tree.specs.Tree as tree
use Rattle.ipld_tokens.specs.ReadMachine as reading
use Rattle.ipld_tokens.specs.ReadMachine.{ReadState, wanted, marked, done, rejected, never}
use Rattle.ipld_tokens.specs.OpenTree as building
use Rattle.ipld_tokens.specs.declared.tree_reader.Expected.{Expected}
use Rattle.ipld_tokens.specs.declared.tree_reader.Expected.TheVariants.{Any, Value, LinkBytes}
use Rattle.ipld_tokens.specs.declared.tree_reader.TreeReader.{TreeReader}

-- the state of a reader, from that of its tree. If the reader does not have a tree, it has read
-- null.
abbrev pub or_null : ReadState → ReadState
or_null (rejected never) = done tree.null
or_null s = s

-- the state of a reader, from the expected part, the state `s` of its tree and its levels `ls`
abbrev pub expecting : Expected → ReadState → List reading.Container → ReadState
expecting Any s ls = or_null s
expecting Value s ls = wanted ls
expecting LinkBytes s ls = marked ls

-- the levels of the tree of a reader, innermost first
abbrev pub levels_of : TreeReader → List reading.Container
levels_of reader = building.levels_of reader.tree

abbrev pub state_of : TreeReader → ReadState
state_of reader = expecting reader.expected (building.state_of reader.tree) (levels_of reader)
