use Rattle.std.specs.Int.{w128}
use Rattle.std.proofs.lemmas.Int.{to_z-of_z}
use Rattle.ipld_tokens.specs.Token.{atom, text}
use Rattle.dag_cbor.specs.Building.{tree_answer}
use Rattle.dag_cbor.proofs.Building.{takes, takes_integer}
use Rattle.dag_cbor_blocks.proofs.Visits.{takes_part}
use Rattle.dag_cbor.proofs.tree.TreeBuilderVisitor.visit.Goals as goal

pub returns-in-Null : goal.returns-in-Null
returns-in-Null c = λ key.
    takes_part tree_answer c.args.self.now c.add_null.new.self c.args.event.now _ c.add_null.result c.args._left key c.in-Null.is c.add_null.ensures

pub returns-in-Bool : goal.returns-in-Bool
returns-in-Bool c = λ key.
    takes_part tree_answer c.args.self.now c.add_bool.new.self c.args.event.now _ c.add_bool.result c.args._left key c.in-Bool.is c.add_bool.ensures

pub returns-in-Bytes : goal.returns-in-Bytes
returns-in-Bytes c = λ key.
    takes_part tree_answer c.args.self.now c.add_bytes.new.self c.args.event.now _ c.add_bytes.result c.args._left key c.in-Bytes.is c.add_bytes.ensures

pub returns-in-List : goal.returns-in-List
returns-in-List c = λ key.
    takes_part tree_answer c.args.self.now c.begin_list.new.self c.args.event.now _ c.begin_list.result c.args._left key c.in-List.is c.begin_list.ensures

pub returns-in-EndOfList : goal.returns-in-EndOfList
returns-in-EndOfList c = λ key.
    takes_part tree_answer c.args.self.now c.end_list.new.self c.args.event.now _ c.end_list.result c.args._left key c.in-EndOfList.is c.end_list.ensures

pub returns-in-Map : goal.returns-in-Map
returns-in-Map c = λ key.
    takes_part tree_answer c.args.self.now c.begin_map.new.self c.args.event.now _ c.begin_map.result c.args._left key c.in-Map.is c.begin_map.ensures

pub returns-in-EndOfMap : goal.returns-in-EndOfMap
returns-in-EndOfMap c = λ key.
    takes_part tree_answer c.args.self.now c.end_map.new.self c.args.event.now _ c.end_map.result c.args._left key c.in-EndOfMap.is c.end_map.ensures

pub returns-in-Str : goal.returns-in-Str
returns-in-Str c = λ key.
    takes_part tree_answer c.args.self.now c.add_string.new.self c.args.event.now _ c.add_string.result c.args._left key c.in-Str.is
    (takes c.args.self.now c.add_string.new.self (atom (text c.in-Str.string.now)) c.add_string.result c.add_string.ensures)

pub returns-in-Key : goal.returns-in-Key
returns-in-Key c = λ key.
    takes_part tree_answer c.args.self.now c.add_key.new.self c.args.event.now _ c.add_key.result c.args._left key c.in-Key.is
    (takes c.args.self.now c.add_key.new.self (atom (text c.in-Key.key.now)) c.add_key.result c.add_key.ensures)

pub returns-in-Integer : goal.returns-in-Integer
returns-in-Integer c = λ key.
    takes_part tree_answer c.args.self.now c.add_integer.new.self c.args.event.now _ c.add_integer.result c.args._left key c.in-Integer.is
    (takes_integer c.args.self.now c.add_integer.new.self c.add_integer.result c.in-Integer.number _ (to_z-of_z w128 c.in-Integer.number (rw c.in-Integer.is at c.requires)) c.add_integer.ensures)
