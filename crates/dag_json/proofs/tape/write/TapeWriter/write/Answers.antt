use Rattle.std.proofs.Common.{refl, ap, ◌∙◌, option_map, string_bytes, rules, arith}
use Rattle.std.proofs.lemmas.Int.{to_z-of_z}
use Rattle.std.specs.Int.{w128}
use Rattle.ipld_tree.specs.Tree.{boolean}
use Rattle.ipld_tree.specs.TreeOf.{tree_of}
use Rattle.ipld_tree.proofs.Trees.{tree_of-Integer, tree_of-Bytes, tree_of-Link}
use Rattle.dag_json.specs.Floats.{number_as}
use Rattle.dag_json.specs.TapeOpen.{view}
use Rattle.dag_json.specs.TapeWriting.{with_content, number_written}
use Rattle.dag_json.proofs.Building.{tree_of-Null, tree_of-Bool}
use Rattle.dag_json.proofs.tape.Continuing.{list_entered, map_entered, value_written, tree_of-String}
use Rattle.dag_json.proofs.tape.write.TapeWriter.write.Goals as goal

pub returns-in_ok-enter-in-List-clause-same : goal.returns-in_ok-enter-in-List-clause-same
returns-in_ok-enter-in-List-clause-same c = rw c.in-List.is (list_entered (option_map string_bytes c.args.key) c.in-List.items c.len-count.result
    (view c.args.self.now) (view c.enter.new.self) c.args.containers.now.items c.enter.new.containers.items (omega (arith, c.len-count.ensures)) c.in_ok-enter-in-List.ensures).0

pub returns-in_ok-enter-in-List-clause-load : goal.returns-in_ok-enter-in-List-clause-load
returns-in_ok-enter-in-List-clause-load c = rw c.in-List.is (list_entered (option_map string_bytes c.args.key) c.in-List.items c.len-count.result
    (view c.args.self.now) (view c.enter.new.self) c.args.containers.now.items c.enter.new.containers.items (omega (arith, c.len-count.ensures)) c.in_ok-enter-in-List.ensures).1

pub returns-in_ok-enter-in-Map-clause-same : goal.returns-in_ok-enter-in-Map-clause-same
returns-in_ok-enter-in-Map-clause-same c = rw c.in-Map.is (map_entered (option_map string_bytes c.args.key) c.in-Map.members c.len-count-in-Map.result
    (view c.args.self.now) (view c.enter-in-Map.new.self) c.args.containers.now.items c.enter-in-Map.new.containers.items (omega (arith, c.len-count-in-Map.ensures.len)) c.in_ok-enter-in-Map.ensures).0

pub returns-in_ok-enter-in-Map-clause-load : goal.returns-in_ok-enter-in-Map-clause-load
returns-in_ok-enter-in-Map-clause-load c = rw c.in-Map.is (map_entered (option_map string_bytes c.args.key) c.in-Map.members c.len-count-in-Map.result
    (view c.args.self.now) (view c.enter-in-Map.new.self) c.args.containers.now.items c.enter-in-Map.new.containers.items (omega (arith, c.len-count-in-Map.ensures.len)) c.in_ok-enter-in-Map.ensures).1

pub returns-in-Null-clause-same : goal.returns-in-Null-clause-same
returns-in-Null-clause-same c = value_written c.args.containers.now.items (option_map string_bytes c.args.key) (tree_of c.args.value) _ (view c.args.self.now) _ (view c.put.new.self) c.put.result
    (ap tree_of c.in-Null.is ∙ tree_of-Null) refl c.put.ensures

pub returns-in-Bool-true-clause-same : goal.returns-in-Bool-true-clause-same
returns-in-Bool-true-clause-same c = value_written c.args.containers.now.items (option_map string_bytes c.args.key) (tree_of c.args.value) _ (view c.args.self.now) _ (view c.put-in-Bool-true.new.self) c.put-in-Bool-true.result
    (ap tree_of c.in-Bool-true.is ∙ tree_of-Bool c.in-Bool-true.field-0 ∙ ap boolean c.in-Bool-true.field-0-test) refl c.put-in-Bool-true.ensures

pub returns-in-Bool-false-clause-same : goal.returns-in-Bool-false-clause-same
returns-in-Bool-false-clause-same c = value_written c.args.containers.now.items (option_map string_bytes c.args.key) (tree_of c.args.value) _ (view c.args.self.now) _ (view c.put-in-Bool-false.new.self) c.put-in-Bool-false.result
    (ap tree_of c.in-Bool-false.is ∙ tree_of-Bool c.in-Bool-false.field-0 ∙ ap boolean c.in-Bool-false.field-0-test) refl c.put-in-Bool-false.ensures

pub returns-in-Integer-clause-same : goal.returns-in-Integer-clause-same
returns-in-Integer-clause-same c = value_written c.args.containers.now.items (option_map string_bytes c.args.key) (tree_of c.args.value) _ (view c.args.self.now) _ (view c.put_number.new.self) c.put_number.result
    (ap tree_of c.in-Integer.is ∙ tree_of-Integer c.in-Integer.number) (ap (λ n. number_written (number_as n) (view c.args.self.now)) (to_z-of_z w128 c.in-Integer.number (search rules))) c.put_number.ensures

pub returns-in-String-clause-same : goal.returns-in-String-clause-same
returns-in-String-clause-same c = value_written c.args.containers.now.items (option_map string_bytes c.args.key) (tree_of c.args.value) _ (view c.args.self.now) _ (view c.put_content.new.self) c.put_content.result
    (ap tree_of c.in-String.is ∙ tree_of-String c.in-String.text) (ap (λ s. with_content 6 s (view c.args.self.now)) c.as_bytes.ensures.value) c.put_content.ensures

pub returns-in-Bytes-clause-same : goal.returns-in-Bytes-clause-same
returns-in-Bytes-clause-same c = value_written c.args.containers.now.items (option_map string_bytes c.args.key) (tree_of c.args.value) _ (view c.args.self.now) _ (view c.put_content-in-Bytes.new.self) c.put_content-in-Bytes.result
    (ap tree_of c.in-Bytes.is ∙ tree_of-Bytes c.in-Bytes.bytes) (ap (λ s. with_content 7 s (view c.args.self.now)) c.deref.ensures.value) c.put_content-in-Bytes.ensures

pub returns-in_ok-bytes-in-Link-clause-same : goal.returns-in_ok-bytes-in-Link-clause-same
returns-in_ok-bytes-in-Link-clause-same c = value_written c.args.containers.now.items (option_map string_bytes c.args.key) (tree_of c.args.value) _ (view c.args.self.now) _ (view c.put_content-in-Link.new.self) c.put_content-in-Link.result
    (ap tree_of c.in-Link.is ∙ tree_of-Link c.in-Link.cid) (ap (λ s. with_content 8 s (view c.args.self.now)) (c.deref-in-Link.ensures.value ∙ c.in_ok-bytes-in-Link.ensures)) c.put_content-in-Link.ensures
