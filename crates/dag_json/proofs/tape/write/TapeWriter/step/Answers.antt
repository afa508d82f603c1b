use Rattle.std.proofs.Common.{Err, refl, ap, ◌∙◌, option_map, string_bytes, arith}
use Rattle.ipld_tree.specs.TreeOf.{tree_of}
use Rattle.dag_json.specs.TapeOpen.{view, closed_container, finish, load}
use Rattle.dag_json.specs.TapeWriting.{keyed, written}
use Rattle.dag_json.proofs.tape.Continuing as going
use Rattle.dag_json.proofs.tape.write.TapeWriter.step.Goals as goal

pub returns-in-Ok : goal.returns-in-Ok
returns-in-Ok c =
    let container = c.in-Some.container in
    let kept = record container { rest = c.take_last.new.self } in
    let key = option_map string_bytes c.in-Some-take_last.key in
    let value = c.in-Some-take_last.value in
    let before = view c.args.self.now in
    let opened = c.push_reserved.ensures.items in
    let wrote = c.in-Ok.ensures in
    going.taken container kept refl refl refl c.take_last.ensures.same c.pop.new.self.items c.args.containers.now.items c.write.new.containers.items (key, value) before (view c.write.new.self)
    c.in-Some.ensures.items c.in-Some-take_last.ensures.taken (wrote.same ∙ ap (λ cs. finish cs (keyed key (written (tree_of value) before))) opened) (omega (arith, wrote.load, ap load opened))

pub returns-in-Err : goal.returns-in-Err
returns-in-Err c =
    let container = c.in-Some.container in
    let kept = record container { rest = c.take_last.new.self } in
    let key = option_map string_bytes c.in-Some-take_last.key in
    let value = c.in-Some-take_last.value in
    let before = view c.args.self.now in
    let all = c.args.containers.now.items in
    going.failed (finish c.push_reserved.new.self.items (keyed key (written (tree_of value) before))) (finish c.write.new.containers.items (view c.write.new.self)) c.in-Err.error all
    c.write.new.containers.items before (view c.write.new.self) c.in-Err.ensures.same
    (ap (λ cs. finish cs (keyed key (written (tree_of value) before))) c.push_reserved.ensures.items
    ∙ going.same_taken container kept refl refl refl c.take_last.ensures.same c.pop.new.self.items all (key, value) before c.in-Some.ensures.items c.in-Some-take_last.ensures.taken)

pub returns-in-Ok-close : goal.returns-in-Ok-close
returns-in-Ok-close c =
    let container = c.in-Some.container in
    let kept = record container { rest = c.take_last.new.self } in
    let none = c.in-None.ensures.taken in
    going.left container kept refl refl refl c.take_last.ensures.same c.pop.new.self.items c.args.containers.now.items (view c.args.self.now) (view c.close.new.self) c.in-Some.ensures.items none.0 none.1
    c.in-Ok-close.ensures

pub returns-in-Err-close : goal.returns-in-Err-close
returns-in-Err-close c =
    let container = c.in-Some.container in
    let kept = record container { rest = c.take_last.new.self } in
    let none = c.in-None.ensures.taken in
    let before = view c.args.self.now in
    let outer = c.pop.new.self.items in
    let closed = closed_container kept before in
    let after = view c.close.new.self in
    let all = c.args.containers.now.items in
    going.failed (finish outer closed) (finish outer after) c.in-Err-close.error all outer before after (going.finished outer closed after (Err c.in-Err-close.error) c.in-Err-close.ensures)
    (going.same_left container kept refl refl refl c.take_last.ensures.same outer all before c.in-Some.ensures.items none.0 none.1)
