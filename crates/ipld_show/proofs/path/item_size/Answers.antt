use Rattle.std.proofs.Common.{◌<◌, ◌^◌, length, ap, length-append, arith}
use Rattle.ipld_show.specs.DataItem.{encoding}
use Rattle.ipld_show.proofs.Items.{no_error}
use Rattle.ipld_show.proofs.Skips.{one_to_come, none_to_come, next_to_come, next_of}
use Rattle.ipld_show.proofs.path.item_size.Goals as goal

pub loop-left-init : goal.loop-left-init
loop-left-init c = (omega arith, λ d behind b. one_to_come d c.args.bytes.now behind b)

pub returns-in_default : goal.returns-in_default
returns-in_default c = record {
  within = tt;
  exact = λ d behind b.
      let n = next_of c.loop-left.rest.now behind c.loop-left.left (c.loop-left.invariant.1 d behind b) (omega arith) in
      no_error n.next c.loop-left.rest.now n.more c.in_default.field-0 n.begins c.in_default.ensures.rejected;
}

pub loop-left-preserved : goal.loop-left-preserved
loop-left-preserved c =
    let shorter = c.in-Ok.ensures.shorter in
    let small : length c.in-Ok.after.now < 2 ^ 64 = omega arith in (
      omega arith,
      λ d behind b.
          next_to_come c.in-Ok.head c.loop-left.rest.now c.in-Ok.after.now behind c.loop-left.left c.saturating_add-left.result c.in-Ok.ensures.found small
          (c.loop-left.invariant.1 d behind b) (omega arith) (omega arith),
    )

pub returns-clause-exact : goal.returns-clause-exact
returns-clause-exact c = λ d behind b.
    let e = none_to_come c.loop-left.rest.now behind c.loop-left.left (c.loop-left.invariant.1 d behind b) (omega arith) in
    omega (arith, ap length e, ap length b.encoded, length-append (encoding d) behind)
