use Rattle.std.proofs.Common.{arith}
use Rattle.ipld_cid_text.proofs.Regrouping.{ungrouped_whole, group_left, bit_left}
use Rattle.ipld_cid_text.proofs.regroup.bytes_of_groups.Goals as goal

pub returns-then-count : goal.returns-then-count
returns-then-count g c =
    group_left g.row.W c.args.groups.now c.regroup-bytes.result.0 c.regroup-bytes.result.1 c.regroup-bytes.result.2 c.regroup-bytes.ensures.count (omega arith) c.regroup-bytes.ensures.bits

pub returns-then-rest-ne0 : goal.returns-then-rest-ne0
returns-then-rest-ne0 g c =
    bit_left g.row.W c.args.groups.now c.regroup-bytes.result.0 c.regroup-bytes.result.1 c.regroup-bytes.result.2 c.regroup-bytes.ensures.count (omega arith) c.regroup-bytes.ensures.rest (λ e. absurd (omega (arith, e)))
    c.regroup-bytes.ensures.bits

pub returns : goal.returns
returns g c =
    ungrouped_whole g.row.W c.args.groups.now c.regroup-bytes.result.0 c.regroup-bytes.result.1 c.regroup-bytes.result.2 c.requires.below c.regroup-bytes.ensures.below (omega arith) (omega arith) c.regroup-bytes.ensures.bits
