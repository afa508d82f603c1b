use Rattle.std.proofs.Common.{◌++◌, arith, rules, sym, ◌∙◌}
use Rattle.ipld_show.specs.AfterPath.{after_value}
use Rattle.ipld_show.specs.AtPath.{value_under}
use Rattle.ipld_show.specs.DataItem.{encoding, entries_encoding}
use Rattle.ipld_show.proofs.Items.{no_key_error}
use Rattle.ipld_show.proofs.Skips.{entry_to_come, no_entry, value_begins, is_there, is_followed, is_passed, skipped, finds_value, finds_none}
use Rattle.ipld_show.proofs.path.entry_at.Goals as goal

pub loop-left-init : goal.loop-left-init
loop-left-init c = λ es behind g count e. record { entries = es; are_entries = g; count = count; encoded = e; same = Rattle.std.proofs.Common.refl; follows = Rattle.std.proofs.Common.refl }

pub returns-in_default : goal.returns-in_default
returns-in_default c = λ es behind g count e.
    let key = c.args.name.now in
    let t = entry_to_come key c.loop-left.rest.now behind c.loop-left.left (value_under key es) (after_value key es ++ behind) (c.loop-left.invariant es behind g count e) (omega arith) in
    absurd (no_key_error t.name c.loop-left.rest.now (encoding t.value ++ (entries_encoding t.others ++ behind)) t.is_name t.encoded c.in_default.field-0 c.in_default.ensures.rejected)

pub returns-then-eq : goal.returns-then-eq
returns-then-eq c = λ es behind g count e.
    let key = c.args.name.now in
    let left = c.loop-left.left in
    let rest = c.loop-left.rest.now in
    let sought = value_under key es in
    let after = after_value key es ++ behind in
    let t = entry_to_come key rest behind left sought after (c.loop-left.invariant es behind g count e) (omega arith) in
    let read = c.in-Ok.ensures.found in
    finds_value sought t.value c.in-Ok.value after (entries_encoding t.others ++ behind)
    (is_there key rest behind left sought after t c.in-Ok.key.now c.in-Ok.value.now read c.eq.result c.eq.ensures c.if-eq.true)
    (is_followed key rest behind left sought after t c.in-Ok.key.now c.in-Ok.value.now read c.eq.result c.eq.ensures c.if-eq.true)
    (value_begins key rest behind left sought after t c.in-Ok.key.now c.in-Ok.value.now read)

pub returns-in_err-size : goal.returns-in_err-size
returns-in_err-size c = λ es behind g count e.
    let key = c.args.name.now in
    let left = c.loop-left.left in
    let rest = c.loop-left.rest.now in
    let sought = value_under key es in
    let after = after_value key es ++ behind in
    let t = entry_to_come key rest behind left sought after (c.loop-left.invariant es behind g count e) (omega arith) in
    let read = c.in-Ok.ensures.found in
    absurd (c.in_err-size.ensures.exact t.value (entries_encoding t.others ++ behind) (value_begins key rest behind left sought after t c.in-Ok.key.now c.in-Ok.value.now read))

pub loop-left-preserved : goal.loop-left-preserved
loop-left-preserved c = λ es behind g count e.
    let key = c.args.name.now in
    let left = c.loop-left.left in
    let rest = c.loop-left.rest.now in
    let sought = value_under key es in
    let after = after_value key es ++ behind in
    let t = entry_to_come key rest behind left sought after (c.loop-left.invariant es behind g count e) (omega arith) in
    let read = c.in-Ok.ensures.found in
    let b = value_begins key rest behind left sought after t c.in-Ok.key.now c.in-Ok.value.now read in
    is_passed key rest behind left sought after t c.in-Ok.key.now c.in-Ok.value.now read c.eq.result _ c.eq.ensures c.if-eq.false
    (skipped t.value c.in-Ok.value.now (entries_encoding t.others ++ behind) c.in_ok-size.size b (c.in_ok-size.ensures.exact t.value (entries_encoding t.others ++ behind) b))

pub returns : goal.returns
returns c = λ es behind g count e.
    let key = c.args.name.now in
    finds_none (value_under key es) (after_value key es ++ behind) (no_entry key c.loop-left.rest.now behind c.loop-left.left (value_under key es) (after_value key es ++ behind) (c.loop-left.invariant es behind g count e) (omega arith))
