use Rattle.std.proofs.Common.{ℕ, List, ◌++◌, ap, ◌∙◌}
use Rattle.std.proofs.lemmas.Result.{on_ok_weaker}
use Rattle.pb_wire.specs.Writing.{number_bytes}
use Rattle.unixfs.specs.Views.{parts_of}
use Rattle.unixfs.specs.Writing.{numbers_bytes}
use Rattle.unixfs.proofs.Written.{fields_written}
use Rattle.unixfs.proofs.writer.push_fields.Goals as goal

pub returns : goal.returns
returns c =
    on_ok_weaker c.push_mtime.result
    (λ e. fields_written (parts_of c.args.message.now) c.args.bytes.now.items c.push_number.new.bytes.items c.push_data.new.bytes.items c.push_number_of.new.bytes.items c.push_sizes.new.bytes.items
    c.push_number_of-2.new.bytes.items c.push_number_of-3.new.bytes.items c.push_mode.new.bytes.items c.push_mtime.new.bytes.items
    (c.in_ok-push_number.ensures.written ∙ ap (λ (n : ℕ). c.args.bytes.now.items ++ number_bytes 8 n) c.code.ensures)
    c.in_ok-push_data.ensures c.in_ok-push_number_of.ensures
    (c.in_ok-push_sizes.ensures ∙ ap (λ (ns : List ℕ). c.push_number_of.new.bytes.items ++ numbers_bytes 32 ns) c.deref.ensures.value)
    c.in_ok-push_number_of-2.ensures c.in_ok-push_number_of-3.ensures c.in_ok-push_mode.ensures e)
    c.push_mtime.ensures
