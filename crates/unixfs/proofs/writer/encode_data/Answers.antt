use Rattle.std.proofs.Common.{ℕ, List, subst, inr}
use Rattle.unixfs.specs.Data.{IsData}
use Rattle.unixfs.specs.Views.{parts_of}
use Rattle.unixfs.specs.Writing.{data_bytes}
use Rattle.unixfs.proofs.Messages.{data_complete}
use Rattle.unixfs.proofs.Written.{message_is, message_written, error_written, data_written, time_parts}
use Rattle.unixfs.proofs.writer.encode_data.Goals as goal

pub returns-in-Err-clause-exact : goal.returns-in-Err-clause-exact
returns-in-Err-clause-exact c = inr (error_written (parts_of c.args.message.now) c.in-Err.error (c.in-Err.ensures.exact (data_bytes (parts_of c.args.message.now))))

pub returns-in_ok-push_fields-in-Ok-clause-exact : goal.returns-in_ok-push_fields-in-Ok-clause-exact
returns-in_ok-push_fields-in-Ok-clause-exact c =
    message_written (parts_of c.args.message.now) c.push_fields.new.bytes.items (c.in-Ok.ensures.exact (data_bytes (parts_of c.args.message.now)))
    (message_is (parts_of c.args.message.now) c.in_ok-bytes-in-Ok.bytes.items c.push_fields.new.bytes.items c.in_ok-bytes-in-Ok.ensures.items c.in_ok-push_fields-in-Ok.ensures)

pub returns-in_ok-push_fields-in-Ok-clause-encoded : goal.returns-in_ok-push_fields-in-Ok-clause-encoded
returns-in_ok-push_fields-in-Ok-clause-encoded c =
    subst (λ (bytes : List ℕ). IsData (parts_of c.args.message.now) bytes)
    (message_is (parts_of c.args.message.now) c.in_ok-bytes-in-Ok.bytes.items c.push_fields.new.bytes.items c.in_ok-bytes-in-Ok.ensures.items c.in_ok-push_fields-in-Ok.ensures)
    (data_written (parts_of c.args.message.now) c.message_len.ensures (time_parts c.args.message.now.mtime c.in-Ok.ensures.valid))

pub returns-in_ok-push_fields-in-Ok-clause-read_back : goal.returns-in_ok-push_fields-in-Ok-clause-read_back
returns-in_ok-push_fields-in-Ok-clause-read_back c = data_complete _ (parts_of c.args.message.now) (returns-in_ok-push_fields-in-Ok-clause-encoded c)
