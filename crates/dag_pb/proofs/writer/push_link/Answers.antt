use Rattle.std.proofs.lemmas.Result.{on_ok_weaker}
use Rattle.dag_pb.specs.Views.{parts_of_link}
use Rattle.dag_pb.proofs.Written.{link_written}
use Rattle.dag_pb.proofs.writer.push_link.Goals as goal

pub returns : goal.returns
returns c =
    on_ok_weaker c.push_tsize.result
    (λ e. link_written (parts_of_link c.args.link.now) c.args.bytes.now.items c.push_content_head.new.bytes.items c.push_content_head-2.new.bytes.items c.write_bytes.new.bytes.items
    c.push_name.new.bytes.items c.push_tsize.new.bytes.items c.link_len.result c.encoded_len.result c.link_len.ensures.len c.encoded_len.ensures.len c.in_ok-push_content_head.ensures.written
    c.in_ok-push_content_head-2.ensures.written c.in_ok-write_bytes.ensures.appended c.in_ok-push_name.ensures e)
    c.push_tsize.ensures
