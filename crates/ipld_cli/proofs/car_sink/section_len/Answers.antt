use Rattle.std.proofs.Common.{length, sym, ap, ◌+◌, ◌∙◌, length-append}
use Rattle.ipld_cid.specs.Varint.{varint_of}
use Rattle.ipld_car.specs.Section.{content_of}
use Rattle.ipld_cli.specs.NewCar.{block_of}
use Rattle.ipld_cli.proofs.car_sink.section_len.Goals as goal

pub returns : goal.returns
returns c =
    let content = content_of (block_of c.args.block.now) in
    c.framed_len.ensures.small c.content_len.ensures.short ∙ ap (λ n. length (varint_of n) + n) c.content_len.ensures.exact ∙ sym (length-append (varint_of (length content)) content)
