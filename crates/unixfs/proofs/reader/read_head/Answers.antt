use Rattle.std.proofs.Common.{option_map}
use Rattle.unixfs.proofs.Messages.{head_sizes}
use Rattle.unixfs.proofs.reader.read_head.Goals as goal

pub returns-in_err-blocksizes-clause-no_sizes : goal.returns-in_err-blocksizes-clause-no_sizes
returns-in_err-blocksizes-clause-no_sizes c = λ head rest read none.
    let sizes = head_sizes c.args.bytes.now c.in_ok-data_type.rest.now c.in_ok-content.rest.now c.in_ok-filesize.rest.now rest c.in_ok-data_type.data_type (option_map (λ c. c.now) c.in_ok-content.content) c.in_ok-filesize.filesize head
    c.in_ok-data_type.ensures c.in_ok-content.ensures.exact c.in_ok-filesize.ensures.exact read none in
    let was = c.in_err-blocksizes.was in
    let bad = c.in_err-blocksizes.ensures.no_sizes sizes.0 sizes.1 in
    absurd cc
