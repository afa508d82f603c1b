use Rattle.std.proofs.Common.{subst}
use Rattle.ipld_block.specs.Blocks.{MadeOfJson}
use Rattle.dag_json.specs.TapeReading.{IsTapeError}
use Rattle.ipld_show.proofs.JsonBlocks.{no_json}
use Rattle.ipld_show.proofs.as_cbor.json_as_cbor.Goals as goal

pub returns-in-Err-Text-clause-rejected : goal.returns-in-Err-Text-clause-rejected
returns-in-Err-Text-clause-rejected c =
    let why = subst (λ error. IsTapeError c.block_limits.result c.args.bytes.now error) c.in-Err-Text.field-0-is c.in-Err-Text.ensures.rejected in
    no_json c.block_limits.result c.args.bytes.now c.in-Err-Text.error c.from.result c.from-in-Err-Text.result c.block_limits.ensures why.0 why.1 (subst (λ error. MadeOfJson error c.from.result) c.in-Err-Text.error-is c.from.ensures)
    c.from-in-Err-Text.ensures
