use Rattle.dag_cbor_tape.proofs.Sound.{block_sound}
use Rattle.dag_cbor_tape.proofs.Complete.{block_complete}
use Rattle.dag_cbor_tape.proofs.InFormat.{item_in}
use Rattle.dag_cbor_tape.proofs.laws.tape_law.Goals as goal

pub returns-clause-written_is_described : goal.returns-clause-written_is_described
returns-clause-written_is_described c over es block whole w = block_sound over es block whole w

pub returns-clause-described_is_written : goal.returns-clause-described_is_written
returns-clause-described_is_written c over item es block d = block_complete over item es block d

pub returns-clause-block_encodes : goal.returns-clause-block_encodes
returns-clause-block_encodes c over item es block narrow d = item_in over item es block narrow d
