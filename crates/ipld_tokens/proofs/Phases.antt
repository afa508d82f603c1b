-- What the test for an end says of the state.
use Rattle.std.proofs.Common.{◌≡◌, Bool, true, false, List, refl}
use Rattle.ipld_cid.specs.Cid.{Link}
use Rattle.ipld_tokens.specs.ExtractMachine.{done, is_done, IsGoing}
use Rattle.ipld_tokens.specs.ExtractorState.{in_phase}
use Rattle.ipld_tokens.specs.declared.extractor.Frame.{Frame}
use Rattle.ipld_tokens.specs.declared.extractor.Phase.{Phase}
use Rattle.ipld_tokens.specs.declared.extractor.Phase.TheVariants.{Item, ItemOrEnd, LinkBytes, Ended}
