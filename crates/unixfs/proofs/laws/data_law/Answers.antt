use Rattle.std.proofs.Common.{◌≡◌, ◌∙◌, sym, refl}
use Rattle.pb_wire.proofs.Steps.{same_ok}
use Rattle.unixfs.specs.Data.{DataParts}
use Rattle.unixfs.proofs.Messages.{data_sound, data_complete}
use Rattle.unixfs.proofs.laws.data_law.Goals as goal

pub returns : goal.returns
returns c = record {
  read_is_encoded = data_sound;
  encoded_is_read = data_complete;
  one_message = λ bytes d other is also. same_ok (λ (x : DataParts). d ≡ x) d other (sym (data_complete bytes d is) ∙ data_complete bytes other also) refl;
}
