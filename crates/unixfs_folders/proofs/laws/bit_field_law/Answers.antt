use Rattle.unixfs_folders.proofs.Bits.{field_number, field_tight}
use Rattle.unixfs_folders.proofs.laws.bit_field_law.Goals as goal

pub returns : goal.returns
returns c = record { number = field_number; tight = field_tight }
