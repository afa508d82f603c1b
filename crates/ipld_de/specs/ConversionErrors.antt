-- The reading error of a conversion error: the kind found, or a number out of range.
use Rattle.ipld_tree.specs.declared.convert.ConversionError.{ConversionError}
use Rattle.ipld_tree.specs.declared.convert.ConversionError.TheVariants.{WrongIpldKind, FromIpld}
use Rattle.ipld_ser.specs.declared.error.SerdeError.{SerdeError}
use Rattle.ipld_ser.specs.declared.error.SerdeError.TheVariants.{WrongKind, OutOfRange}

abbrev pub serde_error_of : ConversionError → SerdeError
serde_error_of (WrongIpldKind expected found) = WrongKind found
serde_error_of (FromIpld kind target) = OutOfRange
