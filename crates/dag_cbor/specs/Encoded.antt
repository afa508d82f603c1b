-- The results of encoding.
use Rattle.std.specs.Prelude.{Result, Err}
use Rattle.dag_cbor_format.specs.declared.error.CborError.{CborError}
use Rattle.dag_cbor_format.specs.declared.error.CborError.TheVariants.{IntegerRange}

-- True if no integer was out of range, or if `P` is true.
abbrev pub IfOutOfRange : Result (Unit {0}) CborError → Type 0 → Type 0
IfOutOfRange (Err IntegerRange) P = P
IfOutOfRange _ P = Unit {0}
