-- The results of reading a part of a block.
use Rattle.std.specs.Prelude.{◌≡◌, Option, Some, None, Result, Ok, Err}
use Rattle.ipld_tokens.specs.Token.{erase}
use Rattle.dag_cbor_format.specs.declared.error.CborError.{CborError}
use Rattle.dag_cbor_format.specs.ItemHeader.{Beginning, scalar, list, map, link}
use Rattle.dag_cbor_format.specs.declared.item_header.ItemHeader.{ItemHeader}
use Rattle.dag_cbor_format.specs.declared.item_header.ItemHeader.TheVariants as running

-- True if a function's result agrees with `read`, the reading by the format. A value, seen by
-- `view`, is the one in `read`. An error is this `error`, and `read` is nothing.
abbrev pub Returns : {X Y : Type 0} → (X → Y) → CborError → Result X CborError → Option Y → Type 0
Returns view error (Ok x) read = read ≡ Some (view x)
Returns view error (Err e) read = (read ≡ None) × (e ≡ error)

-- the model of an `ItemHeader`
abbrev pub beginning_of : ItemHeader → Beginning
beginning_of (running.Scalar t) = scalar (erase t)
beginning_of (running.List n) = list n
beginning_of (running.Map n) = map n
beginning_of running.Link = link
