-- A key, and those before it.
use Rattle.std.proofs.Common.{◌≡◌, ℕ, true, false, List, Ok, Err, refl}
use Rattle.dag_cbor_format.specs.Reading.{among}
use Rattle.dag_cbor_tape.specs.declared.error.EncodeErrorKind.TheVariants as wrong
use Rattle.dag_cbor_tape.specs.Errors.{fault}
use Rattle.dag_cbor_tape.specs.Structure.{is_new}

pub new_key : (seen : List (List ℕ)) (k : List ℕ) (left : ℕ) → among k seen ≡ false → is_new seen k left ≡ Ok tt
new_key seen k left none = rw none refl

pub old_key : (seen : List (List ℕ)) (k : List ℕ) (left : ℕ) → among k seen ≡ true → is_new seen k left ≡ Err (fault wrong.DuplicateKey left)
old_key seen k left some = rw some refl
