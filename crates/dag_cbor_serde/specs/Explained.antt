-- The errors of a block that isn't explained.
use Rattle.std.specs.Prelude.{ℕ, List, None}
use Rattle.ipld_tree.specs.declared.limits.Limits.{Limits}
use Rattle.dag_cbor_serde.specs.Read.{NotRead}
use Rattle.dag_cbor_serde.specs.declared.error.DecodeError.{DecodeError}

-- True if the error is right about bytes that are read as a type without trees and without errors.
-- So the error is never `Value`.
abbrev pub NotABlock : Limits → List ℕ → DecodeError → Type 0
NotABlock limits block error = NotRead {C = Unit {0}} (λ t. None) (λ t e. ⊥) limits block error
