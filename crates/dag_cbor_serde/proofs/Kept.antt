-- An error is one of a failed allocation, of the reader, or one that is passed on.
use Rattle.std.proofs.Common.{◌≡◌, ◌⊎◌, inl, inr, refl}
use Rattle.std.specs.Prelude.{◌≢◌}
use Rattle.dag_cbor_format.specs.declared.error.CborError.TheVariants as cbor
use Rattle.dag_cbor_blocks.specs.declared.block_error.BlockError.{BlockError}
use Rattle.dag_cbor_blocks.specs.declared.block_error.BlockErrorKind.{BlockErrorKind}
use Rattle.dag_cbor_blocks.specs.declared.block_error.BlockErrorKind.TheVariants.{Cbor, TooDeep, TooMany}
use Rattle.ipld_ser.specs.declared.error.SerdeError.{SerdeError}
use Rattle.ipld_ser.specs.declared.error.SerdeError.TheVariants as serde
use Rattle.dag_cbor_serde.specs.declared.error.DecodeError.TheVariants as decode
use Rattle.dag_cbor_serde.specs.Errors.{error_of_read, error_of_kind}

abbrev pub ValueKept : SerdeError → Type 0
ValueKept e = (e ≡ serde.Memory) ⊎ ((e ≢ serde.Memory) × (error_of_read e ≡ decode.Value e))

pub value_kept : (e : SerdeError) → ValueKept e
value_kept serde.Memory = inl refl
value_kept serde.Unit = inr ((λ q. cc), refl)
value_kept serde.UnitStruct = inr ((λ q. cc), refl)
value_kept serde.U128 = inr ((λ q. cc), refl)
value_kept serde.KeyNotText = inr ((λ q. cc), refl)
value_kept (serde.InvalidCid error) = inr ((λ q. cc), refl)
value_kept (serde.WrongKind kind) = inr ((λ q. cc), refl)
value_kept serde.OutOfRange = inr ((λ q. cc), refl)
value_kept serde.NotOneChar = inr ((λ q. cc), refl)
value_kept serde.WrongLength = inr ((λ q. cc), refl)
value_kept (serde.Leftover n) = inr ((λ q. cc), refl)
value_kept serde.MissingValue = inr ((λ q. cc), refl)
value_kept serde.NoKey = inr ((λ q. cc), refl)
value_kept serde.MoreKeys = inr ((λ q. cc), refl)
value_kept serde.VariantContent = inr ((λ q. cc), refl)
value_kept (serde.Custom message) = inr ((λ q. cc), refl)

abbrev pub BlockKept : BlockError → BlockErrorKind → Type 0
BlockKept e kind = (kind ≡ Cbor cbor.Memory) ⊎ ((kind ≡ Cbor cbor.Read) ⊎ ((kind ≢ Cbor cbor.Memory) × (error_of_kind e kind ≡ decode.Block e)))

pub block_kept : (e : BlockError) (kind : BlockErrorKind) → BlockKept e kind
block_kept e (Cbor cbor.Memory) = inl refl
block_kept e (Cbor cbor.Read) = inr (inl refl)
block_kept e TooDeep = inr (inr ((λ q. cc), refl))
block_kept e TooMany = inr (inr ((λ q. cc), refl))
block_kept e (Cbor cbor.Write) = inr (inr ((λ q. cc), refl))
block_kept e (Cbor cbor.End) = inr (inr ((λ q. cc), refl))
block_kept e (Cbor cbor.NotShortest) = inr (inr ((λ q. cc), refl))
block_kept e (Cbor cbor.Float) = inr (inr ((λ q. cc), refl))
block_kept e (Cbor cbor.Unsupported) = inr (inr ((λ q. cc), refl))
block_kept e (Cbor cbor.Utf8) = inr (inr ((λ q. cc), refl))
block_kept e (Cbor cbor.KeyNotText) = inr (inr ((λ q. cc), refl))
block_kept e (Cbor cbor.DuplicateKey) = inr (inr ((λ q. cc), refl))
block_kept e (Cbor cbor.LinkBytes) = inr (inr ((λ q. cc), refl))
block_kept e (Cbor (cbor.Cid error)) = inr (inr ((λ q. cc), refl))
block_kept e (Cbor cbor.TrailingBytes) = inr (inr ((λ q. cc), refl))
block_kept e (Cbor cbor.IntegerRange) = inr (inr ((λ q. cc), refl))
