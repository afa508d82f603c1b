-- What is wrong with a block, as callers are told.
use Rattle.std.proofs.Common.{◌≡◌, List, ℕ, Err, Option, Some, None, option_map, true, inl, inr, refl, sym, ap, subst, ◌∙◌}
use Rattle.std.specs.Prelude.{◌⊎◌, ◌≢◌}
use Rattle.ipld_cid.specs.Cid.{Link}
use Rattle.ipld_tree.specs.Tree.{Tree}
use Rattle.ipld_tree.specs.Walk.{links_of}
use Rattle.ipld_tree.specs.declared.limits.Limits.{Limits}
use Rattle.dag_cbor_blocks.specs.Within.{StopsAt}
use Rattle.dag_cbor_blocks.specs.declared.block_error.BlockError.{BlockError}
use Rattle.dag_cbor_blocks.specs.declared.block_error.BlockErrorKind.{BlockErrorKind}
use Rattle.dag_cbor_blocks.specs.declared.block_error.BlockErrorKind.TheVariants.{Cbor as OfFormat}
use Rattle.dag_cbor_format.specs.declared.error.CborError.{CborError}
use Rattle.dag_cbor_format.specs.declared.error.CborError.TheVariants.{Memory as CborMemory}
use Rattle.dag_cbor_format.specs.Trace.{error_in, error_offset}
use Rattle.dag_json.specs.Codec.{decoded_in, IsBlockError}
use Rattle.dag_json.specs.Encodes.{EncodesTreeIn}
use Rattle.dag_json.specs.Lemmas.CodecLaws.{decoded_encodes}
use Rattle.dag_json.specs.declared.read_error.ReadError.{ReadError}
use Rattle.dag_json.specs.declared.read_error.ReadErrorKind.TheVariants.{Memory as JsonMemory}
use Rattle.dag_pb.specs.declared.error.PbError.{PbError}
use Rattle.dag_pb.specs.declared.error.PbErrorKind.TheVariants as kinds
use Rattle.dag_pb.specs.NodeReading.{links_found}
use Rattle.dag_pb.specs.Views.{IsOutOfMemory}
use Rattle.ipld_block.specs.declared.codec.BlockCodec.{BlockCodec}
use Rattle.ipld_block.specs.declared.codec.BlockCodec.TheVariants.{DagCbor, DagPb, DagJson, Raw}
use Rattle.ipld_block.specs.declared.error.CheckError.{CheckError}
use Rattle.ipld_block.specs.declared.error.CheckError.TheVariants.{Memory, Invalid}
use Rattle.ipld_block.specs.declared.error.InvalidBlock.{InvalidBlock}
use Rattle.ipld_block.specs.declared.error.InvalidBlock.TheVariants.{Cbor, Pb, Json}
use Rattle.ipld_block.specs.Blocks.{HasLinks, IsBlock, IsNoCbor, IsInvalid, IsNotCanonical, IfInvalid, MadeOfCbor, MadeOfPb, MadeOfJson}

-- where it isn't memory that was lacking, and no limit was passed, it is the first error
stopped : (limits : Limits) (bytes : List ℕ) (first : CborError) (offset : ℕ) → first ≢ CborMemory → StopsAt true limits bytes (OfFormat first) offset
    → (error_in true bytes ≡ Some first) × (offset ≡ error_offset true bytes)
stopped limits bytes first offset other (inl memory) = absurd (other memory.0)
stopped limits bytes first offset other (inr found) = (found.0, found.2)

is_no_cbor : (limits : Limits) (bytes : List ℕ) (error : BlockError) → ((first : CborError) × (error.kind ≡ OfFormat first) × (first ≢ CborMemory))
    → StopsAt true limits bytes error.kind error.offset → IsNoCbor bytes error
is_no_cbor limits bytes error (first, is, other) s =
    let found = stopped limits bytes first error.offset other (subst (λ (kind : BlockErrorKind). StopsAt true limits bytes kind error.offset) is s) in
    (first, is, found.0, found.1)

pub no_cbor : (limits : Limits) (bytes : List ℕ) (error : BlockError) (made : CheckError) → MadeOfCbor error made
    → StopsAt true limits bytes error.kind error.offset → IfInvalid made (IsInvalid DagCbor bytes)
no_cbor limits bytes error Memory m s = tt
no_cbor limits bytes error (Invalid why) m s = subst (IsInvalid DagCbor bytes) (sym m.0) (is_no_cbor limits bytes error m.1 s)

pub no_cbor_by : (codec : BlockCodec) (limits : Limits) (bytes : List ℕ) (error : BlockError) (made : CheckError) → codec ≡ DagCbor → MadeOfCbor error made
    → StopsAt true limits bytes error.kind error.offset → IfInvalid made (IsInvalid codec bytes)
no_cbor_by codec limits bytes error made is m s = subst (λ (c : BlockCodec). IfInvalid made (IsInvalid c bytes)) (sym is) (no_cbor limits bytes error made m s)

pub not_canonical : (limits : Limits) (bytes : List ℕ) (error : BlockError) (made : CheckError) → MadeOfCbor error made
    → StopsAt true limits bytes error.kind error.offset → IfInvalid made (IsNotCanonical bytes)
not_canonical limits bytes error Memory m s = tt
not_canonical limits bytes error (Invalid why) m s = subst (IsNotCanonical bytes) (sym m.0) (is_no_cbor limits bytes error m.1 s)

no_pb : (bytes : List ℕ) (error : PbError) (made : CheckError) → MadeOfPb error made → IsOutOfMemory error ⊎ (links_found bytes ≡ Err error)
    → IfInvalid made (IsInvalid DagPb bytes)
no_pb bytes error Memory m found = tt
no_pb bytes error (Invalid why) m (inl failed) = absurd (m.1 (ap (λ (e : PbError). e.kind) failed))
no_pb bytes error (Invalid why) m (inr found) = subst (IsInvalid DagPb bytes) (sym m.0) found

pub no_pb_by : (codec : BlockCodec) (bytes : List ℕ) (error : PbError) (made : CheckError) → codec ≡ DagPb → MadeOfPb error made
    → IsOutOfMemory error ⊎ (links_found bytes ≡ Err error) → IfInvalid made (IsInvalid codec bytes)
no_pb_by codec bytes error made is m found = subst (λ (c : BlockCodec). IfInvalid made (IsInvalid c bytes)) (sym is) (no_pb bytes error made m found)

no_json : (bytes : List ℕ) (error : ReadError) (made : CheckError) → MadeOfJson error made → (error.kind ≡ JsonMemory) ⊎ IsBlockError true bytes error
    → IfInvalid made (IsInvalid DagJson bytes)
no_json bytes error Memory m found = tt
no_json bytes error (Invalid why) m (inl failed) = absurd (m.1 failed)
no_json bytes error (Invalid why) m (inr found) = subst (IsInvalid DagJson bytes) (sym m.0) found

pub no_json_by : (codec : BlockCodec) (bytes : List ℕ) (error : ReadError) (made : CheckError) → codec ≡ DagJson → MadeOfJson error made
    → (error.kind ≡ JsonMemory) ⊎ IsBlockError true bytes error → IfInvalid made (IsInvalid codec bytes)
no_json_by codec bytes error made is m found = subst (λ (c : BlockCodec). IfInvalid made (IsInvalid c bytes)) (sym is) (no_json bytes error made m found)

-- ---- what has links is a block

json_block : (bytes : List ℕ) (links : List Link) (o : Option Tree) → decoded_in true bytes ≡ o → option_map links_of o ≡ Some links → (t : Tree) × EncodesTreeIn true t bytes
json_block bytes links None is h = absurd cc
json_block bytes links (Some t) is h = (t, decoded_encodes true t bytes is)

of_links : (codec : BlockCodec) (bytes : List ℕ) (links : List Link) → codec ≢ DagCbor → HasLinks codec bytes links → IsBlock codec bytes
of_links DagCbor bytes links other h = absurd (other refl)
of_links DagPb bytes links other h = (links, h)
of_links DagJson bytes links other h = json_block bytes links (decoded_in true bytes) refl h
of_links Raw bytes links other h = tt

pub is_block : (codec : BlockCodec) (bytes : List ℕ) (links : List Link) → HasLinks codec bytes links → (codec ≡ DagPb) ⊎ (codec ≡ DagJson) → IsBlock codec bytes
is_block codec bytes links h (inl is) = of_links codec bytes links (λ other. let no : ◌≡◌ {A = BlockCodec} DagPb DagCbor = sym is ∙ other in cc) h
is_block codec bytes links h (inr is) = of_links codec bytes links (λ other. let no : ◌≡◌ {A = BlockCodec} DagJson DagCbor = sym is ∙ other in cc) h
