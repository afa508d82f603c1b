-- The names, the offsets and the sentences of the errors.
use Rattle.std.specs.Prelude.{ℕ, List, ◌++◌, codes, Some, None}
use Rattle.std.specs.declared.option.Option.{Option}
use Rattle.std.specs.Fmt.{decimal}
use Rattle.dag_cbor_blocks.specs.BlockErrors as cbor
use Rattle.dag_json.specs.Errors as json
use Rattle.dag_pb.specs.ErrorNames as pb
use Rattle.ipld_block.specs.declared.error.InvalidBlock.{InvalidBlock}
use Rattle.ipld_block.specs.declared.error.InvalidBlock.TheVariants.{Cbor, Pb, Json, NotCanonical}
use Rattle.ipld_block.specs.declared.error.CheckError.{CheckError}
use Rattle.ipld_block.specs.declared.error.CheckError.TheVariants.{Memory, Invalid}

-- the name of an invalid block's error
abbrev pub name_of : InvalidBlock → List ℕ
name_of (Cbor error) = cbor.kind_name error.kind
name_of (Pb error) = pb.name_of error.kind
name_of (Json error) = json.kind_name error.kind
name_of NotCanonical = codes "NotCanonical"

-- the offset of that error, or nothing for a block that isn't canonical
abbrev pub offset_of : InvalidBlock → Option ℕ
offset_of (Cbor error) = Some error.offset
offset_of (Pb error) = Some error.offset
offset_of (Json error) = Some error.offset
offset_of NotCanonical = None

-- the sentence for an invalid block
abbrev pub sentence_of : InvalidBlock → List ℕ
sentence_of (Cbor error) = codes "not valid DAG-CBOR: " ++ cbor.sentence_of error
sentence_of (Pb error) = codes "not valid DAG-PB: " ++ pb.sentence_of error
sentence_of (Json error) = codes "not valid DAG-JSON: " ++ (json.float_sentence error.kind ++ (codes " at byte " ++ decimal error.offset))
sentence_of NotCanonical = codes "valid, but not canonical DAG-CBOR: the keys of a map are not sorted length first"

-- the sentence for a failed check
abbrev pub check_sentence : CheckError → List ℕ
check_sentence Memory = codes "out of memory"
check_sentence (Invalid why) = sentence_of why
