-- The state of the builders of variants.
use Rattle.std.specs.Prelude.{ℕ, List, string_bytes}
use Rattle.ipld_tree.specs.Tree.{Tree, Members}
use Rattle.ipld_ser.specs.Builders.{fed, state_of}
use Rattle.ipld_ser.specs.declared.variants.SerializeTupleVariant.{SerializeTupleVariant}
use Rattle.ipld_ser.specs.declared.variants.SerializeStructVariant.{SerializeStructVariant}

-- The items that a tuple variant was fed, in order
abbrev pub variant_fed : SerializeTupleVariant → List Tree
variant_fed b = fed b.list

-- The name of the variant
abbrev pub tuple_name : SerializeTupleVariant → List ℕ
tuple_name b = string_bytes b.variant

-- The members of a struct variant, under the names of its fields
abbrev pub variant_filed : SerializeStructVariant → Members
variant_filed b = (state_of b.map).filed

-- The name of the variant
abbrev pub struct_name : SerializeStructVariant → List ℕ
struct_name b = string_bytes b.variant
