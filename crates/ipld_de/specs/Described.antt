-- The definitions that the description of a custom type cites, in one place.
pub use Rattle.std.proofs.Common.{[], ◌∷◌, codes, inl, inr, refl}
pub use Rattle.ipld_de.specs.Known.{Known, bool, u8, u16, u32, u64, u128, usize, i8, i16, i32, i64, i128, isize, char, string, byte_buf, cid, ipld, around, option, vec, byte_array, btree_map, char_map, keyed_map, pair, triple, quadruple, tuple1, tuple5, tuple6, tuple7, tuple8, tuple9, tuple10, field, optional, structure}
pub use Rattle.ipld_de.specs.Enumeration.{unit, holds, named, named_optional, has_fields, enumeration}
