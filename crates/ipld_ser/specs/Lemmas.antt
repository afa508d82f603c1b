-- Lemmas for ghost members. The module has no definitions.
pub mod KeyOrder
