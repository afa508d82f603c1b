-- Proofs of trait laws that the source cites. The module has no definitions.
pub mod OrderLaws
