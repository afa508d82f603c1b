-- Proofs of the laws that a trait requires, cited by the source. It has no definitions.
pub mod BlockLaws
