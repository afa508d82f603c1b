-- Proofs of trait laws that the source cites, without definitions.
pub mod EqualLaws
