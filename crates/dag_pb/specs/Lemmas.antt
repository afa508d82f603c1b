-- Proofs that the source cites, of laws that a trait requires, and the lemmas that they use.
-- Contracts use no definition of these modules.
pub mod FieldSteps
pub mod Names
pub mod LinkLaws
pub mod NodeLaws
pub mod CodecLaws
