-- Proofs that the source cites, of laws that a trait requires, and the lemmas that they use.
-- Contracts use no definition of these modules.
pub mod Completing
pub mod Standing
pub mod Reading
pub mod CodecLaws
