-- Proofs of laws that traits require, which the source cites.
pub mod FaithfulOf
pub mod LawOf
pub mod Skipping
pub mod StructLaw
