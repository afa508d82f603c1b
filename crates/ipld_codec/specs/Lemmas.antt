-- This file lists proofs of laws that a trait requires. The source cites them, and they contain no
-- definitions.
pub mod RawLaws
