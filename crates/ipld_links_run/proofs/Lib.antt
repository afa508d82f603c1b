pub mod LineLemmas
pub mod DigitLemmas
pub mod ByteLineLemmas
pub mod AsciiLemmas
pub mod TokenLineLemmas
pub mod TokenLinesLemmas
pub mod OutcomeLemmas
pub mod TreeOutcomes
