pub mod Path
pub mod Failures
pub mod Composites
pub mod Fields
pub mod Tuples
pub mod Enums
pub mod Lemmas
