pub mod Blake2b
pub mod Chain
pub mod State
pub mod Hasher
