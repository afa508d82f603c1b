pub mod Mixing
pub mod Vectors
