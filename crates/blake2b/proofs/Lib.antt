pub mod Mixing
pub mod Words
pub mod Compressing
pub mod Absorbing
pub mod Vectors
