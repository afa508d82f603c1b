pub mod VarintLoop
pub mod Steps
pub mod Varints
pub mod Fields
pub mod Optional
pub mod Shorter
pub mod Written
