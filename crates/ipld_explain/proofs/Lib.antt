pub mod Steps
pub mod Sequences
pub mod Entering
pub mod Naming
pub mod Parting
pub mod Variants
pub mod Units
pub mod Taken
