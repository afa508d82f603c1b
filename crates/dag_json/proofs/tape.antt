pub mod Continuing
pub mod Describing
