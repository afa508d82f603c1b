pub mod ErrorNames
pub mod Parts
pub mod Walking
pub mod Storing
