pub mod Data
pub mod ErrorNames
pub mod Errors
pub mod Reading
pub mod Writing
pub mod Files
pub mod Views
pub mod Nodes
