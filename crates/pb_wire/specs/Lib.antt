pub mod Wire
pub mod Steps
pub mod Reading
pub mod Writing
pub mod Laws
pub mod ErrorNames
