pub mod BlockLaws
pub mod PartLaws
