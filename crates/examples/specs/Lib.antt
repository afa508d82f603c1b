pub mod Readings
pub mod Versioned
pub mod VersionedLaws
