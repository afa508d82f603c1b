pub mod Building
pub mod Writing
pub mod Cursors
pub mod Lemmas
pub mod Encoded
pub mod CodecErrors
pub mod Shallow
