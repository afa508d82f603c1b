pub mod Writing
mod Integers
mod Joining
mod ReservedMaps
mod Texts
mod Building
mod LinkReads
mod Scalars
pub mod Seeking
pub mod Stopping
mod ParsedFloats
mod Unreserved
mod Differing
mod Lengths
pub mod RoundTrip
pub mod BlockErrors
