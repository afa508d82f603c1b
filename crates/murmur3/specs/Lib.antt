pub mod Murmur3
