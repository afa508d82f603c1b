mod Received
pub mod Counting
