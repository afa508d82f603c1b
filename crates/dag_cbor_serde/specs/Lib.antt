pub mod Errors
pub mod Written
pub mod Read
pub mod Parts
pub mod Explained
pub mod Lemmas
