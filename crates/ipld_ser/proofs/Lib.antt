pub mod Appending
pub mod Characters
pub mod Filing
pub mod Lists
pub mod Placing
