-- Laws for use in ghost members, without definitions.
pub mod Deciding
