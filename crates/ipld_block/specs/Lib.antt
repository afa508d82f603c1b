pub mod Blocks
pub mod Codes
pub mod Texts
pub mod ErrorTexts
pub mod Digest
pub mod VerifyError
