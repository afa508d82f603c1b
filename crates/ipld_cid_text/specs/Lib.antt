pub mod Digits
pub mod Limbs
pub mod Base
pub mod Encodes
pub mod Text
pub mod Error
pub mod UsualText
