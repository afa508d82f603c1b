pub mod Status
pub mod NewCar
pub mod Salvage
pub mod RawCid
pub mod IndexedCopy
