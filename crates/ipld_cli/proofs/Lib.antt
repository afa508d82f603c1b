pub mod NewCars
pub mod Salvaged
