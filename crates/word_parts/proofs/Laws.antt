pub mod Parity
pub mod ParityCases
