pub mod Packed
pub mod Parity
pub mod Laws
