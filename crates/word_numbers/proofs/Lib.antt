pub mod Offsets
pub mod Laws
