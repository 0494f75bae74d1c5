pub mod Held
pub mod Laws
