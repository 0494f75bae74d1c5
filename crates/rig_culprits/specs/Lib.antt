pub mod Culprits
pub mod Laws
