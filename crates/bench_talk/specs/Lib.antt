pub mod Talks
pub mod Laws
