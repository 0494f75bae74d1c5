pub mod Suspects
pub mod Laws
