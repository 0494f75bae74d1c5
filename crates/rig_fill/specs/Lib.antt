pub mod OfLines
pub mod Laws
