pub mod Shape
pub mod Laws
