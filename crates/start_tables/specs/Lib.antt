pub mod Links
pub mod Laws
