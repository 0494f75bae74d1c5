pub mod Status
pub mod Laws
