pub mod Sheet
pub mod Case
pub mod Laws
