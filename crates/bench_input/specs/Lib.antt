pub mod Opening
pub mod Line
pub mod Laws
