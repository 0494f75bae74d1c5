pub mod Steps
pub mod Order
