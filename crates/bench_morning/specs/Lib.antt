pub mod Morning
pub mod Desk
pub mod Stream
pub mod Laws
