pub mod Roused
pub mod Post
pub mod Laws
