pub mod Post
pub mod Laws
