pub mod View
pub mod Post
pub mod Laws
