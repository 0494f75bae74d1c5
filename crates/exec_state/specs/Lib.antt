pub mod View
pub mod Work
pub mod Set
pub mod Post
pub mod Laws
