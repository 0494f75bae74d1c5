pub mod Done
pub mod View
pub mod Set
pub mod Post
pub mod Laws
