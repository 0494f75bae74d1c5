pub mod Anchors
pub mod Post
pub mod Laws
