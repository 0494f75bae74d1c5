pub mod Sentences
pub mod Laws
