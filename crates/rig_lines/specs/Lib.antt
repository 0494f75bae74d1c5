pub mod Kinds
pub mod Kind
pub mod Line
pub mod File
pub mod Text
pub mod Words
pub mod Whole
pub mod Laws
