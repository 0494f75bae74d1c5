pub mod Kinds
pub mod Kind
pub mod Judged
pub mod Shape
pub mod Turns
pub mod Whole
