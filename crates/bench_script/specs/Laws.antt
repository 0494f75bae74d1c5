pub mod Fields
pub mod Written
pub mod Input
