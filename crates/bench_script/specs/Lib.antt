pub mod Letters
pub mod Script
pub mod Output
pub mod Input
pub mod Laws
