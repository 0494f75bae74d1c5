pub mod Decimal
pub mod Laws
pub mod Plain
pub mod Write
