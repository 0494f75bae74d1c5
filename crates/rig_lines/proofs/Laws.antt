pub mod Order
pub mod FirstFaulty
pub mod RoundTrip
