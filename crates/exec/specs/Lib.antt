pub mod Sound
pub mod Call
pub mod Starting
pub mod Laws
