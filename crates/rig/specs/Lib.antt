pub mod Rules
pub mod Forms
pub mod Laws
