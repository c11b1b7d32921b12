pub mod Opened
pub mod Laws
pub mod AllOrNothing
pub mod Examples
