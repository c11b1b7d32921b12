pub mod Laws
pub mod OfSheet
