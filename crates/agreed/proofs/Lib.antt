pub mod Room
pub mod OfSheet
