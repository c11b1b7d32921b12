pub mod Asked
pub mod InCode
pub mod OfSheet
