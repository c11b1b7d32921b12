pub mod Natural
pub mod Bounds
pub mod OneType
pub mod AllTypes
pub mod OfSheet
