pub mod Stores
pub mod Offsets
pub mod Grown
