pub mod Writes
pub mod Lowers
