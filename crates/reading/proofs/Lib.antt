pub mod Reached
pub mod Whole
pub mod Told
