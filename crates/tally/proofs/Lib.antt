pub mod Decorated
pub mod Went
pub mod Steps
