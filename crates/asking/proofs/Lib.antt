pub mod Stays
pub mod Onward
pub mod Run
pub mod Examples
