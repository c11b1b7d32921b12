pub mod Prepared
pub mod Statements
