pub mod Statements
