pub mod Options
pub mod Refusals
pub mod Numbers
pub mod InCode
pub mod Statements
pub mod Pairs
pub mod Rows
