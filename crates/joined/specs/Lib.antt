pub mod EndToEnd
pub mod Statements
