pub mod Fields
pub mod Grammar
pub mod Sheet
pub mod Statements
pub mod Tables
