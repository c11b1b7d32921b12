pub mod Table
pub mod Reads
