pub mod Opened
pub mod Filled
pub mod Examples
pub mod Words
pub mod Rows
pub mod RowExamples
