pub mod Opened
pub mod ReadsBack
pub mod RowLaws
pub mod Held
