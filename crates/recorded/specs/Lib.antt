pub mod Records
pub mod Held
pub mod Code
pub mod EndToEnd
