pub mod Code
pub mod Forms
