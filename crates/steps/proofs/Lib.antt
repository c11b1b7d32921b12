pub mod Opened
pub mod Signs
pub mod Back
pub mod Stored
pub mod Examples
