pub mod Layouts
pub mod Steps
pub mod Lengths
pub mod Lines
