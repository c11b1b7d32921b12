pub mod Texts
pub mod Layouts
