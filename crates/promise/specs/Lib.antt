pub mod Meaning
pub mod Walk
pub mod Vulkan
pub mod Aligned
pub mod Statements
pub mod Table
pub mod Edges
