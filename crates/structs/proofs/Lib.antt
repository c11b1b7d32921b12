pub mod Inversions
pub mod Placement
pub mod Walk
pub mod Memory
pub mod Reduced
pub mod Declared
