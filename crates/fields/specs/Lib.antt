pub mod Pieces
pub mod Took
pub mod Lines
