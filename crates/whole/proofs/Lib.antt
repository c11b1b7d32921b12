pub mod Fits
pub mod Streamed
pub mod Advances
