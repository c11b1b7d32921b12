pub mod Answered
pub mod OverTable
