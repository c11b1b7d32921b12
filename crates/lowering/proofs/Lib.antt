pub mod Chains
pub mod Written
