pub mod Chains
pub mod InCode
pub mod EndToEnd
