pub mod Alignments
pub mod EndToEnd
pub mod Made
pub mod Pointers
pub mod Reading
pub mod Values
