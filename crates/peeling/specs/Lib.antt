pub mod TreeFlips
pub mod Links
pub mod Peeling
