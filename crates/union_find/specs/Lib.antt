pub mod Trees
pub mod Joining
pub mod Packed
