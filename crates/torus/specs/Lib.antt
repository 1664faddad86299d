pub mod Filling
pub mod Sides
