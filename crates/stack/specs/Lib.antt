pub mod Layers
pub mod Lent
