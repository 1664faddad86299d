pub mod Bounds
pub mod Checks
pub mod Incidence
