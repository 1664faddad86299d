pub mod CrossingParities
pub mod Judging
pub mod VertexParities
