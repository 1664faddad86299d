pub mod Numbering
pub mod Edges
pub mod PlanarRows
pub mod PlanarValid
pub mod ColumnCuts
pub mod PlanarLoop
pub mod PlanarDistance
