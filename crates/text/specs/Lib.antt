pub mod Pieces
pub mod FieldReadings
pub mod LineReadings
pub mod LineReader
pub mod Order
pub mod Scratch
pub mod Stages
pub mod Printing
