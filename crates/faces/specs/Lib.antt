pub mod Lent
pub mod Marks
