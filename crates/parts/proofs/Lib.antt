pub mod Rooting
pub mod Connecting
pub mod Flipping
pub mod Clearing
pub mod Marking
pub mod NothingMarked
