pub mod Playable
pub mod Searching
pub mod LoopTable
