mod ByteFlips
mod CrossingCounts
mod Judged
mod LoadedBytes
pub mod SetSyndromes
pub mod SoundVerdicts
pub mod VerdictAnswers
