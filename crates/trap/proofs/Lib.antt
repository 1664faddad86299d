mod FlippedVerdicts
mod SearchLaws
mod SoundTraps
mod TrapOutcome
pub mod TrapTests
