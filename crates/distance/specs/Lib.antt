pub mod States
pub mod Search
pub mod Walking
pub mod Tracing
pub mod Found
pub mod Gluing
