pub mod Settable
pub mod Searching
