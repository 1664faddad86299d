pub mod Found
pub mod WordItems
pub mod Storing
pub mod Unpacking
pub mod Listing
pub mod Screened
