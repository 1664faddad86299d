pub mod Searchable
pub mod Connection
pub mod RootParities
