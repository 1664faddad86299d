pub mod CallPlaces
pub mod Returned
pub mod Exported
