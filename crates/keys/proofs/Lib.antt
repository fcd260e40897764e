pub mod PlateSizes
pub mod PlateBytes
pub mod PlateTrips
