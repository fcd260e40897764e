pub mod First
pub mod Cover
pub mod Ranks
pub mod Rebuilds
pub mod Stores
