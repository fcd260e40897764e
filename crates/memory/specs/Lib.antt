pub mod Refusals
pub mod Row
pub mod Cut
pub mod Octets
pub mod Seen
