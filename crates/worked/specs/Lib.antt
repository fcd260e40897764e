pub mod Script
pub mod Run
pub mod Examples
