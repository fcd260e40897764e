pub mod Keys
pub mod Lines
pub mod Numbers
pub mod Reading
pub mod Texts
