pub mod Preparing
pub mod Sharing
pub mod Parsing
pub mod Reading
