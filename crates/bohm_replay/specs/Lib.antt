pub mod Entries
pub mod Ruling
