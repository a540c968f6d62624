pub mod Options
pub mod Checking
