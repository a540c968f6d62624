pub mod Options
pub mod Taken
pub mod Explaining
pub mod Told
