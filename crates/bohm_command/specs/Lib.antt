pub mod Options
pub mod Taken
pub mod Faults
pub mod Endings
