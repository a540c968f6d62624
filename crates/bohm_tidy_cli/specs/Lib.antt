pub mod Options
pub mod Tidying
