mod Takings
mod Numbers
mod Flags
pub mod ForCallers
