mod Counting
mod Serials
mod Strides
mod Seen
mod Viewed
mod Steppers
mod Based
mod Descents
mod Accounts
mod Coverage
pub mod ForCallers
