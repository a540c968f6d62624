mod Moves
mod Going
mod Ordered
mod Walks
mod Replying
mod Shares
mod Swept
mod SharedRest
pub mod ForCallers
