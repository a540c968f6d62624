pub mod Resting
pub mod GoingOn
pub mod Joining
pub mod Digesting
pub mod Rising
mod OneBatch
pub mod ForCallers
mod Numbers
mod OneCall
