mod Terms
mod LetLaw
mod RunLaw
mod Slots
mod CallLaw
pub mod ForCallers
