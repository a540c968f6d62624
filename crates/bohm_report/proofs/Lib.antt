mod TextRefusals
mod ReadFaults
pub mod ForCallers
