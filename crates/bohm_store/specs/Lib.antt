pub mod Versions
pub mod Chains
pub mod Held
pub mod Numbered
pub mod Places
pub mod Writes
pub mod Nexts
pub mod Runs
