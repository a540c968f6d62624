pub mod Rows
pub mod Rules
pub mod Ledgers
pub mod Steps
pub mod Loading
pub mod Places
