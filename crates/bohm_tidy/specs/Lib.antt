pub mod Line
pub mod Plain
pub mod Settled
pub mod Tidied
