pub mod Ends
pub mod Handoffs
