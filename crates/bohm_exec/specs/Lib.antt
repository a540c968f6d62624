pub mod Asides
pub mod Handed
pub mod Moments
pub mod Steps
pub mod Answers
pub mod Shares
pub mod Counts
