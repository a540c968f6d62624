pub mod Ids
pub mod FirstLines
pub mod Meaning
pub mod Batches
pub mod Refusals
