pub mod Headline
pub mod Times
pub mod Chunks
pub mod Streaming
pub mod Agreeing
