pub mod Refusing
pub mod FaultLine
pub mod Bytes
pub mod Answer
