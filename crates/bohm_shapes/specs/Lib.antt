pub mod Apart
pub mod Results
pub mod Filled
pub mod Running
pub mod Seeing
pub mod Made
pub mod Calls
