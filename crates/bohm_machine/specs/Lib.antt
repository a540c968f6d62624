pub mod Machines
pub mod Segments
pub mod Shares
pub mod Texts
pub mod Digests
pub mod Singles
