pub mod Lines
pub mod Taking
pub mod Knowing
pub mod Desks
