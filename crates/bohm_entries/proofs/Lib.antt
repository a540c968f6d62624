mod Cutting
mod Reading
mod ByKind
mod Refusing
mod Storeless
pub mod ForCallers
