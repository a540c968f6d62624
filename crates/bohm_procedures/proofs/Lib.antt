pub mod KeySetLaws
pub mod SubstitutionLaws
pub mod InstanceLaw
pub mod Calling
pub mod OwnLaw
pub mod StatementLaws
mod CallLaws
pub mod ForCallers
