pub mod Repair
pub mod inner
