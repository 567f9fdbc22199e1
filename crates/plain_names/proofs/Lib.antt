pub mod NameRuns
pub mod PartLaws
pub mod PlainNames
pub mod Worked
