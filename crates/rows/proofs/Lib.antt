pub mod RowLaws
pub mod OrderLaws
pub mod Worked
