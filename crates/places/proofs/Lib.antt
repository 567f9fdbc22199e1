pub mod LineLaws
pub mod ColumnLaws
pub mod Worked
