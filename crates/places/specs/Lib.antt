pub mod Lines
pub mod Columns
pub mod Entries
pub mod Shown
