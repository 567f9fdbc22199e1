pub mod Choices
pub mod Ranges
pub mod RowLaws
pub mod RowArrays
pub mod TableLaws
pub mod AsciiLaws
pub mod UsualLaws
