pub mod Ascii
pub mod Decimal
pub mod Find
pub mod Input
pub mod Out
pub mod Over
