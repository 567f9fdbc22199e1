pub mod Packed
pub mod Words
pub mod Numbered
pub mod Arrivals
pub mod Whole
pub mod Version
pub mod inner
