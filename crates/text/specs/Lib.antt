pub mod Refusals
pub mod Classes
pub mod Runs
pub mod Words
pub mod Utf8
pub mod Judged
pub mod Ahead
