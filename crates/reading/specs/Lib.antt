pub mod Tokens
pub mod Owed
pub mod Readings
pub mod Kept
