pub mod Front
pub mod Stray
pub mod Skips
