pub mod Characters
pub mod Starts
pub mod Identifiers
pub mod Classify
pub mod Names
