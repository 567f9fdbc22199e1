pub mod Kinds
pub mod Passes
pub mod Scan
pub mod Structs
