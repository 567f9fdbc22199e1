pub mod Bytes
pub mod Skips
pub mod Integers
pub mod Kinds
pub mod Contents
