pub mod Opens
pub mod Passes
pub mod inner
