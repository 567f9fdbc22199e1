pub mod Sentences
pub mod Excerpts
pub mod Explained
