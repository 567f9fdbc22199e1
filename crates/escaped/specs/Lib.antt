pub mod Escape
pub mod Wrong
