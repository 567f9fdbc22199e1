pub mod Kinds
pub mod Grammar
pub mod Links
pub mod Steps
pub mod Walk
pub mod Refused
pub mod Nested
