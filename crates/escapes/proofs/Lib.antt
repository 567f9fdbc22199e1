pub mod EscapeLaws
pub mod Bounded
pub mod Decoded
pub mod Closed
pub mod Worked
