pub mod Bodies
pub mod Literals
pub mod Decoding
pub mod Wrong
