pub mod Pieces
pub mod Quoted
pub mod Raw
pub mod Strings
pub mod Chars
