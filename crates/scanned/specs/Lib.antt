pub mod Characters
pub mod ByCharacters
