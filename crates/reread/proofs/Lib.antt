pub mod Walkable
pub mod EntryTokens
pub mod IntegerTokens
pub mod TokenKinds
pub mod Decodable
pub mod Retyped
pub mod Relisted
pub mod WideNames
