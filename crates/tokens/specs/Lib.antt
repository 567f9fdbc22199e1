pub mod Shapes
pub mod Token
pub mod Lexemes
pub mod Ron
