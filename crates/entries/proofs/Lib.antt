pub mod LiteralLaws
pub mod NamedLaws
