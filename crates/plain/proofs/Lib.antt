pub mod PlainBlanks
pub mod PlainLaws
