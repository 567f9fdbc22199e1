pub mod PartLaws
pub mod PlainStrings
