pub mod Found
pub mod Floats
pub mod NameForms
pub mod IntegerForms
pub mod AttributeForms
pub mod TokenForms
pub mod ReadTiles
pub mod RawTiles
