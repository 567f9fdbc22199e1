pub mod Boundaries
pub mod GapBoundaries
pub mod NameBoundaries
pub mod Spurious
pub mod ScanCharacters
pub mod StructCharacters
