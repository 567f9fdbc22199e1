pub mod Forms
pub mod Tiles
