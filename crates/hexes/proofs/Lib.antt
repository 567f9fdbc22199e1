pub mod Bits
pub mod HexLaws
